-- Names, values and the text store: what is computed and what the relations say are the same.
use Rattle.std.proofs.Common.{◌≡◌, ℕ, zero, suc, ◌+◌, ◌-◌, ◌≤◌, Bool, true, false, ◌&&◌, ◌||◌, eqb, leb, ◌⊎◌, List, [], ◌∷◌, ◌++◌, length, get_or, take, drop, Some, None, Option, unwrap_or, sym, refl, ap, ◌∙◌, subst, ⊎_elim, arith}
use Rattle.std.specs.List.{AllByRecursion}
use Rattle.std.specs.Str.{bytes_eq}
use Rattle.std.proofs.lemmas.Slice.Eq.{bytes_eq-Decides}
use Rattle.std.proofs.lemmas.Bool.{cond_both, cases_Bool, eqb-true, eqb-false, eq-eqb, ne_eqb, leb-true, le-leb, and_parts, and_from, false≢true}
use Rattle.std.proofs.lemmas.Bool.Decides.{nat_tests}
use Rattle.byteclass.specs.Class.{class, name_byte, simple_byte}
use Rattle.cursor.specs.Scan.{up_to}
use Rattle.parts.specs.Parts.{Entry}
use Rattle.text.specs.Grammar.{Spaces, Name, Escape}
use Rattle.store.specs.Try.{Try, got, wrong, and_try}
use Rattle.values.specs.Expand.{front, blank, dollar, find, or_else, Scope, look, Piece, piece, expand_from, expand}
use Rattle.store.specs.Stores.{stored}
use Rattle.values.specs.Kept.{sized, received, Kept, keep}
use Rattle.store.specs.declared.wrong.Wrong.TheVariants.{Limit}
use Rattle.reader.specs.Expands.{Holds, Lacks, Stands, Simple, Expands, Receives, Keeps}
use Rattle.reader.proofs.Formed.{Formed, formed_past}

-- names are compared byte by byte
pub same_name : (m n : List ℕ) → m ≡ n → bytes_eq m n ≡ true
same_name m n e = (bytes_eq-Decides m n).1 e

pub other_name : (m n : List ℕ) → (m ≡ n → ⊥) → bytes_eq m n ≡ false
other_name m n d = ⊎_elim (λ t. absurd (d ((bytes_eq-Decides m n).0 t))) (λ f. f) (cases_Bool (bytes_eq m n))

pub named : (m n : List ℕ) → bytes_eq m n ≡ true → m ≡ n
named m n t = (bytes_eq-Decides m n).0 t

pub not_named : (m n : List ℕ) → bytes_eq m n ≡ false → m ≡ n → ⊥
not_named m n f e = false≢true (sym f ∙ same_name m n e)

none_some : {A : Type 0} (a : A) → None ≡ Some a → ⊥
none_some a e = let z : ◌≡◌ {A = ℕ} 0 1 = cc in omega arith

-- the variable that is found is the first of its name
pub find_holds : (es : List Entry) (n t : List ℕ) → find es n ≡ Some t → Holds es n t
find_holds [] n t e = absurd (none_some t e)
find_holds (x ∷ es) n t e =
    cond_both (bytes_eq x.name n) (Some x.value) (find es n) (λ o. o ≡ Some t → Holds (x ∷ es) n t)
    (λ q w. let v : x.value ≡ t = cc in subst (Holds (x ∷ es) n) v (Holds.here (named x.name n q)))
    (λ q w. Holds.there (not_named x.name n q) (find_holds es n t w))
    e

pub holds_find : {es : List Entry} {n t : List ℕ} → Holds es n t → find es n ≡ Some t
holds_find (Holds.here {e = x} {n = n} p) = rw (same_name x.name n p)
holds_find (Holds.there {e = x} {n = n} d h) = rw (other_name x.name n d) (holds_find h)

-- where none is found, none is called so
pub find_lacks : (es : List Entry) (n : List ℕ) → find es n ≡ None → Lacks es n
find_lacks [] n e = tt
find_lacks (x ∷ es) n e =
    cond_both (bytes_eq x.name n) (Some x.value) (find es n) (λ o. o ≡ None → Lacks (x ∷ es) n)
    (λ q w. absurd (none_some x.value (sym w)))
    (λ q w. (not_named x.name n q, find_lacks es n w))
    e

pub lacks_find : (es : List Entry) (n : List ℕ) → Lacks es n → find es n ≡ None
lacks_find [] n h = refl
lacks_find (x ∷ es) n h = rw (other_name x.name n h.0) (lacks_find es n h.1)

-- what a name stands for is the text that is looked up
pub stands_look : {c : Scope} {n t : List ℕ} → Stands c n t → look c n ≡ t
stands_look (Stands.special h) = rw (holds_find h)
stands_look {c = c} {n = n} (Stands.block l h) = rw (lacks_find c.special n l, holds_find h)
stands_look {c = c} {n = n} (Stands.file l m h) = rw (lacks_find c.special n l, lacks_find c.block n m, holds_find h)
stands_look {c = c} {n = n} (Stands.nowhere l m k) = rw (lacks_find c.special n l, lacks_find c.block n m, lacks_find c.file n k)

file_stands : (c : Scope) (n : List ℕ) (o : Option (List ℕ)) → Lacks c.special n → Lacks c.block n → find c.file n ≡ o → Stands c n (unwrap_or o [])
file_stands c n None l m e = Stands.nowhere l m (find_lacks c.file n e)
file_stands c n (Some t) l m e = Stands.file l m (find_holds c.file n t e)

block_stands : (c : Scope) (n : List ℕ) (o : Option (List ℕ)) → Lacks c.special n → find c.block n ≡ o → Stands c n (unwrap_or (or_else o (find c.file n)) [])
block_stands c n None l e = file_stands c n (find c.file n) l (find_lacks c.block n e) refl
block_stands c n (Some t) l e = Stands.block l (find_holds c.block n t e)

special_stands : (c : Scope) (n : List ℕ) (o : Option (List ℕ)) → find c.special n ≡ o → Stands c n (unwrap_or (or_else o (or_else (find c.block n) (find c.file n))) [])
special_stands c n None e = block_stands c n (find c.block n) (find_lacks c.special n e) refl
special_stands c n (Some t) e = Stands.special (find_holds c.special n t e)

-- a name stands for the text that is looked up
pub look_stands : (c : Scope) (n : List ℕ) → Stands c n (look c n)
look_stands c n = special_stands c n (find c.special n) refl

-- r is what is left of s after the bytes at its front that pass the test
record Cut (p : ℕ → Bool) (s r : List ℕ) : Type 0 where
  size : front p s + length r ≡ length s
  rest : drop (front p s) s ≡ r

cut_none : (p : ℕ → Bool) (s : List ℕ) → p (get_or s 0 0) ≡ false → Cut p s s
cut_none p [] f = record { size = refl; rest = refl }
cut_none p (b ∷ s) f = record { size = rw f (omega arith); rest = rw f }

cut_more : (p : ℕ → Bool) (b : ℕ) (s r : List ℕ) → p b ≡ true → Cut p s r → Cut p (b ∷ s) r
cut_more p b s r t h = record { size = rw t (omega (arith, h.size)); rest = rw t h.rest }

cut_text : (p : ℕ → Bool) (s r : List ℕ) → Cut p s r → take (front p s) s ≡ up_to s r
cut_text p s r h = let e : front p s ≡ length s - length r = omega (arith, h.size) in ap (λ n. take n s) e

spaces_cut : {s r : List ℕ} → Spaces s r → Cut blank s r
spaces_cut (Spaces.none {s = s} n) = cut_none blank s (ne_eqb (get_or s 0 0) 32 n)
spaces_cut (Spaces.space {b = b} {s = s} {r = r} p h) = cut_more blank b s r (eq-eqb b 32 p) (spaces_cut h)

name_cut : {s r : List ℕ} → Name s r → Cut name_byte s r
name_cut (Name.last {b = b} {s = s} t n) = cut_more name_byte b s s t (cut_none name_byte s n)
name_cut (Name.more {b = b} {s = s} {r = r} t h) = cut_more name_byte b s r t (name_cut h)

simple_cut : {s r : List ℕ} → Simple s r → Cut simple_byte s r
simple_cut (Simple.last {b = b} {s = s} t n) = cut_more simple_byte b s s t (cut_none simple_byte s n)
simple_cut (Simple.more {b = b} {s = s} {r = r} t h) = cut_more simple_byte b s r t (simple_cut h)

-- the byte c has no meaning of its own after a `$`, as the bytes of simple names
record Ordinary (c : ℕ) : Type 0 where
  line : eqb c 10 ≡ false
  itself : (eqb c 32 || (eqb c 58 || eqb c 36)) ≡ false
  brace : eqb c 123 ≡ false

not_simple : (c k : ℕ) → simple_byte c ≡ true → simple_byte k ≡ false → eqb c k ≡ false
not_simple c k t f = ne_eqb c k (λ e. false≢true (sym f ∙ ap simple_byte (sym e) ∙ t))

simple_plain : (c : ℕ) → simple_byte c ≡ true → Ordinary c
unfolding class
simple_plain c t =
    record {
      line = not_simple c 10 t refl;
      itself = rw (not_simple c 32 t refl, not_simple c 58 t refl, not_simple c 36 t refl);
      brace = not_simple c 123 t refl;
    }

simple_0 : simple_byte 0 ≡ false
unfolding class
simple_0 = refl

simple_36 : simple_byte 36 ≡ false
unfolding class
simple_36 = refl

spaces_front : (s : List ℕ) → Spaces s (drop (front blank s) s)
spaces_front [] = Spaces.none (λ q. omega arith)
spaces_front (b ∷ s) =
    cond_both (blank b) (suc (front blank s)) 0 (λ k. Spaces (b ∷ s) (drop k (b ∷ s)))
    (λ t. Spaces.space (eqb-true b 32 t) (spaces_front s)) (λ n. Spaces.none (eqb-false b 32 n))

simple_front : (b : ℕ) (s : List ℕ) → simple_byte b ≡ true → Simple (b ∷ s) (drop (front simple_byte s) s)
simple_front b [] t = Simple.last t simple_0
simple_front b (c ∷ s) t =
    cond_both (simple_byte c) (suc (front simple_byte s)) 0 (λ k. Simple (b ∷ c ∷ s) (drop k (c ∷ s)))
    (λ u. Simple.more t (simple_front c s u)) (λ n. Simple.last t n)

drop_next : (s : List ℕ) (k d : ℕ) (r : List ℕ) → drop k s ≡ d ∷ r → drop (suc k) s ≡ r
drop_next [] zero d r e = absurd (let z : ◌≡◌ {A = ℕ} 0 1 = cc in omega arith)
drop_next [] (suc k) d r e = absurd (let z : ◌≡◌ {A = ℕ} 0 1 = cc in omega arith)
drop_next (b ∷ s) zero d r e = cc
drop_next (b ∷ s) (suc k) d r e = drop_next s k d r e

module _ (f : List ℕ → List ℕ) where
  past : (k : ℕ) (s : List ℕ) → expand_from f k s ≡ expand_from f 0 (drop k s)
  past zero s = refl
  past (suc k) [] = refl
  past (suc k) (b ∷ s) = past k s

  -- the piece of a simple name
  piece_simple : (c : ℕ) (s : List ℕ) → simple_byte c ≡ true → piece f (c ∷ s) ≡ record { text = f (take (front simple_byte (c ∷ s)) (c ∷ s)); taken = front simple_byte (c ∷ s) }
  piece_simple c s t = let w = simple_plain c t in rw (w.line, w.itself, w.brace)

  piece_itself : (c : ℕ) (s : List ℕ) → (c ≡ 32) ⊎ ((c ≡ 58) ⊎ (c ≡ 36)) → piece f (c ∷ s) ≡ record { text = c ∷ []; taken = 1 }
  piece_itself c s q =
      let n : eqb c 10 ≡ false = ne_eqb c 10 (λ e. grind (arith, nat_tests)) in
      let t : (eqb c 32 || (eqb c 58 || eqb c 36)) ≡ true = grind (arith, nat_tests) in
      rw (n, t)

  piece_wrap : (c : ℕ) (s : List ℕ) → c ≡ 10 → piece f (c ∷ s) ≡ record { text = []; taken = suc (front blank s) }
  piece_wrap c s q = rw q

  piece_braces : (c : ℕ) (s : List ℕ) → c ≡ 123 → piece f (c ∷ s) ≡ record { text = f (take (front name_byte s) s); taken = suc (suc (front name_byte s)) }
  piece_braces c s q = rw q

  simple_piece : {s r : List ℕ} → Simple s r → piece f s ≡ record { text = f (take (front simple_byte s) s); taken = front simple_byte s }
  simple_piece (Simple.last {b = b} {s = s} t n) = piece_simple b s t
  simple_piece (Simple.more {b = b} {s = s} t h) = piece_simple b s t

  -- past k bytes and the byte d after them
  after : (s : List ℕ) (k d : ℕ) (r : List ℕ) → drop k s ≡ d ∷ r → expand_from f (suc k) s ≡ expand_from f 0 r
  after s k d r e = past (suc k) s ∙ ap (expand_from f 0) (drop_next s k d r e)

  -- a `$` with its piece
  dollar_piece : (b : ℕ) (s : List ℕ) (w : Piece) → b ≡ 36 → piece f s ≡ w → expand_from f 0 (b ∷ s) ≡ w.text ++ expand_from f w.taken s
  dollar_piece b s w p e = rw (p, e)

  -- what a relation of names says is what f answers
  module _ (Is : List ℕ → List ℕ → Type 0) (same : (n t : List ℕ) → Is n t → f n ≡ t) where
    from_sound : {v t : List ℕ} → Expands Is v t → expand_from f 0 v ≡ t
    from_sound Expands.end = refl
    from_sound (Expands.plain {b = b} n h) = rw (ne_eqb b 36 n) (ap (λ z. b ∷ z) (from_sound h))
    from_sound (Expands.wrap {b = b} {c = c} {s = s} p q g h) =
        dollar_piece b (c ∷ s) _ p (piece_wrap c s q) ∙ past (front blank s) s ∙ ap (expand_from f 0) (spaces_cut g).rest ∙ from_sound h
    from_sound (Expands.itself {b = b} {c = c} {s = s} p q h) = dollar_piece b (c ∷ s) _ p (piece_itself c s q) ∙ ap (λ z. c ∷ z) (from_sound h)
    from_sound (Expands.braces {b = b} {c = c} {d = d} {s = s} {r = r} {u = u} {t = t} p q g e i h) =
        let k = name_cut g in
        let x : f (take (front name_byte s) s) ≡ u = ap f (cut_text name_byte s (d ∷ r) k) ∙ same (up_to s (d ∷ r)) u i in
        let y : expand_from f (suc (front name_byte s)) s ≡ t = after s (front name_byte s) d r k.rest ∙ from_sound h in
        dollar_piece b (c ∷ s) _ p (piece_braces c s q) ∙ ap (λ z. z ++ expand_from f (suc (front name_byte s)) s) x ∙ ap (λ z. u ++ z) y
    from_sound (Expands.simple {b = b} {s = s} {r = r} {u = u} {t = t} p g i h) =
        let k = simple_cut g in
        let x : f (take (front simple_byte s) s) ≡ u = ap f (cut_text simple_byte s r k) ∙ same (up_to s r) u i in
        let y : expand_from f (front simple_byte s) s ≡ t = past (front simple_byte s) s ∙ ap (expand_from f 0) k.rest ∙ from_sound h in
        dollar_piece b s _ p (simple_piece g) ∙ ap (λ z. z ++ expand_from f (front simple_byte s) s) x ∙ ap (λ z. u ++ z) y

  -- what f answers is what a relation of names says
  module _ (Is : List ℕ → List ℕ → Type 0) (all : (n : List ℕ) → Is n (f n)) where
    -- what is left of s after k bytes expands
    abbrev On : List ℕ → Type 0
    On s = (k : ℕ) → Formed (drop k s) → Expands Is (drop k s) (expand_from f k s)

    escape_on : (b : ℕ) {s t : List ℕ} → b ≡ 36 → Escape s t → Formed t → On s → Expands Is (b ∷ s) (expand_from f 0 (b ∷ s))
    escape_on b p (Escape.itself {c = c} {s = s} q) h on =
        subst (Expands Is (b ∷ c ∷ s)) (sym (dollar_piece b (c ∷ s) _ p (piece_itself c s q))) (Expands.itself p q (on 1 h))
    escape_on b p (Escape.simple {c = c} {s = s} q) h on =
        let g = simple_front c s q in
        let k = front simple_byte s in
        let e : front simple_byte (c ∷ s) ≡ suc k = rw q in
        let x : take (suc k) (c ∷ s) ≡ up_to (c ∷ s) (drop k s) = ap (λ n. take n (c ∷ s)) (sym e) ∙ cut_text simple_byte (c ∷ s) (drop k s) (simple_cut g) in
        let y : expand_from f 0 (b ∷ c ∷ s) ≡ f (up_to (c ∷ s) (drop k s)) ++ expand_from f k s =
        dollar_piece b (c ∷ s) _ p (piece_simple c s q) ∙ ap (λ n. f (take n (c ∷ s)) ++ expand_from f n (c ∷ s)) e ∙ ap (λ z. f z ++ expand_from f k s) x in
        subst (Expands Is (b ∷ c ∷ s)) (sym y) (Expands.simple p g (all (up_to (c ∷ s) (drop k s))) (on (suc k) (formed_past simple_byte simple_36 h)))
    escape_on b p (Escape.braces {c = c} {d = d} {s = s} {t = t} q n e) h on =
        let k = front name_byte s in
        let w = name_cut n in
        let r : drop (suc k) s ≡ t = drop_next s k d t w.rest in
        let y : expand_from f 0 (b ∷ c ∷ s) ≡ f (up_to s (d ∷ t)) ++ expand_from f (suc k) s =
        dollar_piece b (c ∷ s) _ p (piece_braces c s q) ∙ ap (λ z. f z ++ expand_from f (suc k) s) (cut_text name_byte s (d ∷ t) w) in
        subst (Expands Is (b ∷ c ∷ s)) (sym y)
        (Expands.braces p q n e (all (up_to s (d ∷ t))) (subst (λ z. Expands Is z (expand_from f (suc k) s)) r (on (suc (suc k)) (subst Formed (sym r) h))))

    formed_on : {v : List ℕ} → Formed v → On (drop 1 v) → Expands Is v (expand_from f 0 v)
    formed_on Formed.end on = Expands.end
    formed_on (Formed.plain {b = b} n h) on = rw (ne_eqb b 36 n) (Expands.plain n (on 0 h))
    formed_on (Formed.wrap {b = b} {c = c} {s = s} p q h) on =
        subst (Expands Is (b ∷ c ∷ s)) (sym (dollar_piece b (c ∷ s) _ p (piece_wrap c s q)))
        (Expands.wrap p q (spaces_front s) (on (suc (front blank s)) (formed_past blank refl h)))
    formed_on (Formed.escape {b = b} p e h) on = escape_on b p e h on

    from_full : (s : List ℕ) → On s
    from_full [] zero h = Expands.end
    from_full [] (suc k) h = Expands.end
    from_full (b ∷ s) zero h = formed_on h (from_full s)
    from_full (b ∷ s) (suc k) h = from_full s k h

-- a source that stands for a text expands to it
pub expands_sound : {c : Scope} {v t : List ℕ} → Expands (Stands c) v t → expand (look c) v ≡ t
unfolding expand
expands_sound {c = c} h = from_sound (look c) (Stands c) (λ n t g. stands_look g) h

-- a formed source stands for what it expands to
pub expands_full : (c : Scope) {v : List ℕ} → Formed v → Expands (Stands c) v (expand (look c) v)
unfolding expand
expands_full c {v} h = from_full (look c) (Stands c) (look_stands c) v 0 h

-- no byte is a `$`
abbrev pub NoDollar : List ℕ → Type 0
NoDollar v = AllByRecursion (λ b. b ≡ 36 → ⊥) v

-- a source without `$` has no byte that is one
pub dollar_none : (v : List ℕ) → dollar v ≡ false → NoDollar v
dollar_none [] e = tt
dollar_none (b ∷ v) e =
    cond_both (eqb b 36) true (dollar v) (λ x. x ≡ false → NoDollar (b ∷ v))
    (λ _ q. absurd (false≢true (sym q))) (λ n q. (eqb-false b 36 n, dollar_none v q)) e

pub none_dollar : (v : List ℕ) → NoDollar v → dollar v ≡ false
none_dollar [] h = refl
none_dollar (b ∷ v) h = rw (ne_eqb b 36 h.0) (none_dollar v h.1)

some_dollar : (v : List ℕ) → (NoDollar v → ⊥) → dollar v ≡ true
some_dollar v n = ⊎_elim (λ t. t) (λ f. absurd (n (dollar_none v f))) (cases_Bool (dollar v))

-- a text of the allowed size
pub record Sized (low high : ℕ) (t : List ℕ) : Type 0 where
  pub least : low ≤ length t
  pub most : length t ≤ high

pub got_same : {A : Type 0} (x y : A) → got x ≡ got y → x ≡ y
got_same x y e = cc

pub wrong_got : {A : Type 0} (x : A) → wrong Limit ≡ got x → ⊥
wrong_got x e = let z : ◌≡◌ {A = ℕ} 0 1 = cc in omega arith

pub sized_got : (low high : ℕ) (t : List ℕ) → low ≤ length t → length t ≤ high → sized low high t ≡ got t
sized_got low high t l m =
    let b : (leb low (length t) && leb (length t) high) ≡ true = and_from (leb low (length t)) (leb (length t) high) (le-leb low (length t) l) (le-leb (length t) high m) in
    rw b

pub got_sized : (low high : ℕ) (t u : List ℕ) → sized low high t ≡ got u → (t ≡ u) × Sized low high t
got_sized low high t u e =
    cond_both (leb low (length t) && leb (length t) high) (got t) (wrong Limit) (λ x. x ≡ got u → (t ≡ u) × Sized low high t)
    (λ b q. let w = and_parts (leb low (length t)) (leb (length t) high) b in
    (got_same t u q, record { least = leb-true low (length t) w.0; most = leb-true (length t) high w.1 }))
    (λ _ q. absurd (wrong_got u q))
    e

receives_got : {s v t u : List ℕ} → Receives s v t u → received s v t ≡ got u
receives_got (Receives.nothing {v = v} h) = rw (none_dollar v h)
receives_got (Receives.text {s = s} {v = v} {t = t} n l) = rw (some_dollar v n, le-leb (length s + length t) 32768 l)

got_receives : (s v t u : List ℕ) → received s v t ≡ got u → Receives s v t u
got_receives s v t u e =
    cond_both (dollar v) (stored s t) (got s) (λ x. x ≡ got u → Receives s v t u)
    (λ d q.
    cond_both (leb (length s + length t) 32768) (got (s ++ t)) (wrong Limit) (λ x. x ≡ got u → Receives s v t u)
    (λ l w. subst (Receives s v t) (got_same (s ++ t) u w) (Receives.text (λ n. false≢true (sym (none_dollar v n) ∙ d)) (leb-true (length s + length t) 32768 l)))
    (λ _ w. absurd (wrong_got u w))
    q)
    (λ f q. subst (Receives s v t) (got_same s u q) (Receives.nothing (dollar_none v f)))
    e

-- what is kept by the relation is what is kept
pub keep_sound : (low high : ℕ) (c : Scope) (s v t u : List ℕ) → Keeps low high c s v t u → keep low high c s v ≡ got (record { text = t; store = u })
keep_sound low high c s v t u h =
    rw (expands_sound h.stands, sized_got low high t h.least h.most, receives_got h.receives)

-- the value between two steps that succeed
pub record Parts {A B : Type 0} (o : Try A) (f : A → Try B) (b : B) : Type 0 where
  pub value : A
  pub first : o ≡ got value
  pub second : f value ≡ got b

pub got_parts : {A B : Type 0} (o : Try A) (f : A → Try B) (b : B) → and_try o f ≡ got b → Parts o f b
got_parts (got a) f b e = record { value = a; first = refl; second = e }
got_parts (wrong w) f b e = absurd (let z : ◌≡◌ {A = ℕ} 0 1 = cc in omega arith)

-- what is kept of a formed source is what is kept by the relation
pub keep_full : (low high : ℕ) (c : Scope) (s v : List ℕ) (k : Kept) → Formed v → keep low high c s v ≡ got k → Keeps low high c s v k.text k.store
keep_full low high c s v k h e =
    let w = got_parts (sized low high (expand (look c) v)) _ k e in
    let z = got_sized low high (expand (look c) v) w.value w.first in
    let y = got_parts (received s v w.value) _ k w.second in
    let m : Keeps low high c s v w.value y.value =
    record {
      stands = subst (Expands (Stands c) v) z.0 (expands_full c h);
      least = subst (λ t. low ≤ length t) z.0 z.1.least;
      most = subst (λ t. length t ≤ high) z.0 z.1.most;
      receives = got_receives s v w.value y.value y.first;
    } in
    subst (λ (x : Kept). Keeps low high c s v x.text x.store) (got_same _ k y.second) m
