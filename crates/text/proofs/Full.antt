-- What is of the grammar is read.
use Rattle.std.proofs.Common.{◌≡◌, ℕ, suc, ◌+◌, Bool, true, false, ◌&&◌, ◌||◌, eqb, ◌⊎◌, List, [], ◌∷◌, get_or, take, drop, sym, refl, ap, ◌∙◌, subst, add-zero, arith}
use Rattle.std.proofs.lemmas.Bool.{cond_both, eqb-true, eq-eqb, ne_eqb, and_parts, and_from, false≢true, lt-ltb}
use Rattle.std.proofs.lemmas.List.{get_or-drop}
use Rattle.std.proofs.lemmas.Bool.Decides.{nat_tests}
use Rattle.byteclass.specs.Class.{class, name_byte, simple_byte}
use Rattle.cursor.specs.Scan.{Out, ok, bad, and_then, up_to, name_len, name_of, name, spaces, gap, comment, byte, scan, value, stops, walk, path, braced, escaped}
use Rattle.cursor.specs.declared.place.Opens.{Opens}
use Rattle.cursor.proofs.Steps.{name_within, gap_space, gap_wrap, scan_line, scan_plain, walk_blank, walk_plain}
use Rattle.text.specs.Grammar.{Spaces, Gap, Comment, Name, Escape, Value, Path}
use Rattle.text.proofs.Sound.{not_name, name_10, name_36, up_to_drop, name_stops}

-- a reading succeeds with a, and r is left
abbrev pub Reads : {A : Type 0} → A → List ℕ → Out A → Type 0
Reads a r (ok b j t) = (b ≡ a) × (t ≡ r)
Reads a r (bad f) = ⊥

pub then_reads : {A B : Type 0} (a : A) (r : List ℕ) (Q : Out B → Type 0) (o : Out A) (f : A → ℕ → List ℕ → Out B) → Reads a r o → ((j : ℕ) → Q (f a j r)) → Q (and_then o f)
then_reads a r Q (ok b j t) f h k = subst (λ x. Q (f x j t)) (sym h.0) (subst (λ y. Q (f a j y)) (sym h.1) (k j))
then_reads a r Q (bad e) f h k = absurd h

simple_10 : simple_byte 10 ≡ false
unfolding class
simple_10 = refl

simple_123 : simple_byte 123 ≡ false
unfolding class
simple_123 = refl

not_simple : (b k : ℕ) → simple_byte b ≡ true → simple_byte k ≡ false → b ≡ k → ⊥
not_simple b k t f e = false≢true (sym f ∙ ap simple_byte (sym e) ∙ t)

spaces_here : (s : List ℕ) (i : ℕ) → (get_or s 0 0 ≡ 32 → ⊥) → Reads tt s (spaces i s)
spaces_here [] i n = (refl, refl)
spaces_here (b ∷ s) i n = rw (ne_eqb b 32 n) (refl, refl)

pub spaces_full : {s r : List ℕ} → Spaces s r → (i : ℕ) → Reads tt r (spaces i s)
spaces_full (Spaces.none {s = s} n) i = spaces_here s i n
spaces_full (Spaces.space p h) i = rw p (spaces_full h (i + 1))

gap_here : (s : List ℕ) (i : ℕ) → (get_or s 0 0 ≡ 32 → ⊥) → (get_or s 0 0 ≡ 36 → get_or s 1 0 ≡ 10 → ⊥) → Reads tt s (gap i s)
gap_here [] i n m = (refl, refl)
gap_here (b ∷ []) i n m = rw (ne_eqb b 32 n) (refl, refl)
gap_here (b ∷ c ∷ s) i n m =
    rw (ne_eqb b 32 n)
    (cond_both (eqb b 36 && eqb c 10) _ _ (Reads tt (b ∷ c ∷ s))
    (λ t. let w = and_parts (eqb b 36) (eqb c 10) t in absurd (m (eqb-true b 36 w.0) (eqb-true c 10 w.1)))
    (λ _. (refl, refl)))

pub gap_full : {s r : List ℕ} → Gap s r → (i : ℕ) → Reads tt r (gap i s)
gap_full (Gap.none {s = s} n m) i = gap_here s i n m
gap_full {r = r} (Gap.space {b = x} {s = t} p h) i = subst (Reads tt r) (gap_space i (i + 1) (x ∷ t) t (omega arith) p refl refl) (gap_full h (i + 1))
gap_full {r = r} (Gap.wrap {b = x} {c = y} {s = t} p q h) i = subst (Reads tt r) (gap_wrap i (i + 2) (x ∷ y ∷ t) t (omega arith) p q refl refl) (gap_full h (i + 2))

pub comment_full : {s r : List ℕ} → Comment s r → (i : ℕ) → Reads tt r (comment i s)
comment_full (Comment.end p) i = rw p (refl, refl)
comment_full (Comment.more {b = b} n h) i = rw (ne_eqb b 10 n) (comment_full h (i + 1))

pub byte_full : (k b : ℕ) (o : Opens) (r : List ℕ) (i : ℕ) → b ≡ k → Reads tt r (byte k o i (b ∷ r))
byte_full k b o r i p = rw (eq-eqb b k p) (refl, refl)

record NameRun (s r : List ℕ) : Type 0 where
  more : ℕ
  long : name_len s ≡ suc more
  rest : drop (suc more) s ≡ r

none_long : (s : List ℕ) → name_byte (get_or s 0 0) ≡ false → name_len s ≡ 0
none_long [] n = refl
none_long (b ∷ s) n = rw n

name_run : {s r : List ℕ} → Name s r → NameRun s r
name_run (Name.last {s = s} t n) = record { more = 0; long = rw t (ap suc (none_long s n)); rest = refl }
name_run (Name.more t h) =
    let k = name_run h in
    record { more = suc k.more; long = rw t (ap suc k.long); rest = k.rest }

pub name_full : (s r : List ℕ) → Name s r → (o : Opens) (i : ℕ) → Reads (up_to s r) r (name o i s)
name_full s r h o i =
    let k = name_run h in
    let e : take (suc k.more) s ≡ up_to s r = sym (up_to_drop s (suc k.more) (omega (arith, name_within s, k.long))) ∙ ap (up_to s) k.rest in
    subst (λ m. Reads (up_to s r) r (name_of o m i s)) (sym k.long) (e, k.rest)

-- past the bytes of a name, for a reading g to which they are plain
pass_name : {s u : List ℕ} → Name s u → (g : ℕ → List ℕ → Out (Unit {0})) → ((i b : ℕ) (t : List ℕ) → name_byte b ≡ true → g (i + 1) t ≡ g i (b ∷ t)) → (Q : Out (Unit {0}) → Type 0) → ((j : ℕ) → Q (g j u)) → (i : ℕ) → Q (g i s)
pass_name (Name.last {b = b} {s = s} t n) g on Q k i = subst Q (on i b s t) (k (i + 1))
pass_name (Name.more {b = b} {s = s} t h) g on Q k i = subst Q (on i b s t) (pass_name h g on Q k (i + 1))

braced_full : (s t : List ℕ) (d : ℕ) → Name s (d ∷ t) → d ≡ 125 → braced s ≡ true
braced_full s t d h p =
    let k = name_run h in
    let at : get_or s (name_len s) 0 ≡ 125 = ap (λ n. get_or s n 0) (k.long ∙ sym (add-zero (suc k.more))) ∙ sym (get_or-drop (suc k.more) s 0 0) ∙ ap (λ l. get_or l 0 0) k.rest ∙ p in
    and_from _ _ (lt-ltb _ _ (omega (arith, k.long))) (eq-eqb _ _ at)

escaped_itself : (c : ℕ) (s : List ℕ) → (c ≡ 32) ⊎ ((c ≡ 58) ⊎ (c ≡ 36)) → escaped (c ∷ s) ≡ true
escaped_itself c s q = let t : (eqb c 10 || (eqb c 32 || (eqb c 58 || eqb c 36))) ≡ true = grind (arith, nat_tests) in rw t

escaped_simple : (c : ℕ) (s : List ℕ) → simple_byte c ≡ true → escaped (c ∷ s) ≡ true
escaped_simple c s q =
    rw (ne_eqb c 123 (not_simple c 123 q simple_123))
    (cond_both (eqb c 10 || (eqb c 32 || (eqb c 58 || eqb c 36))) true (simple_byte c) (λ x. x ≡ true) (λ _. refl) (λ _. q))

-- past an escape, for a reading g that looks ahead at it and then goes on byte by byte
module _ (g : ℕ → List ℕ → Out (Unit {0})) (jump : (i b c : ℕ) (s : List ℕ) → b ≡ 36 → escaped (c ∷ s) ≡ true → (c ≡ 10 → ⊥) → g (i + 2) s ≡ g i (b ∷ c ∷ s)) (on : (i b : ℕ) (t : List ℕ) → name_byte b ≡ true → g (i + 1) t ≡ g i (b ∷ t)) (brace : (i b : ℕ) (t : List ℕ) → b ≡ 125 → g (i + 1) t ≡ g i (b ∷ t)) where
  pub pass_escape : {s t : List ℕ} → Escape s t → (Q : Out (Unit {0}) → Type 0) → ((j : ℕ) → Q (g j t)) → (i b : ℕ) → b ≡ 36 → Q (g i (b ∷ s))
  pass_escape (Escape.itself {c = c} {s = s} q) Q k i b p = subst Q (jump i b c s p (escaped_itself c s q) (λ e. grind (arith, nat_tests))) (k (i + 2))
  pass_escape (Escape.simple {c = c} {s = s} q) Q k i b p = subst Q (jump i b c s p (escaped_simple c s q) (not_simple c 10 q simple_10)) (k (i + 2))
  pass_escape (Escape.braces {c = c} {d = d} {s = s} {t = t} q w z) Q k i b p =
      let e : escaped (c ∷ s) ≡ true = rw (q, braced_full s t d w z) in
      subst Q (jump i b c s p e (λ (x : c ≡ 10). omega arith))
      (pass_name w g on Q (λ j. subst Q (brace j d t z) (k (j + 1))) (i + 2))

scan_jump : (i b c : ℕ) (s : List ℕ) → b ≡ 36 → escaped (c ∷ s) ≡ true → scan (i + 2) s ≡ scan i (b ∷ c ∷ s)
scan_jump i b c s p e = rw (p, e)

scan_on : (i b : ℕ) (t : List ℕ) → name_byte b ≡ true → scan (i + 1) t ≡ scan i (b ∷ t)
scan_on i b t h = scan_plain i (i + 1) (b ∷ t) t (omega arith) (not_name b 10 h name_10) (not_name b 36 h name_36) refl refl

scan_brace : (i b : ℕ) (t : List ℕ) → b ≡ 125 → scan (i + 1) t ≡ scan i (b ∷ t)
scan_brace i b t h = scan_plain i (i + 1) (b ∷ t) t (omega arith) (λ (x : b ≡ 10). omega arith) (λ (x : b ≡ 36). omega arith) refl refl

pub scan_full : {s r : List ℕ} → Value s r → (i : ℕ) → Reads tt r (scan i s)
scan_full (Value.end {b = b} {s = s} p) i = subst (Reads tt (b ∷ s)) (sym (scan_line i (b ∷ s) (omega arith) p)) (refl, refl)
scan_full {r = r} (Value.plain {b = b} {s = s} n m v) i = subst (Reads tt r) (scan_plain i (i + 1) (b ∷ s) s (omega arith) n m refl refl) (scan_full v (i + 1))
scan_full {r = r} (Value.wrap {b = b} {c = c} {s = s} p q v) i = subst (Reads tt r) (scan_jump i b c s p (rw q)) (scan_full v (i + 2))
scan_full {r = r} (Value.escape {b = b} {s = s} p h v) i =
    pass_escape scan (λ j x c t q e _. scan_jump j x c t q e) scan_on scan_brace h (Reads tt r) (λ j. scan_full v j) i b p

pub value_full : (s r : List ℕ) → Value s r → (i : ℕ) → Reads (up_to s r) r (value i s)
value_full s r v i = then_reads tt r (Reads (up_to s r) r) (scan i s) _ (scan_full v i) (λ j. (refl, refl))

-- a byte that ends no path is none of those that do
not_stop : (b k : ℕ) → stops b ≡ false → stops k ≡ true → b ≡ k → ⊥
not_stop b k f t e = false≢true (sym f ∙ ap stops e ∙ t)

walk_go : (w : Bool) (i b : ℕ) (t : List ℕ) → stops b ≡ false → (b ≡ 36 → ⊥) → walk false (i + 1) t ≡ walk w i (b ∷ t)
walk_go w i b t f m =
    walk_plain w i (i + 1) (b ∷ t) t (omega arith) (not_stop b 32 f refl) (not_stop b 58 f refl) (not_stop b 124 f refl) (not_stop b 10 f refl) m refl refl

walk_jump : (w : Bool) (i b c : ℕ) (s : List ℕ) → b ≡ 36 → escaped (c ∷ s) ≡ true → walk (eqb c 10) (i + 2) s ≡ walk w i (b ∷ c ∷ s)
walk_jump true i b c s p e = rw (p, e)
walk_jump false i b c s p e = rw (p, e)

-- the first byte of a path is read alike after a continuation, if it is no space
first_byte : (w : Bool) (i b : ℕ) (s : List ℕ) → (b ≡ 32 → ⊥) → walk false i (b ∷ s) ≡ walk w i (b ∷ s)
first_byte true i b [] n = rw (ne_eqb b 32 n)
first_byte true i b (c ∷ s) n = rw (ne_eqb b 32 n)
first_byte false i b s n = refl

walk_end : (w : Bool) (i b : ℕ) (s : List ℕ) → stops b ≡ true → (w ≡ true → b ≡ 32 → ⊥) → Reads tt (b ∷ s) (walk w i (b ∷ s))
walk_end true i b [] t n = let f = ne_eqb b 32 (n refl) in rw (f, simp f at t) (refl, refl)
walk_end true i b (c ∷ s) t n = let f = ne_eqb b 32 (n refl) in rw (f, simp f at t) (refl, refl)
walk_end false i b [] t n = rw t (refl, refl)
walk_end false i b (c ∷ s) t n = rw t (refl, refl)

walk_brace : (i b : ℕ) (t : List ℕ) → b ≡ 125 → walk false (i + 1) t ≡ walk false i (b ∷ t)
walk_brace i b t e = walk_go false i b t (rw e refl) (λ (x : b ≡ 36). omega arith)

walk_name : (i b : ℕ) (t : List ℕ) → name_byte b ≡ true → walk false (i + 1) t ≡ walk false i (b ∷ t)
walk_name i b t h = walk_go false i b t (name_stops b h) (not_name b 36 h name_36)

walk_escaped : (i b c : ℕ) (s : List ℕ) → b ≡ 36 → escaped (c ∷ s) ≡ true → (c ≡ 10 → ⊥) → walk false (i + 2) s ≡ walk false i (b ∷ c ∷ s)
walk_escaped i b c s p e n = ap (λ v. walk v (i + 2) s) (sym (ne_eqb c 10 n)) ∙ walk_jump false i b c s p e

after_spaces : {s t : List ℕ} → Spaces s t → (Q : Out (Unit {0}) → Type 0) → ((j : ℕ) → (get_or t 0 0 ≡ 32 → ⊥) → Q (walk true j t)) → (i : ℕ) → Q (walk true i s)
after_spaces (Spaces.none n) Q k i = k i n
after_spaces (Spaces.space {b = b} {s = s} p h) Q k i =
    subst Q (walk_blank true i (i + 1) (b ∷ s) s refl (omega arith) p refl refl) (after_spaces h Q k (i + 1))

pub walk_full : {s r : List ℕ} → Path s r → (w : Bool) → (w ≡ true → get_or s 0 0 ≡ 32 → ⊥) → (i : ℕ) → Reads tt r (walk w i s)
walk_full (Path.end {b = b} {s = s} t) w n i = walk_end w i b s t n
walk_full {r = r} (Path.plain {b = b} {s = s} f m h) w n i = subst (Reads tt r) (walk_go w i b s f m) (walk_full h false (λ e. absurd (false≢true e)) (i + 1))
walk_full {r = r} (Path.wrap {b = b} {c = c} {s = s} p q g h) w n i =
    subst (Reads tt r) (ap (λ v. walk v (i + 2) s) (sym (eq-eqb c 10 q)) ∙ walk_jump w i b c s p (rw q))
    (after_spaces g (Reads tt r) (λ j x. walk_full h true (λ _. x) j) (i + 2))
walk_full {r = r} (Path.escape {b = b} {s = s} p e h) w n i =
    subst (Reads tt r) (first_byte w i b s (λ (x : b ≡ 32). omega arith))
    (pass_escape (walk false) walk_escaped walk_name walk_brace e (Reads tt r) (λ j. walk_full h false (λ x. absurd (false≢true x)) j) i b p)

pub path_full : (s r : List ℕ) → Path s r → (i : ℕ) → Reads (up_to s r) r (path i s)
path_full s r h i = then_reads tt r (Reads (up_to s r) r) (walk false i s) _ (walk_full h false (λ x. absurd (false≢true x)) i) (λ j. (refl, refl))
