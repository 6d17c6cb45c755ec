-- Numbers and texts, piece by piece.
use Rattle.std.proofs.Common.{◌≡◌, ℕ, suc, ◌+◌, ◌<◌, ◌≤◌, Bool, true, false, ◌&&◌, eqb, List, [], ◌∷◌, ◌++◌, length, get_or, take, drop, replicate, sym, refl, ap, ◌∙◌, not, Some, None, ⊎_elim, inl, inr, append_assoc, add-one, arith}
use Rattle.std.proofs.lemmas.Bool.{cases_Bool, cases_lt, lt-ltb, le-ltb, cond-true, cond-false, and_parts, eqb-true, eqb-false}
use Rattle.std.specs.List.{fold, position, position_or_len}
use Rattle.std.proofs.lemmas.List.Recursion.{is_position_or_len}
use Rattle.machine.specs.Fnv.{command_text}
use Rattle.listing.specs.Listing.{plain_byte, zero_byte, every, plain_len, escaped, shown, spaced}

and_assoc : (a b c : Bool) → ((a && b) && c) ≡ (a && (b && c))
and_assoc true b c = refl
and_assoc false b c = refl

and_true : (a : Bool) → (a && true) ≡ a
and_true true = refl
and_true false = refl

-- a test of all bytes, one after another
pub every_folded : (test : ℕ → Bool) (s : List ℕ) (have : Bool) → fold (λ a x. a && test x) have s ≡ (have && every test s)
every_folded test [] have = sym (and_true have)
every_folded test (b ∷ s) have = every_folded test s (have && test b) ∙ and_assoc have (test b) (every test s)

pub shown_plain : (s : List ℕ) → every plain_byte s ≡ true → shown s ≡ s
shown_plain [] h = refl
shown_plain (b ∷ s) h =
    let p = and_parts (plain_byte b) (every plain_byte s) h in
    rw (p.0, shown_plain s p.1)

pub zeros_are : (s : List ℕ) → every zero_byte s ≡ true → s ≡ replicate (length s) 0
zeros_are [] h = refl
zeros_are (b ∷ s) h =
    let p = and_parts (zero_byte b) (every zero_byte s) h in
    let e : b ≡ 0 = eqb-true b 0 p.0 in
    ap (λ x. x ∷ s) e ∙ ap (λ t. 0 ∷ t) (zeros_are s p.1)

pub plain_le : (s : List ℕ) → plain_len s ≤ length s
plain_le [] = omega arith
plain_le (b ∷ s) = elim (cases_Bool (plain_byte b)) [
  | inl t ↦ rw (cond-true (plain_byte b) (suc (plain_len s)) 0 t) (let h = plain_le s in omega arith)
  | inr f ↦ rw (cond-false (plain_byte b) (suc (plain_len s)) 0 f) (omega arith)
]

-- a text is its plain bytes, and then what is left
pub shown_run : (s : List ℕ) → shown s ≡ take (plain_len s) s ++ shown (drop (plain_len s) s)
shown_run [] = refl
shown_run (b ∷ s) = elim (cases_Bool (plain_byte b)) [
  | inl t ↦ rw (t, shown_run s)
  | inr f ↦ rw f (rw f)
]

pub shown_next : (s : List ℕ) → plain_len s < length s → shown (drop (plain_len s) s) ≡ escaped (get_or s (plain_len s) 0) ++ shown (drop (suc (plain_len s)) s)
shown_next [] h = absurd (omega arith)
shown_next (b ∷ s) h = elim (cases_Bool (plain_byte b)) [
  | inl t ↦ let k : plain_len s < length s = omega (arith, rw t at h) in rw (t, shown_next s k)
  | inr f ↦ rw f (rw f)
]

-- a text of plain bytes alone
pub shown_whole : (s : List ℕ) → length s ≤ plain_len s → shown s ≡ s
shown_whole [] h = refl
shown_whole (b ∷ s) h = elim (cases_Bool (plain_byte b)) [
  | inl t ↦ let k : length s ≤ plain_len s = omega (arith, rw t at h) in rw (t, shown_whole s k)
  | inr f ↦ absurd (omega (arith, rw f at h))
]

-- the place of the first byte that is not plain
plain_prefix : (s : List ℕ) → plain_len s ≡ position_or_len (λ b. not (plain_byte b)) s
plain_prefix s = is_position_or_len plain_len (λ b. not (plain_byte b)) refl (λ b t. elim (cases_Bool (plain_byte b)) [ inl h ↦ rw h (omega arith) | inr h ↦ rw h refl ]) s

pub placed_none : (s : List ℕ) → position (λ b. not (plain_byte b)) s ≡ None → length s ≤ plain_len s
placed_none s e = ⊎_elim
    (λ (l : position_or_len (λ b. not (plain_byte b)) s < length s). let h : Some (position_or_len (λ b. not (plain_byte b)) s) ≡ None = sym (cond-true _ _ _ (lt-ltb _ _ l)) ∙ e in absurd (cc))
    (λ h. omega (arith, plain_prefix s))
    (cases_lt (position_or_len (λ b. not (plain_byte b)) s) (length s))

pub placed_some : (s : List ℕ) (n : ℕ) → position (λ b. not (plain_byte b)) s ≡ Some n → (n ≡ plain_len s) × (n < length s)
placed_some s n e = ⊎_elim
    (λ (l : position_or_len (λ b. not (plain_byte b)) s < length s).
    let h : Some (position_or_len (λ b. not (plain_byte b)) s) ≡ Some n = sym (cond-true _ _ _ (lt-ltb _ _ l)) ∙ e in
    let k : position_or_len (λ b. not (plain_byte b)) s ≡ n = cc in
    (sym k ∙ sym (plain_prefix s), omega arith))
    (λ h. let k : position (λ b. not (plain_byte b)) s ≡ None = cond-false _ _ _ (le-ltb _ _ h) in let m : None ≡ Some n = sym k ∙ e in absurd (cc))
    (cases_lt (position_or_len (λ b. not (plain_byte b)) s) (length s))

-- a run of a text, and the byte that ends it
pub shown_turn : (s w t : List ℕ) (n : ℕ) → n ≡ plain_len s → n < length s → w ≡ take n s → t ≡ drop (n + 1) s → shown s ≡ (w ++ escaped (get_or s n 0)) ++ shown t
shown_turn s w t n e h p q =
    let l : plain_len s < length s = omega arith in
    shown_run s
    ∙ (ap (λ x. take (plain_len s) s ++ x) (shown_next s l)
    ∙ (ap (λ i. take i s ++ (escaped (get_or s i 0) ++ shown (drop (suc i) s))) (sym e)
    ∙ (ap (λ i. take n s ++ (escaped (get_or s n 0) ++ shown (drop i s))) (sym (add-one n))
    ∙ (ap (λ x. x ++ (escaped (get_or s n 0) ++ shown (drop (n + 1) s))) (sym p)
    ∙ (ap (λ x. w ++ (escaped (get_or s n 0) ++ shown x)) (sym q) ∙ sym (append_assoc w (escaped (get_or s n 0)) (shown t)))))))

-- a command is the first bytes of its question
pub command_front : (q : List ℕ) → take (length (command_text q)) q ≡ command_text q
command_front [] = refl
command_front (b ∷ q) = elim (cases_Bool (eqb b 0)) [ inl t ↦ rw t | inr f ↦ rw (f, command_front q) ]

-- a text that is not empty
pub spaced_some : (s : List ℕ) → eqb (length s) 0 ≡ false → spaced s ≡ (32 ∷ []) ++ shown s
spaced_some [] h = absurd (eqb-false 0 0 h refl)
spaced_some (b ∷ s) h = refl
