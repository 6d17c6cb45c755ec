-- One byte on, for each definition that goes byte by byte: s is what is left before, and t after.
use Rattle.std.proofs.Common.{◌≡◌, ℕ, zero, suc, ◌+◌, ◌-◌, ◌<◌, ◌≤◌, Bool, true, false, cond, ◌==◌, nat_lt, Some, None, List, [], ◌∷◌, length, get_or, take, drop, refl, ap, ◌∙◌, arith}
use Rattle.std.specs.List.{prefix_len, position, position_or_len, take_while}
use Rattle.std.proofs.lemmas.List.Quantifiers.{position-Some}
use Rattle.std.proofs.lemmas.List.Sums.{fails_before_first}
use Rattle.std.proofs.lemmas.List.Folds.{length-prefix_len}
use Rattle.std.proofs.lemmas.List.{take_rest}
use Rattle.std.proofs.lemmas.Bool.{eq-eqb, ne_eqb, ltb-false, cond_both, false≢true}
use Rattle.byteclass.specs.Class.{name_byte}
use Rattle.cursor.specs.Scan.{ok, bad, spot, name_len, name, gap, comment, scan, walk, wraps, escaped}
use Rattle.cursor.specs.declared.place.Opens.{Opens}
use Rattle.cursor.specs.declared.place.Fault.TheVariants.{Syntax}

name_prefix : (s : List ℕ) → prefix_len name_byte s ≡ name_len s
name_prefix [] = refl
name_prefix (b ∷ s) = ap (λ n. cond (name_byte b) n 0) (omega (arith, name_prefix s))

-- what a count of name bytes at the front comes to
pub name_count : (n : ℕ) (s : List ℕ) → n ≡ length (take_while name_byte s) → n ≡ name_len s
name_count n s e = e ∙ length-prefix_len name_byte s ∙ name_prefix s

pub name_within : (s : List ℕ) → name_len s ≤ length s
name_within [] = omega arith
name_within (b ∷ s) =
    let h = name_within s in
    cond_both (name_byte b) (suc (name_len s)) 0 (λ n. n ≤ suc (length s)) (λ _. omega arith) (λ _. omega arith)

pub scan_line : (i : ℕ) (s : List ℕ) → 0 < length s → get_or s 0 0 ≡ 10 → scan i s ≡ ok tt i s
scan_line i [] h e = absurd (omega arith)
scan_line i (b ∷ []) h e = rw (eq-eqb b 10 e)
scan_line i (b ∷ c ∷ s) h e = rw (eq-eqb b 10 e)

pub scan_escape : (i j : ℕ) (s t : List ℕ) → 0 < length s → get_or s 0 0 ≡ 36 → escaped (take (length s - 1) (drop 1 s)) ≡ true → j ≡ i + 2 → t ≡ drop 2 s → scan j t ≡ scan i s
scan_escape i j [] t h e u p q = absurd (omega arith)
scan_escape i j (b ∷ []) t h e u p q = absurd (false≢true u)
scan_escape i j (b ∷ c ∷ s) t h e u p q = let v = rw (take_rest (b ∷ c ∷ s) 1) at u in rw (p, q, e, v)

pub scan_plain : (i j : ℕ) (s t : List ℕ) → 0 < length s → (get_or s 0 0 ≡ 10 → ⊥) → (get_or s 0 0 ≡ 36 → ⊥) → j ≡ i + 1 → t ≡ drop 1 s → scan j t ≡ scan i s
scan_plain i j [] t h e f p q = absurd (omega arith)
scan_plain i j (b ∷ []) t h e f p q = rw (p, q, ne_eqb b 10 e, ne_eqb b 36 f)
scan_plain i j (b ∷ c ∷ s) t h e f p q = rw (p, q, ne_eqb b 10 e, ne_eqb b 36 f)

name_found : (o : Opens) (i n : ℕ) (s : List ℕ) → n ≡ name_len s → (n ≡ 0 → ⊥) → ok (take n s) (i + n) (drop n s) ≡ name o i s
name_found o i zero s e h = absurd (h refl)
name_found o i (suc n) s e h = rw (← e)

pub name_some : (o : Opens) (i j n : ℕ) (s t : List ℕ) → n ≡ length (take_while name_byte s) → (n ≡ 0 → ⊥) → j ≡ i + n → t ≡ drop n s → ok (take n s) j t ≡ name o i s
name_some o i j n s t e h p q = rw (p, q) (name_found o i n s (name_count n s e) h)

pub gap_space : (i j : ℕ) (s t : List ℕ) → 0 < length s → get_or s 0 0 ≡ 32 → j ≡ i + 1 → t ≡ drop 1 s → gap j t ≡ gap i s
gap_space i j [] t h e p q = absurd (omega arith)
gap_space i j (b ∷ []) t h e p q = rw (p, q, e)
gap_space i j (b ∷ c ∷ s) t h e p q = rw (p, q, e)

pub gap_wrap : (i j : ℕ) (s t : List ℕ) → 1 < length s → get_or s 0 0 ≡ 36 → get_or s 1 0 ≡ 10 → j ≡ i + 2 → t ≡ drop 2 s → gap j t ≡ gap i s
gap_wrap i j [] t h e f p q = absurd (omega arith)
gap_wrap i j (b ∷ []) t h e f p q = absurd (omega arith)
gap_wrap i j (b ∷ c ∷ s) t h e f p q = rw (p, q, e, f)

comment_at : (i n : ℕ) (s : List ℕ) → n < length s → (get_or s n 0 == 10) ≡ true → ((k : ℕ) → k < n → (get_or s k 0 == 10) ≡ false) → ok tt (i + (n + 1)) (drop (n + 1) s) ≡ comment i s
comment_at i n [] h t f = absurd (omega arith)
comment_at i zero (b ∷ s) h t f = rw t
comment_at i (suc n) (b ∷ s) h t f =
    let e : suc n + 1 ≡ suc (n + 1) = omega arith in
    rw (f 0 (omega arith), e) (ap (λ j. ok tt j (drop (n + 1) s)) (omega arith) ∙ comment_at (i + 1) n s (omega arith) t (λ k g. f (suc k) (omega arith)))

-- a comment ends with the first line end
pub comment_found : (i j n : ℕ) (s t : List ℕ) → position (λ b. b == 10) s ≡ Some n → j ≡ i + (n + 1) → t ≡ drop (n + 1) s → ok tt j t ≡ comment i s
comment_found i j n s t e p q =
    let h = position-Some (λ b. b == 10) s n 0 e in
    rw (p, q) (comment_at i n s h.0 h.1 h.2)

comment_past : (i : ℕ) (s : List ℕ) → ((k : ℕ) → k < length s → (get_or s k 0 == 10) ≡ false) → bad (Syntax (spot (i + length s))) ≡ comment i s
comment_past i [] f = ap (λ j. bad (Syntax (spot j))) (omega arith)
comment_past i (b ∷ s) f =
    rw (f 0 (omega arith)) (ap (λ j. bad (Syntax (spot j))) (omega arith) ∙ comment_past (i + 1) s (λ k g. f (suc k) (omega arith)))

-- where no position passes, no byte does
pub position_none : (p : ℕ → Bool) (s : List ℕ) → position p s ≡ None → (k : ℕ) → k < length s → p (get_or s k 0) ≡ false
position_none p s e k l =
    let h = cond_both (nat_lt (position_or_len p s) (length s)) (Some (position_or_len p s)) None (λ o. o ≡ None → length s ≤ position_or_len p s) (λ _ f. absurd (cc)) (λ n _. ltb-false (position_or_len p s) (length s) n) e in
    fails_before_first p s k 0 (omega arith)

-- or nothing ends it
pub comment_none : (i : ℕ) (s : List ℕ) → position (λ b. b == 10) s ≡ None → bad (Syntax (spot (i + length s))) ≡ comment i s
comment_none i s e = comment_past i s (position_none (λ b. b == 10) s e)

pub walk_end : (w : Bool) (i : ℕ) (s : List ℕ) → length s ≡ 0 → walk w i s ≡ bad (Syntax (spot i))
walk_end w i [] h = refl
walk_end w i (b ∷ s) h = absurd (omega arith)

pub walk_space : (i j : ℕ) (s t : List ℕ) → 0 < length s → get_or s 0 0 ≡ 32 → j ≡ i + 1 → t ≡ drop 1 s → walk true j t ≡ walk true i s
walk_space i j [] t h e p q = absurd (omega arith)
walk_space i j (b ∷ []) t h e p q = rw (p, q, e)
walk_space i j (b ∷ c ∷ s) t h e p q = rw (p, q, e)

pub walk_blank : (w : Bool) (i j : ℕ) (s t : List ℕ) → w ≡ true → 0 < length s → get_or s 0 0 ≡ 32 → j ≡ i + 1 → t ≡ drop 1 s → walk w j t ≡ walk w i s
walk_blank w i j s t u h e p q = rw u (walk_space i j s t h e p q)

pub walk_escape : (w : Bool) (i j : ℕ) (s t : List ℕ) → 0 < length s → get_or s 0 0 ≡ 36 → escaped (take (length s - 1) (drop 1 s)) ≡ true → j ≡ i + 2 → t ≡ drop 2 s → walk (wraps (take (length s - 1) (drop 1 s))) j t ≡ walk w i s
walk_escape w i j [] t h e u p q = absurd (omega arith)
walk_escape w i j (b ∷ []) t h e u p q = absurd (false≢true u)
walk_escape true i j (b ∷ c ∷ s) t h e u p q = let v = rw (take_rest (b ∷ c ∷ s) 1) at u in rw (take_rest (b ∷ c ∷ s) 1, p, q, e, v)
walk_escape false i j (b ∷ c ∷ s) t h e u p q = let v = rw (take_rest (b ∷ c ∷ s) 1) at u in rw (take_rest (b ∷ c ∷ s) 1, p, q, e, v)

pub walk_plain : (w : Bool) (i j : ℕ) (s t : List ℕ) → 0 < length s → (get_or s 0 0 ≡ 32 → ⊥) → (get_or s 0 0 ≡ 58 → ⊥) → (get_or s 0 0 ≡ 124 → ⊥) → (get_or s 0 0 ≡ 10 → ⊥) → (get_or s 0 0 ≡ 36 → ⊥) → j ≡ i + 1 → t ≡ drop 1 s → walk false j t ≡ walk w i s
walk_plain w i j [] t h n1 n2 n3 n4 n5 p q = absurd (omega arith)
walk_plain true i j (b ∷ []) t h n1 n2 n3 n4 n5 p q = rw (p, q, ne_eqb b 32 n1, ne_eqb b 58 n2, ne_eqb b 124 n3, ne_eqb b 10 n4, ne_eqb b 36 n5)
walk_plain false i j (b ∷ []) t h n1 n2 n3 n4 n5 p q = rw (p, q, ne_eqb b 32 n1, ne_eqb b 58 n2, ne_eqb b 124 n3, ne_eqb b 10 n4, ne_eqb b 36 n5)
walk_plain true i j (b ∷ c ∷ s) t h n1 n2 n3 n4 n5 p q = rw (p, q, ne_eqb b 32 n1, ne_eqb b 58 n2, ne_eqb b 124 n3, ne_eqb b 10 n4, ne_eqb b 36 n5)
walk_plain false i j (b ∷ c ∷ s) t h n1 n2 n3 n4 n5 p q = rw (p, q, ne_eqb b 32 n1, ne_eqb b 58 n2, ne_eqb b 124 n3, ne_eqb b 10 n4, ne_eqb b 36 n5)
