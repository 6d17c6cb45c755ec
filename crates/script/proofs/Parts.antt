-- Lines and words, by the places where they are cut.
use Rattle.std.proofs.Common.{◌≡◌, ℕ, suc, ◌+◌, ◌<◌, ◌≤◌, not, eqb, List, [], ◌∷◌, ◌++◌, length, take, drop, Some, None, refl, ◌∙◌, inl, inr, arith, cond, ltb}
use Rattle.std.specs.List.{position, position_or_len}
use Rattle.std.proofs.lemmas.List.{append-nil, append_assoc, length-drop, length-append}
use Rattle.std.proofs.lemmas.Bool.{cases_Bool}
use Rattle.std.proofs.lemmas.Bool.Decides.{nat_tests}
use Rattle.script.specs.Texts.{word_before, words_from, words_of, lines_from, lines_of}

-- the place of the first such byte, or the length
abbrev pub place : ℕ → List ℕ → ℕ
place byte bs = position_or_len (λ b. eqb b byte) bs

one_more : (n : ℕ) → 1 + n ≡ suc n
one_more n = omega arith

-- a line goes up to its line end
lines_cut : (l bs : List ℕ) → 0 < length l + length bs → lines_from l bs ≡ (l ++ take (place 10 bs) bs) ∷ lines_of (drop 1 (drop (place 10 bs) bs))
lines_cut [] [] h = absurd (omega arith)
lines_cut (b ∷ l) [] h = simp append-nil
lines_cut l (b ∷ bs) h = elim (cases_Bool (eqb b 10)) [
  | inl on ↦ simp (on, append-nil)
  | inr off ↦ simp (off, one_more) (lines_cut (l ++ (b ∷ [])) bs (omega (arith, length-append l (b ∷ []))) ∙ simp append_assoc)
]

-- the first line of a script that is not at its end
pub first_line : (script : List ℕ) → 0 < length script → lines_of script ≡ take (place 10 script) script ∷ lines_of (drop 1 (drop (place 10 script) script))
first_line script h = lines_cut [] script (omega (arith, h))

-- a word goes up to the first space
words_cut : (w bs : List ℕ) → words_from w bs ≡ word_before (w ++ take (place 32 bs) bs) (words_of (drop (place 32 bs) bs))
words_cut w [] = simp append-nil
words_cut w (b ∷ bs) = elim (cases_Bool (eqb b 32)) [
  | inl on ↦ simp (on, append-nil)
  | inr off ↦ simp (off, one_more) (words_cut (w ++ (b ∷ [])) bs ∙ simp append_assoc)
]

-- the place of the first byte that is no space, or the length
abbrev pub start : List ℕ → ℕ
start bs = position_or_len (λ b. not (eqb b 32)) bs

-- there is no word where only spaces are
words_none : (bs : List ℕ) → length bs ≤ start bs → words_of bs ≡ []
words_none [] h = refl
words_none (b ∷ bs) h = elim (cases_Bool (eqb b 32)) [
  | inl on ↦ simp on (words_none bs (omega (arith, simp on at h)))
  | inr off ↦ absurd (omega (arith, simp off at h))
]

-- otherwise the first word begins there
words_some : (bs : List ℕ) → start bs < length bs
    → (words_of bs ≡ take (place 32 (drop (start bs) bs)) (drop (start bs) bs) ∷ words_of (drop (place 32 (drop (start bs) bs)) (drop (start bs) bs)))
    × (length (drop (place 32 (drop (start bs) bs)) (drop (start bs) bs)) < length bs)
words_some [] h = absurd (omega arith)
words_some (b ∷ bs) h = elim (cases_Bool (eqb b 32)) [
  | inl on ↦ let later = words_some bs (omega (arith, simp on at h)) in simp (on, one_more) (later.0, omega (arith, later.1))
  | inr off ↦ simp (off, one_more) (words_cut (b ∷ []) bs, omega (arith, length-drop (place 32 bs) bs))
]

none_found : (p n : ℕ) → cond (ltb p n) (Some p) None ≡ None → n ≤ p
none_found p n e = grind (arith, nat_tests)

found_at : (p n i : ℕ) → cond (ltb p n) (Some p) None ≡ Some i → (i ≡ p) × (p < n)
found_at p n i e = grind (arith, nat_tests)

pub no_word : (line : List ℕ) → position (λ b. not (eqb b 32)) line ≡ None → words_of line ≡ []
no_word line e = words_none line (none_found (start line) (length line) e)

pub first_word : (line from word rest : List ℕ) (i : ℕ) → position (λ b. not (eqb b 32)) line ≡ Some i → from ≡ drop i line → word ≡ take (place 32 from) from → rest ≡ drop (place 32 from) from
    → (words_of line ≡ word ∷ words_of rest) × (length rest < length line)
first_word line from word rest i e d f g =
    let at = found_at (start line) (length line) i e in
    simp (f, g, d, at.0) (words_some line at.1)
