-- FNV-1a over texts in parts, and the length of a command.
use Rattle.std.proofs.Common.{◌≡◌, ℕ, ◌≤◌, not, eqb, List, [], ◌∷◌, ◌++◌, length, refl, ap, ◌∙◌, inl, inr, arith}
use Rattle.std.proofs.lemmas.List.Sums.{take_while-cons}
use Rattle.std.specs.List.{take_while}
use Rattle.std.proofs.lemmas.Bool.{cond-true, cond-false, cases_Bool}
use Rattle.machine.specs.Fnv.{fnv_step, fnv_more, command_text}

pub fnv_more_append : (h : ℕ) (xs ys : List ℕ) → fnv_more h (xs ++ ys) ≡ fnv_more (fnv_more h xs) ys
fnv_more_append h [] ys = refl
fnv_more_append h (x ∷ xs) ys = fnv_more_append (fnv_step h x) xs ys

-- a command is what stands before the first byte 0
text_is : (q : List ℕ) → take_while (λ b. not (eqb b 0)) q ≡ command_text q
text_is [] = refl
text_is (b ∷ q) = take_while-cons (λ b. not (eqb b 0)) b q ∙ elim (cases_Bool (eqb b 0)) [
  | inl a ↦ simp a
  | inr n ↦ simp (n, text_is q)
]

pub text_length : (q : List ℕ) → length (take_while (λ b. not (eqb b 0)) q) ≡ length (command_text q)
text_length q = ap length (text_is q)

pub text_short : (q : List ℕ) → length (command_text q) ≤ length q
text_short [] = omega arith
text_short (b ∷ q) = elim (cases_Bool (eqb b 0)) [
  | inl a ↦ omega (arith, ap length (cond-true (eqb b 0) [] (b ∷ command_text q) a))
  | inr n ↦ omega (arith, ap length (cond-false (eqb b 0) [] (b ∷ command_text q) n), text_short q)
]
