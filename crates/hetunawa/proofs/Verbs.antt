-- A word by its letters.
use Rattle.std.proofs.Common.{◌≡◌, ℕ, List, [], ◌∷◌, length, get_or, Some, arith}
use Rattle.hetunawa.specs.declared.verb.Verb.TheVariants.{Remove}
use Rattle.hetunawa.specs.Verbs.{verb_of}

pub removes : (w : List ℕ) → length w ≡ 6 → get_or w 0 0 ≡ 114 → get_or w 1 0 ≡ 101 → get_or w 2 0 ≡ 109 → get_or w 3 0 ≡ 111 → get_or w 4 0 ≡ 118 → get_or w 5 0 ≡ 101 → Some Remove ≡ verb_of w
removes (a ∷ (b ∷ (c ∷ (d ∷ (e ∷ (f ∷ [])))))) n p q r s t u = simp (p, q, r, s, t, u)
removes [] n p q r s t u = absurd (omega arith)
removes (a ∷ []) n p q r s t u = absurd (omega arith)
removes (a ∷ (b ∷ [])) n p q r s t u = absurd (omega arith)
removes (a ∷ (b ∷ (c ∷ []))) n p q r s t u = absurd (omega arith)
removes (a ∷ (b ∷ (c ∷ (d ∷ [])))) n p q r s t u = absurd (omega arith)
removes (a ∷ (b ∷ (c ∷ (d ∷ (e ∷ []))))) n p q r s t u = absurd (omega arith)
removes (a ∷ (b ∷ (c ∷ (d ∷ (e ∷ (f ∷ (g ∷ w))))))) n p q r s t u = absurd (omega arith)
