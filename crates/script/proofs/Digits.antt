-- What digits are worth, as far as a bound goes.
use Rattle.std.proofs.Common.{◌≡◌, ℕ, ◌+◌, ◌-◌, ◌*◌, ◌≤◌, min, List, [], ◌∷◌, ap, ◌∙◌, inl, inr, sym, arith}
use native.Mathlib.Nat.{min-eq_left, min-eq_right}
use Rattle.std.specs.List.{fold}
use Rattle.std.proofs.lemmas.Bool.{cases_lt}
use Rattle.script.specs.Decimals.{digits_more}

-- one digit more, held to the bound at each step as a sum that saturates is
abbrev pub held : ℕ → ℕ → ℕ → ℕ
held top v b = min (min (v * 10) top + (b - 48)) top

-- more digits make no number smaller
more_grows : (n : ℕ) (bs : List ℕ) → n ≤ digits_more n bs
more_grows n [] = omega arith
more_grows n (b ∷ bs) = omega (arith, more_grows (n * 10 + (b - 48)) bs)

-- a number that is held to a bound before more digits come is, held to it again, no other
held_more : (n top : ℕ) (bs : List ℕ) → min (digits_more (min n top) bs) top ≡ min (digits_more n bs) top
held_more n top bs = elim (cases_lt n top) [
  | inl h ↦ ap (λ (m : ℕ). min (digits_more m bs) top) (min-eq_left (omega arith))
  | inr h ↦ ap (λ (m : ℕ). min (digits_more m bs) top) (min-eq_right h)
      ∙ (min-eq_right (more_grows top bs) ∙ sym (min-eq_right (omega (arith, h, more_grows n bs))))
]

held_digits : (top v : ℕ) (bs : List ℕ) → v ≤ top → fold (held top) v bs ≡ min (digits_more v bs) top
held_digits top v [] h = omega arith
held_digits top v (b ∷ bs) h = held_digits top (held top v b) bs (omega arith) ∙ (ap (λ (n : ℕ). min (digits_more n bs) top) once ∙ held_more (v * 10 + (b - 48)) top bs) where
  once : held top v b ≡ min (v * 10 + (b - 48)) top
  once = omega arith

-- a `usize` saturates at the largest number of 64 bits
pub saturated : (bs : List ℕ) → fold (held 18446744073709551615) 0 bs ≡ min (digits_more 0 bs) 18446744073709551615
saturated bs = held_digits 18446744073709551615 0 bs (omega arith)
