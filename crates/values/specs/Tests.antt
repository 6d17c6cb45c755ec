-- What a closure tests.
use Rattle.std.specs.Prelude.{◌≡◌, ℕ, Bool}

-- each call's result is what p says of the byte
abbrev pub Tests : (ℕ → Bool → Type 0) → (ℕ → Bool) → Type 0
Tests post p = (b : ℕ) (r : Bool) → post b r → r ≡ p b
