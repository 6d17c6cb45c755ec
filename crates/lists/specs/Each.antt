-- A step for each element of a list.
use Rattle.std.specs.Prelude.{List, [], ◌∷◌}
use Rattle.store.specs.Try.{Try, got, and_try}

-- a step for each element, in order
abbrev pub each_try : {S A : Type 0} → (S → A → Try S) → S → List A → Try S
each_try f s [] = got s
each_try f s (x ∷ xs) = and_try (f s x) (λ t. each_try f t xs)
