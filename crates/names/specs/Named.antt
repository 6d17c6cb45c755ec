-- Names: where a list has one, and the last value that lines give to one.
use Rattle.std.specs.Prelude.{ℕ, cond, List, [], ◌∷◌, Some, None, Option}
use Rattle.std.specs.List.{position_from}
use Rattle.std.specs.Str.{bytes_eq}
use Rattle.parts.specs.Parts.{Entry}

-- the place of the first element of xs, counted from i, whose name is n
abbrev pub place_from_on : {A : Type 0} → (A → List ℕ) → ℕ → List A → List ℕ → Option ℕ
place_from_on f i xs n = position_from (λ x. bytes_eq (f x) n) i xs

-- the last value that the lines give to n, d if they give none
abbrev pub last_from : Option (List ℕ) → List Entry → List ℕ → Option (List ℕ)
last_from d [] n = d
last_from d (e ∷ es) n = last_from (cond (bytes_eq e.name n) (Some e.value) d) es n

-- the last value that the lines give to n
abbrev pub last_of : List Entry → List ℕ → Option (List ℕ)
last_of es n = last_from None es n
