-- What texts and variables hold, by the used bytes of the store.
use Rattle.std.specs.Prelude.{ℕ, ◌+◌, max, List, [], ◌∷◌, map, take, drop, vec_items, Option, Vec}
use Rattle.std.specs.declared.alloc.Global.{Global}
use Rattle.std.specs.List.{position_from}
use Rattle.std.specs.Str.{bytes_eq}
use Rattle.parts.specs.Parts.{Entry}
use Rattle.store.specs.declared.text.Text.{Text}
use Rattle.store.specs.declared.text.Text.TheVariants.{Manifest, Store}
use Rattle.store.specs.declared.text.Variable.{Variable}

-- the bytes of a text
abbrev pub text_in : List ℕ → Text → List ℕ
text_in u (Manifest s) = s.now
text_in u (Store a n) = take n (drop a u)

-- a variable's name and text
abbrev pub entry_in : List ℕ → Variable → Entry
entry_in u v = record { name = v.name.now; value = text_in u v.value }

-- the same of all variables
abbrev pub entries_in : List ℕ → List Variable → List Entry
entries_in u vs = map (entry_in u) vs

-- the same of the variables of all blocks
abbrev pub blocks_in : List ℕ → List (Vec Variable Global) → List (List Entry)
blocks_in u bs = map (λ b. entries_in u (vec_items b)) bs

-- how many bytes of the store a text wants to be used
abbrev pub reach : Text → ℕ
reach (Manifest s) = 0
reach (Store a n) = a + n

-- the same of all variables
abbrev pub furthest : List Variable → ℕ
furthest [] = 0
furthest (v ∷ vs) = max (reach v.value) (furthest vs)

-- the same of the variables of all blocks
abbrev pub furthest_in : List (Vec Variable Global) → ℕ
furthest_in [] = 0
furthest_in (b ∷ bs) = max (furthest (vec_items b)) (furthest_in bs)

-- the place of the first variable of the name n, where the first of vs has the place i
abbrev pub place_from_on : ℕ → List Variable → List ℕ → Option ℕ
place_from_on i vs n = position_from (λ v. bytes_eq v.name.now n) i vs
