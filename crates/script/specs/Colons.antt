-- Where a line is cut at its first colon with a space behind it. Assumes nothing.
use Rattle.std.specs.Prelude.{◌≡◌, ℕ, ◌+◌, ◌<◌, Bool, false, cond, ◌&&◌, List, [], ◌∷◌, ◌++◌, length, drop, Some, None, Option, ◌==◌, ◌≢◌, slice_index}

-- such a colon stands at a place; none has its space before a place
abbrev pub Colon : List ℕ → ℕ → Type 0
Colon line i = (i + 1 < length line) × (slice_index line i ≡ 58) × (slice_index line (i + 1) ≡ 32)

abbrev pub NoColon : List ℕ → ℕ → Type 0
NoColon line n = (j : ℕ) → j + 1 < n → slice_index line j ≡ 58 → slice_index line (j + 1) ≢ 32

abbrev pub spaced : List ℕ → Bool
spaced [] = false
spaced (b ∷ bs) = b == 32

-- the parts before and behind the colon, where these bytes came before what is left of the line
abbrev pub cut_from : List ℕ → List ℕ → Option (List ℕ × List ℕ)
cut_from h [] = None
cut_from h (b ∷ bs) = cond (b == 58 && spaced bs) (Some (h, drop 1 bs)) (cut_from (h ++ (b ∷ [])) bs)

abbrev pub cut_of : List ℕ → Option (List ℕ × List ℕ)
cut_of line = cut_from [] line
