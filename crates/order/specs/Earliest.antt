-- The earliest of a list of records. Assumes nothing.
use Rattle.std.specs.Prelude.{◌≡◌, ℕ, ◌+◌, ◌<◌, Bool, true, false, cond, List, [], ◌∷◌, length, drop, Some, None, Option, slice_index_or}
use Rattle.std.specs.declared.cmp.Ordering.{Ordering}
use Rattle.std.specs.declared.cmp.Ordering.TheVariants.{Equal}
use Rattle.std.specs.Ordering.{is_lt}

-- one record comes before another, by how records compare
abbrev pub comes_before : {X : Type 0} → (X → X → Ordering) → X → X → Bool
comes_before cmp x y = is_lt (cmp x y)

-- only records that are the same compare as equal
abbrev pub TellsApart : {X : Type 0} → (X → X → Ordering) → Type 0
TellsApart {X} cmp = (x y : X) → cmp x y ≡ Equal → x ≡ y

-- the place of the earliest of the records from place i on and of `best`, which stands at place `at`
abbrev pub earliest_from : {X : Type 0} → (X → X → Bool) → X → ℕ → ℕ → List X → ℕ
earliest_from before best at i [] = at
earliest_from before best at i (x ∷ xs) =
    cond (before x best) (earliest_from before x i (i + 1) xs) (earliest_from before best at (i + 1) xs)

-- the place of the earliest record; none where there is no record
abbrev pub earliest_place : {X : Type 0} → (X → X → Bool) → List X → Option ℕ
earliest_place before [] = None
earliest_place before (x ∷ xs) = Some (earliest_from before x 0 1 xs)

-- place r holds a record that no record precedes, and every record at a lower place comes after it
pub record Leads {X : Type 0} (before : X → X → Bool) (xs : List X) (r : ℕ) : Type 0 where
  pub within : r < length xs
  pub unpreceded : (k : ℕ) (d : X) → k < length xs → before (slice_index_or xs k d) (slice_index_or xs r d) ≡ false
  pub first : (k : ℕ) (d : X) → k < r → before (slice_index_or xs r d) (slice_index_or xs k d) ≡ true

-- place r holds a record that no record precedes; every other such record is the same, and none stands before r
pub record Earliest {X : Type 0} (before : X → X → Bool) (xs : List X) (r : ℕ) : Type 0 where
  pub within : r < length xs
  pub unpreceded : (k : ℕ) (d : X) → k < length xs → before (slice_index_or xs k d) (slice_index_or xs r d) ≡ false
  pub only : (k : ℕ) (d : X) → k < length xs → before (slice_index_or xs r d) (slice_index_or xs k d) ≡ false → slice_index_or xs k d ≡ slice_index_or xs r d
  pub first : (k : ℕ) (d : X) → k < r → before (slice_index_or xs r d) (slice_index_or xs k d) ≡ true

-- of the first n records the one at r is the earliest, and what the rest makes of it is the answer for all
pub record SoFar {X : Type 0} (before : X → X → Bool) (xs : List X) (n r : ℕ) : Type 0 where
  pub within : r < n
  pub unpreceded : (k : ℕ) (d : X) → k < n → before (slice_index_or xs k d) (slice_index_or xs r d) ≡ false
  pub first : (k : ℕ) (d : X) → k < r → before (slice_index_or xs r d) (slice_index_or xs k d) ≡ true
  pub answer : (d : X) → Some (earliest_from before (slice_index_or xs r d) r n (drop n xs)) ≡ earliest_place before xs
