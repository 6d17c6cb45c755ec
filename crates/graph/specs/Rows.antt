-- Tables of bits, which the search for circles works on.
use Rattle.std.specs.Prelude.{◌≡◌, ℕ, ◌<◌, Bool, false, ◌&&◌, ◌||◌, List, [], length, slice_index_or, count_by}

-- the bit at j
abbrev pub bit : List Bool → ℕ → Bool
bit row j = slice_index_or row j false

-- the row i
abbrev pub row_at : List (List Bool) → ℕ → List Bool
row_at rows i = slice_index_or rows i []

-- how many bits are set
abbrev pub set_bits : List Bool → ℕ
set_bits row = count_by (λ b. b) row

-- n bits, as p says
pub record Row (n : ℕ) (p : ℕ → Bool) (row : List Bool) : Type 0 where
  pub wide : length row ≡ n
  pub bits : (j : ℕ) → j < n → bit row j ≡ p j

-- n rows of n bits
pub record Square (n : ℕ) (rows : List (List Bool)) : Type 0 where
  pub tall : length rows ≡ n
  pub wide : (i : ℕ) → i < n → length (row_at rows i) ≡ n

-- n rows of n bits, as p says
pub record Table (n : ℕ) (p : ℕ → ℕ → Bool) (rows : List (List Bool)) : Type 0 where
  pub square : Square n rows
  pub bits : (i j : ℕ) → i < n → j < n → bit (row_at rows i) j ≡ p i j

-- the bits of a row, once its walks may pass the edge k, from which the bits of the other row are reached
abbrev pub passed : ℕ → List Bool → List Bool → ℕ → Bool
passed k other row j = bit row j || (bit row k && bit other j)

-- each row with its walks through the edge k
pub record Passed (n k : ℕ) (other : List Bool) (before rows : List (List Bool)) : Type 0 where
  pub tall : length rows ≡ length before
  pub row : (i : ℕ) → i < length before → Row n (passed k other (row_at before i)) (row_at rows i)
