-- One row of bits joined to another, bit by bit.
use Rattle.std.proofs.Common.{◌≡◌, ℕ, ◌<◌, ◌≤◌, Bool, ◌||◌, List}
use Rattle.graph.specs.Rows.{bit}

-- the bits below j are joined, the others as they were
pub record Joined (before other row : List Bool) (j : ℕ) : Type 0 where
  pub done : (d : ℕ) → d < j → bit row d ≡ (bit before d || bit other d)
  pub left : (d : ℕ) → j ≤ d → bit row d ≡ bit before d
