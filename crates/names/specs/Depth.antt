-- The depth of a pool: a decimal number from 1 to 64 with no leading zero.
use Rattle.std.specs.Prelude.{ℕ, ◌+◌, ◌-◌, ◌*◌, Bool, cond, ◌&&◌, List, [], ◌∷◌, Some, None, Option, nat_le}

-- a digit from low on
abbrev pub digit_from : ℕ → ℕ → Bool
digit_from low b = nat_le low b && nat_le b 57

-- d, if it is at most 64
abbrev pub low_depth : ℕ → Option ℕ
low_depth d = cond (nat_le d 64) (Some d) None

-- the depth that a text says
abbrev pub depth_of : List ℕ → Option ℕ
depth_of [] = None
depth_of (a ∷ []) = cond (digit_from 49 a) (Some (a - 48)) None
depth_of (a ∷ b ∷ []) = cond (digit_from 49 a && digit_from 48 b) (low_depth (10 * (a - 48) + (b - 48))) None
depth_of (a ∷ b ∷ c ∷ s) = None
