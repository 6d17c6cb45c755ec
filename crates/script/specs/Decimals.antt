-- Which number a word of decimal digits is. Assumes nothing.
use Rattle.std.specs.Prelude.{ℕ, ◌+◌, ◌-◌, ◌*◌, min, Bool, cond, ◌&&◌, List, [], ◌∷◌, Some, None, Option, ◌==◌, nat_le, nat_lt}
use Rattle.std.specs.List.{list_all, fold}

-- whether a byte is one of `0` to `9`
abbrev pub is_digit : ℕ → Bool
is_digit b = nat_le 48 b && nat_le b 57

abbrev pub all_digits : List ℕ → Bool
all_digits bs = list_all is_digit bs

-- a number with some digits more behind it
abbrev pub digits_more : ℕ → List ℕ → ℕ
digits_more n bs = fold (λ m b. m * 10 + (b - 48)) n bs

-- one digit or more is a number, held to 64 bits; anything else is none
abbrev pub decimal_of : List ℕ → Option ℕ
decimal_of [] = None
decimal_of (b ∷ bs) = cond (all_digits (b ∷ bs)) (Some (min (digits_more 0 (b ∷ bs)) 18446744073709551615)) None

-- a number that 32 bits hold
abbrev pub low_part : Option ℕ → Option ℕ
low_part None = None
low_part (Some n) = cond (nat_lt 4294967295 n) None (Some n)

abbrev pub mark_of : List ℕ → Option ℕ
mark_of bs = low_part (decimal_of bs)

-- the number behind a `#`
abbrev pub file_of : List ℕ → Option ℕ
file_of [] = None
file_of (b ∷ bs) = cond (b == 35) (decimal_of bs) None
