-- An edge's next ending among those that are left.
use Rattle.std.proofs.Common.{◌≡◌, ℕ, ◌==◌, List, length, Option, arith}
use Rattle.std.specs.List.{position}
use Rattle.std.specs.Option.{unwrap_or}
use Rattle.std.proofs.lemmas.Grind.{common_steps}
use Rattle.std.proofs.lemmas.List.Sums.{prefix_len-le-length}
use Rattle.replay.specs.Turns.{next_from}

-- the place of the next ending; past the last where there is none
pub next_is : (o : Option ℕ) (xs : List ℕ) (e : ℕ) → o ≡ position (λ x. x == e) xs → unwrap_or o (length xs) ≡ next_from 0 xs e
next_is o xs e h = grind (arith, common_steps, prefix_len-le-length {X = ℕ})
