use Rattle.std.proofs.Common.{◌≡◌, ◌≤◌, ◌++◌, length, vec_items}
use Rattle.listing.specs.Listing.{shown}
use Rattle.listing.proofs.words.put_shown.Given as goal

abbrev pub invariant-loop-n : goal.invariant-loop-n
invariant-loop-n l =
    (vec_items l.out ++ shown l.rest ≡ vec_items l.initial.out ++ shown l.text) × (length l.rest ≤ length l.text)

abbrev pub decreases-loop-n : goal.decreases-loop-n
decreases-loop-n l = length l.rest
