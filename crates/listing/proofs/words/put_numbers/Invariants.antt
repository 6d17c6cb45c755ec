use Rattle.std.proofs.Common.{◌≡◌, ◌++◌, drop, vec_items}
use Rattle.listing.specs.Listing.{numbers}
use Rattle.listing.proofs.words.put_numbers.Given as goal

abbrev pub invariant-loop-n : goal.invariant-loop-n
invariant-loop-n l = vec_items l.out ++ numbers (drop l.n-index l.all) ≡ vec_items l.initial.out ++ numbers l.all
