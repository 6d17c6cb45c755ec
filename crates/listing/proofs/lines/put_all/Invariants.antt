use Rattle.std.proofs.Common.{◌≡◌, ◌++◌, drop, vec_items}
use Rattle.listing.specs.Listing.{counted}
use Rattle.listing.proofs.lines.put_all.Given as goal

abbrev pub invariant-loop-n : goal.invariant-loop-n
invariant-loop-n g l = vec_items l.out ++ counted g.T.Listed.lines l.n (drop l.n l.all) ≡ vec_items l.initial.out ++ counted g.T.Listed.lines 0 l.all
