use Rattle.std.proofs.Common.{◌≡◌, ◌++◌, drop, vec_items}
use Rattle.std.specs.List.{flat_map}
use Rattle.listing.specs.Listing.{hex2}
use Rattle.listing.proofs.words.put_hex.Given as goal

abbrev pub invariant-loop-b : goal.invariant-loop-b
invariant-loop-b l = vec_items l.out ++ flat_map hex2 (drop l.b-index l.b-items) ≡ vec_items l.initial.out ++ flat_map hex2 l.b-items
