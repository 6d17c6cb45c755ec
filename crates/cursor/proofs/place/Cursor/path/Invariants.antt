use Rattle.std.proofs.Common.{◌≡◌, ◌≤◌, false, length}
use Rattle.cursor.specs.Scan.{walk}
use Rattle.cursor.proofs.place.Cursor.path.Given as goal

abbrev pub invariant-loop-self : goal.invariant-loop-self
invariant-loop-self l =
    (walk l.wrapped l.self.at l.self.rest.now ≡ walk false l.initial.self.at l.start)
    × (length l.self.rest.now ≤ length l.start)

abbrev pub decreases-loop-self : goal.decreases-loop-self
decreases-loop-self l = length l.self.rest.now
