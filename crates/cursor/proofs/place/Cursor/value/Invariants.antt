use Rattle.std.proofs.Common.{◌≡◌, ◌≤◌, length}
use Rattle.cursor.specs.Scan.{scan}
use Rattle.cursor.proofs.place.Cursor.value.Given as goal

abbrev pub invariant-loop-self : goal.invariant-loop-self
invariant-loop-self l =
    (scan l.self.at l.self.rest.now ≡ scan l.initial.self.at l.start)
    × (length l.self.rest.now ≤ length l.start)

abbrev pub decreases-loop-self : goal.decreases-loop-self
decreases-loop-self l = length l.self.rest.now
