use Rattle.std.proofs.Common.{◌≡◌, length}
use Rattle.cursor.specs.Scan.{gap}
use Rattle.cursor.proofs.place.Cursor.skip_gap.Given as goal

abbrev pub invariant-loop-self : goal.invariant-loop-self
invariant-loop-self l = gap l.self.at l.self.rest.now ≡ gap l.initial.self.at l.initial.self.rest.now

abbrev pub decreases-loop-self : goal.decreases-loop-self
decreases-loop-self l = length l.self.rest.now
