use Rattle.std.proofs.Common.{[], length}
use Rattle.parts.specs.Parts.{skip_turn, skipped}
use Rattle.parts.proofs.Many.{Sofar}
use Rattle.parts.proofs.blocks.skip_lines.Given as goal

abbrev pub invariant-loop : goal.invariant-loop
invariant-loop l = Sofar skip_turn (skipped l.initial.c.at l.initial.c.rest.now) l.c.at l.c.rest.now []

abbrev pub decreases-loop : goal.decreases-loop
decreases-loop l = length l.c.rest.now
