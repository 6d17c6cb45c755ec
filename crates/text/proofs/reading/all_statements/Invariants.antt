use Rattle.std.proofs.Common.{map, length, vec_items}
use Rattle.parts.specs.Many.{each}
use Rattle.parts.proofs.Many.{Sofar}
use Rattle.text.specs.Text.{next, stated_of, statements}
use Rattle.text.proofs.reading.all_statements.Given as goal

abbrev pub invariant-loop-all : goal.invariant-loop-all
invariant-loop-all l =
    Sofar (each next) (statements l.initial.c.at l.initial.c.rest.now) l.c.at l.c.rest.now (map stated_of (vec_items l.all))

abbrev pub decreases-loop-all : goal.decreases-loop-all
decreases-loop-all l = length l.c.rest.now
