use Rattle.std.proofs.Common.{map, length, vec_items}
use Rattle.cursor.specs.Scan.{next_path}
use Rattle.parts.specs.Many.{each}
use Rattle.parts.specs.Parts.{paths}
use Rattle.parts.proofs.Many.{Sofar}
use Rattle.parts.proofs.lists.more_paths.Given as goal

abbrev pub invariant-loop-p : goal.invariant-loop-p
invariant-loop-p l =
    Sofar (each next_path) (paths (map (λ x. x.now) (vec_items l.initial.all)) l.initial.c.at l.initial.c.rest.now) l.c.at l.c.rest.now (map (λ x. x.now) (vec_items l.all))

abbrev pub decreases-loop-p : goal.decreases-loop-p
decreases-loop-p l = length l.c.rest.now
