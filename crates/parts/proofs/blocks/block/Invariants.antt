use Rattle.std.proofs.Common.{map, length, vec_items}
use Rattle.parts.specs.Parts.{entry_of, block_turn, block}
use Rattle.parts.proofs.Many.{Sofar}
use Rattle.parts.proofs.blocks.block.Given as goal

abbrev pub invariant-loop-all : goal.invariant-loop-all
invariant-loop-all l =
    Sofar (block_turn l.kind) (block l.kind l.initial.c.at l.initial.c.rest.now) l.c.at l.c.rest.now (map entry_of (vec_items l.all))

abbrev pub decreases-loop-all : goal.decreases-loop-all
decreases-loop-all l = length l.c.rest.now
