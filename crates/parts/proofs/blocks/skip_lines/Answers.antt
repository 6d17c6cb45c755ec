use Rattle.std.proofs.Common.{true, [], refl}
use Rattle.parts.specs.Parts.{skip_turn, passed}
use Rattle.parts.proofs.Many.{begun, shorter, go_on, known}
use Rattle.parts.proofs.Moves.{skip_turn_moves}
use Rattle.parts.proofs.blocks.skip_lines.Goals as goal

pub loop-init : goal.loop-init
loop-init c = begun skip_turn _ _ []

pub loop-smaller : goal.loop-smaller
loop-smaller c =
    shorter skip_turn skip_turn_moves c.loop.c.at c.loop.c.rest.now _ _ _
    (known passed _ true _ _ _ c.if-branch.true c.in_ok-passes_line.ensures)

pub loop-preserved : goal.loop-preserved
loop-preserved c =
    go_on skip_turn skip_turn_moves c.loop.c.at c.loop.c.rest.now _ _ _ _ _ _ c.loop.invariant
    (known passed _ true _ _ _ c.if-branch.true c.in_ok-passes_line.ensures) refl
