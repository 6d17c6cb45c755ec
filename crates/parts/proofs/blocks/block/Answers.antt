use Rattle.std.proofs.Common.{[], map, sym, ap, ◌∙◌, append-nil}
use Rattle.std.proofs.lemmas.List.{map_push}
use Rattle.parts.specs.declared.blocks.Line.TheVariants.{Skip, Sets}
use Rattle.parts.specs.Parts.{entry_of, block_turn, turn_in}
use Rattle.parts.proofs.Many.{begun, shorter, go_on, known}
use Rattle.parts.proofs.Moves.{block_turn_moves}
use Rattle.parts.proofs.blocks.block.Goals as goal

pub loop-all-init : goal.loop-all-init
loop-all-init c = simp c.new-all.ensures.items (begun (block_turn c.args.kind) _ _ [])

pub loop-all-smaller-in-Skip : goal.loop-all-smaller-in-Skip
loop-all-smaller-in-Skip c =
    shorter (block_turn c.args.kind) (block_turn_moves c.args.kind) c.loop-all.c.at c.loop-all.c.rest.now _ _ _
    (known turn_in _ Skip _ _ _ c.in-Skip.is c.in_ok-block_line.ensures)

pub loop-all-preserved-in-Skip : goal.loop-all-preserved-in-Skip
loop-all-preserved-in-Skip c =
    go_on (block_turn c.args.kind) (block_turn_moves c.args.kind) c.loop-all.c.at c.loop-all.c.rest.now _ _ _ _ _ _ c.loop-all.invariant
    (known turn_in _ Skip _ _ _ c.in-Skip.is c.in_ok-block_line.ensures) (sym (append-nil _))

pub loop-all-smaller : goal.loop-all-smaller
loop-all-smaller c =
    shorter (block_turn c.args.kind) (block_turn_moves c.args.kind) c.loop-all.c.at c.loop-all.c.rest.now _ _ _
    (known turn_in _ (Sets c.in-Sets.b) _ _ _ c.in-Sets.is c.in_ok-block_line.ensures)

pub loop-all-preserved : goal.loop-all-preserved
loop-all-preserved c =
    go_on (block_turn c.args.kind) (block_turn_moves c.args.kind) c.loop-all.c.at c.loop-all.c.rest.now _ _ _ _ _ _ c.loop-all.invariant
    (known turn_in _ (Sets c.in-Sets.b) _ _ _ c.in-Sets.is c.in_ok-block_line.ensures)
    (ap (map entry_of) c.in_ok-push-in-Sets.ensures.items ∙ map_push entry_of c.loop-all.all.items c.in-Sets.b)
