use Rattle.std.proofs.Common.{◌≡◌, map, length, ◌∙◌, arith}
use Rattle.graph.specs.Data.{file_of, edge_of}
use Rattle.graph.specs.Circle.{inputs_of}
use Rattle.graph.proofs.Marks.{marked}
use Rattle.graph.proofs.Held.{refill}
use Rattle.graph.proofs.circle.makers_row.Goals as goal

pub returns : goal.returns
returns c =
    let long : c.in_ok-row.row.len ≡ c.args.n = c.in_ok-row.ensures.len in
    let l : length c.mark_inputs.new.row ≡ c.in_ok-row.row.len = omega arith in
    marked (map file_of c.args.files.now) (inputs_of (edge_of c.args.edge.now)) c.args.n c.deref_mut.result.now c.mark_inputs.new.row _
    (c.deref_mut.ensures.value ∙ c.in_ok-row.ensures.items_if_clones_equal (λ y e. e))
    (refill _ _ _ l)
    (l ∙ long)
    (λ d h. c.mark_inputs.ensures d (omega arith))
