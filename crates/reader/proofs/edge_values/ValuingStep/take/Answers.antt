use Rattle.std.proofs.Common.{vec_items, refl, arith}
use Rattle.std.proofs.lemmas.List.{length-map}
use Rattle.graph.specs.declared.kinds.Edge.{Edge}
use Rattle.graph.specs.Data.{EdgeData}
use Rattle.draft.specs.Drafts.{state_of}
use Rattle.reader.specs.Values.{with_values}
use Rattle.reader.specs.Given.{values_of}
use Rattle.reader.proofs.Calls.{edge_changed, valued_done}
use Rattle.reader.proofs.edge_values.ValuingStep.take.Goals as goal

pub returns-clause-says : goal.returns-clause-says
returns-clause-says c =
    let d = c.args.d.now in
    let v = values_of c.in_ok-v.v in
    valued_done (state_of d) c.args.e v _ c.in_ok-v.ensures
    (edge_changed (vec_items d.edges) c.args.e (omega (arith, c.requires, length-map {A = Edge} {B = EdgeData})) c.index_mut-edge.result.now c.index_mut-edge.ensures.value _ (λ x. with_values x v.command v.description v.pool v.restat) refl)
