use Rattle.std.proofs.Common.{◌<◌, vec_items, length, ◌∙◌, arith}
use Rattle.std.proofs.lemmas.List.{length-map}
use Rattle.std.proofs.lemmas.Result.{err_from_is_err_and}
use Rattle.graph.specs.Data.{edge_of}
use Rattle.draft.specs.Drafts.{state_of}
use Rattle.reader.proofs.Each.{each_more, each_stop}
use Rattle.reader.proofs.edges.each_edge.Goals as goal

pub returns-in_err-step_at : goal.returns-in_err-step_at
returns-in_err-step_at g c =
    let p = err_from_is_err_and c.from_residual.result c.from_residual.ensures.1 in
    let n = length (state_of c.args.d.now).edges in
    let st = state_of c.loop-e.d in
    let l : c.loop-e.e < n = omega (arith, c.loop-e-test.true, c.len-e-end.ensures, c.args.d.now.edges.ok.0, length-map (vec_items c.args.d.now.edges) edge_of) in
    rw (p.1, p.2)
    (each_stop g.S.Step.step n c.loop-e.e st _ c.loop-e.invariant.left (λ (u : Unit {0}). st) (λ (u : Unit {0}). st) _ l c.in_err-step_at.ensures.says)

pub loop-e-preserved : goal.loop-e-preserved
loop-e-preserved g c =
    let n = length (state_of c.args.d.now).edges in
    let st = state_of c.loop-e.d in
    let l : c.loop-e.e < n = omega (arith, c.loop-e-test.true, c.len-e-end.ensures, c.args.d.now.edges.ok.0, length-map (vec_items c.args.d.now.edges) edge_of) in
    record {
      left = each_more g.S.Step.step n c.loop-e.e st _ c.loop-e.invariant.left (state_of c.step_at.new.d) l c.in_ok-step_at.ensures.says;
      long = c.in_ok-step_at.ensures.long ∙ c.loop-e.invariant.long;
    }
