use Rattle.std.proofs.Common.{map, length, vec_items, sym, subst, arith}
use Rattle.graph.specs.Data.{file_of, edge_of}
use Rattle.graph.specs.Circle.{needs}
use Rattle.graph.specs.Rows.{Square}
use Rattle.graph.proofs.Tables.{table_more}
use Rattle.graph.proofs.Held.{refill, height, table_passed}
use Rattle.graph.proofs.circle.closed_rows.Goals as goal

pub pass-requires : goal.pass-requires
pass-requires c =
    let n = length c.args.edges.now in
    let rows = vec_items c.loop-k.rows in
    let s = c.loop-k.invariant.square in
    let h = height n rows s in (
      subst (λ xs. Square (length xs) (map vec_items xs)) (sym c.deref_mut.ensures.value) (subst (λ m. Square m (map vec_items rows)) h s),
      omega (arith, h, c.deref_mut.ensures.len, c.loop-k.rows.ok.0),
    )

pub loop-k-preserved : goal.loop-k-preserved
loop-k-preserved c =
    let n = length c.args.edges.now in
    let rows = vec_items c.loop-k.rows in
    let h = height n rows c.loop-k.invariant.square in
    table_more n (needs (map file_of c.args.files.now) (map edge_of c.args.edges.now)) c.loop-k.k (map vec_items rows) _ c.loop-k-test.true c.loop-k.invariant
    (table_passed n c.loop-k.k rows c.deref_mut.result.now c.pass.new.rows _ c.deref_mut.ensures.value (omega (arith, h, c.deref_mut.ensures.len, c.loop-k.rows.ok.0)) (refill _ _ _ (omega arith)) c.in_ok-pass.ensures)
