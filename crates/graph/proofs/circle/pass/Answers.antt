use Rattle.std.proofs.Common.{length, vec_items, get_or, arith}
use Rattle.graph.proofs.Held.{row_wide, passing_wide, passing_set, row_written}
use Rattle.graph.proofs.circle.pass.Goals as goal

pub pass_row-requires : goal.pass_row-requires
pass_row-requires c =
    let wide = passing_wide _ _ _ _ c.loop-row.rows c.loop-row.row-index c.row-item.result c.loop-row.invariant (omega arith) c.row-item.is c.requires.0 in
    let long = row_wide c.args.rows.now c.args.k c.index-rows-k.result c.requires.1 c.requires.0 in
    let same = c.in_ok-other.ensures.cases.1 in (
      omega (arith, wide, long, same, c.deref_mut.ensures.len, c.deref.ensures.len),
      omega (arith, long, same, c.deref.ensures.len, c.requires.1),
    )

pub loop-row-preserved : goal.loop-row-preserved
loop-row-preserved c =
    let long = row_wide c.args.rows.now c.args.k c.index-rows-k.result c.requires.1 c.requires.0 in
    let same = c.in_ok-other.ensures.cases.1 in
    passing_set _ _ _ _ c.loop-row.rows c.loop-row.row-index c.row-item.result c.loop-row.invariant (omega arith) c.row-item.is _
    (row_written (length c.args.rows.now) c.args.k (get_or c.loop-row.rows c.loop-row.row-index c.row-item.result) (vec_items c.in_ok-other.other) _ _ c.pass_row.new.row
    c.deref_mut.ensures.value c.deref.ensures.value (omega (arith, long, same, c.deref.ensures.len)) (omega (arith, c.deref_mut.ensures.len)) c.pass_row.ensures)
