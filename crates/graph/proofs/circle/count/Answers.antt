use Rattle.std.proofs.Common.{◌≡◌, ◌∙◌, length, ap, arith}
use Rattle.graph.specs.Circle.{count_of}
use Rattle.graph.specs.Rows.{bit}
use Rattle.graph.proofs.Counts.{count_yes, count_no, bits_count}
use Rattle.graph.proofs.circle.count.Goals as goal
use Rattle.graph.proofs.circle.count.Goals.{then-b, else-b}

pub loop-b-preserved : goal.loop-b-preserved
loop-b-preserved c =
    elim c.if-b.branch [
      | then-b w ↦ (w.n-is ∙ count_yes (bit c.args.row.now) c.loop-b.b-index c.loop-b.n c.loop-b.invariant.0 w.if-b.true, omega (arith, w.n-is))
      | else-b w ↦ (w.n-is ∙ count_no (bit c.args.row.now) c.loop-b.b-index c.loop-b.n c.loop-b.invariant.0 w.if-b.false, omega (arith, w.n-is))
    ]

pub returns : goal.returns
returns c =
    let row = c.args.row.now in
    let all : c.loop-b.b-index ≡ length row = omega (arith, c.loop-b-test.false, c.loop-b.auto.b-index-end) in
    c.loop-b.invariant.0 ∙ ap (count_of (bit row)) all ∙ bits_count row
