use Rattle.std.proofs.Common.{arith}
use Rattle.graph.proofs.Tables.{filled_all}
use Rattle.graph.proofs.circle.first_rows.Goals as goal

pub returns : goal.returns
returns c = filled_all _ _ _ c.loop-edge.edge-index c.loop-edge.invariant (omega arith)
