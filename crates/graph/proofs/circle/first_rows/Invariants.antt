use Rattle.std.proofs.Common.{map, length, vec_items}
use Rattle.graph.specs.Data.{file_of, edge_of}
use Rattle.graph.specs.Circle.{needs}
use Rattle.graph.proofs.Tables.{Filled}
use Rattle.graph.proofs.circle.first_rows.Given as goal

abbrev pub invariant-loop-edge : goal.invariant-loop-edge
invariant-loop-edge l = Filled (length l.edges) (needs (map file_of l.files) (map edge_of l.edges)) (map vec_items (vec_items l.rows)) l.edge-index
