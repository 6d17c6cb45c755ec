use Rattle.std.proofs.Common.{map, length, vec_items}
use Rattle.graph.specs.Data.{file_of, edge_of}
use Rattle.graph.specs.Circle.{needs, via}
use Rattle.graph.specs.Rows.{Table}
use Rattle.graph.proofs.circle.closed_rows.Given as goal

abbrev pub invariant-loop-k : goal.invariant-loop-k
invariant-loop-k l = Table (length l.edges) (via (needs (map file_of l.files) (map edge_of l.edges)) l.k) (map vec_items (vec_items l.rows))
