use Rattle.std.proofs.Common.{map, length, vec_items}
use Rattle.graph.proofs.Tables.{Passing}
use Rattle.graph.proofs.circle.pass.Given as goal

abbrev pub invariant-loop-row : goal.invariant-loop-row
invariant-loop-row l = Passing (length l.initial.rows) l.k (vec_items l.other) (map vec_items l.initial.rows) (map vec_items l.rows) l.row-index
