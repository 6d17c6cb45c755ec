use Rattle.std.proofs.Common.{◌≡◌, ◌≤◌}
use Rattle.graph.specs.Circle.{count_of}
use Rattle.graph.specs.Rows.{bit}
use Rattle.graph.proofs.circle.count.Given as goal

abbrev pub invariant-loop-b : goal.invariant-loop-b
invariant-loop-b l = (l.n ≡ count_of (bit l.row) l.b-index) × (l.n ≤ l.b-index)
