use Rattle.graph.proofs.Joins.{Joined}
use Rattle.graph.proofs.circle.join.Given as goal

abbrev pub invariant-loop-j : goal.invariant-loop-j
invariant-loop-j l = Joined l.initial.row l.other l.row l.j
