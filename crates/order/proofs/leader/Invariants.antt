use Rattle.order.specs.Earliest.{SoFar, comes_before}
use Rattle.order.proofs.leader.Given as goal

abbrev pub invariant-loop-i : goal.invariant-loop-i
invariant-loop-i g l = SoFar (comes_before g.T.Ord.cmp) l.records l.i l.best
