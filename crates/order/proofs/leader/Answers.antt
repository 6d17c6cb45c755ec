use Rattle.std.proofs.Common.{arith}
use Rattle.order.proofs.Turns.{asym, steps, tied, so_far_leads, so_far_law, so_far_place}
use Rattle.order.proofs.leader.Goals as goal

pub returns : goal.returns
returns g c =
    let o = g.met.T.Ord.total in
    record {
      place = so_far_place _ (asym _ o) (steps _ o) _ _ _ (omega arith) (omega arith) c.loop-i.invariant;
      leads = so_far_leads _ (asym _ o) (steps _ o) _ _ _ (omega arith) (omega arith) c.loop-i.invariant;
      law = λ apart. so_far_law _ (asym _ o) (steps _ o) (tied _ o apart) _ _ _ (omega arith) (omega arith) c.loop-i.invariant;
    }
