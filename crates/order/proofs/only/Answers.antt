use Rattle.order.proofs.Turns.{asym, steps, so_far_one}
use Rattle.order.proofs.only.Goals as goal

pub returns : goal.returns
returns g c = let o = g.met.T.Ord.total in so_far_one _ (asym _ o) (steps _ o) _ c.requires
