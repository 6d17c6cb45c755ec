use Rattle.std.proofs.Common.{◌∙◌, ap}
use Rattle.std.specs.Ordering.{is_lt}
use Rattle.order.proofs.Turns.{asym, steps, so_far_takes, so_far_keeps}
use Rattle.order.proofs.earlier.Goals as goal

pub returns-then-is_lt : goal.returns-then-is_lt
returns-then-is_lt g c =
    let o = g.met.T.Ord.total in
    so_far_takes _ (asym _ o) (steps _ o) _ _ _ _ _ c.requires.place c.index-records-place.is c.index-records-best.is (c.if-is_lt.ensures ∙ ap is_lt c.cmp.ensures) c.requires.so_far

pub returns-else-is_lt : goal.returns-else-is_lt
returns-else-is_lt g c =
    let o = g.met.T.Ord.total in
    so_far_keeps _ (asym _ o) (steps _ o) _ _ _ _ _ c.requires.place c.index-records-place.is c.index-records-best.is (c.if-is_lt.ensures ∙ ap is_lt c.cmp.ensures) c.requires.so_far
