-- Dues compare by their ticks first, then by their edges.
use Rattle.std.proofs.Common.{◌≡◌, ℕ, List, Option, MatchOption}
use Rattle.order.specs.Earliest.{Earliest, comes_before, earliest_place}
use Rattle.order.proofs.Pairs.{pair_before, earliest_place_by, earliest_by}
use Rattle.simulator.specs.declared.due.Due.{Due}
use Rattle.simulator.specs.Dues.{by_due}
use Rattle.simulator.specs.contracts.due.DueOrd.TheImpl.{ghosts}

pub first_place : (ds : List Due) → earliest_place (comes_before ghosts.cmp) ds ≡ earliest_place by_due ds
first_place ds = earliest_place_by _ by_due ds (λ x y. pair_before x.tick y.tick x.edge y.edge)

pub first_law : (o : Option ℕ) (ds : List Due) (P : Type 0) → MatchOption o P (λ k. Earliest (comes_before ghosts.cmp) ds k) → MatchOption o P (λ k. Earliest by_due ds k)
first_law o ds P h = earliest_by (comes_before ghosts.cmp) by_due ds o P (λ x y. pair_before x.tick y.tick x.edge y.edge) h
