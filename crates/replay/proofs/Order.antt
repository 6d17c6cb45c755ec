-- Turns compare by their places first, then by their edges.
use Rattle.std.proofs.Common.{◌≡◌, ℕ, List, Option, MatchOption}
use Rattle.order.specs.Earliest.{Earliest, comes_before, earliest_place}
use Rattle.order.proofs.Pairs.{pair_before, earliest_place_by, earliest_by}
use Rattle.replay.specs.declared.turn.Turn.{Turn}
use Rattle.replay.specs.Turns.{by_place}
use Rattle.replay.specs.contracts.turn.TurnOrd.TheImpl.{ghosts}

pub first_place : (ts : List Turn) → earliest_place (comes_before ghosts.cmp) ts ≡ earliest_place by_place ts
first_place ts = earliest_place_by _ by_place ts (λ x y. pair_before x.place y.place x.edge y.edge)

pub first_law : (o : Option ℕ) (ts : List Turn) (P : Type 0) → MatchOption o P (λ k. Earliest (comes_before ghosts.cmp) ts k) → MatchOption o P (λ k. Earliest by_place ts k)
first_law o ts P h = earliest_by (comes_before ghosts.cmp) by_place ts o P (λ x y. pair_before x.place y.place x.edge y.edge) h
