-- What the replay's calls do, exactly. Assumes nothing.
use Rattle.std.specs.Prelude.{◌≡◌, ℕ, Bool, true, List, map, Some, None, Option, slice_index_or}
use Rattle.host.specs.declared.Ended.{Ended}
use Rattle.host.specs.State.{State, no_command}
use Rattle.machine.specs.Ends.{finished, ending}
use Rattle.order.specs.Earliest.{Earliest, earliest_place}
use Rattle.replay.specs.declared.turn.Turn.{Turn}
use Rattle.replay.specs.Turns.{by_place, turn_of, left_after}

-- a replay at one moment: the host that it is, and the endings that are left
pub record Rep : Type 0 where
  pub host : State
  pub left : List ℕ

-- the turns of the pending commands
abbrev pub turns : Rep → List Turn
turns r = map (λ c. turn_of r.left c.edge) r.host.pending

-- the turn of the pending command at a place
abbrev pub turn_at : Rep → ℕ → Turn
turn_at r k = turn_of r.left (slice_index_or r.host.pending k no_command).edge

-- the place of the command that ends next
abbrev pub next_place : Rep → Option ℕ
next_place r = earliest_place by_place (turns r)

-- the command at a place ends, its marks always written; the endings through its own are dropped, none where it has none
abbrev pub rep_ended : Bool → Rep → ℕ → Rep
rep_ended rewrites r k =
    record { host = finished rewrites r.host k; left = left_after r.left (turn_at r k).place }

abbrev pub rep_polled : Rep → Option ℕ → Rep
rep_polled r None = r
rep_polled r (Some k) = rep_ended true r k

abbrev pub rep_answer : Rep → Option ℕ → Option Ended
rep_answer r None = None
rep_answer r (Some k) = Some (ending r.host k)

-- The edge that a poll tells has the nearest ending among the pending; where no pending edge has one, it is the lowest.
pub record TurnFirst (r : Rep) (e : Ended) : Type 0 where
  pub place : ℕ
  pub first : Earliest by_place (turns r) place
  pub edge : (slice_index_or r.host.pending place no_command).edge ≡ e.edge
