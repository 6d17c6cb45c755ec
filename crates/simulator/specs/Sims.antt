-- What the simulator's calls do, exactly. Assumes nothing.
use Rattle.std.specs.Prelude.{◌≡◌, ℕ, ◌+◌, Bool, false, cond, List, [], ◌∷◌, ◌++◌, map, length, Some, None, Option, nat_lt, slice_index_or}
use Rattle.std.specs.List.{remove}
use Rattle.host.specs.declared.Ended.{Ended}
use Rattle.host.specs.declared.Refusal.{Refusal}
use Rattle.host.specs.State.{State, Command}
use Rattle.host.specs.Calls.{started, written, command_of}
use Rattle.host.specs.Refusals.{start_refusal, write_refusal}
use Rattle.machine.specs.Fnv.{hashes, command_text}
use Rattle.machine.specs.Ends.{finished, ending, place_of, broken_at}
use Rattle.machine.specs.Machines.{fresh}
use Rattle.order.specs.Earliest.{Earliest}
use Rattle.simulator.specs.declared.due.Due.{Due}
use Rattle.simulator.specs.Dues.{by_due, no_due}

-- a simulator at one moment: the host that it is, its tick, and when each pending command is due, in the order of the pending
pub record Sim : Type 0 where
  pub host : State
  pub tick : ℕ
  pub dues : List Due

-- no files, clock 0, tick 0, nothing pending
abbrev pub sim_fresh : Sim
sim_fresh = record { host = fresh; tick = 0; dues = [] }

-- the edges of the pending commands
abbrev pub pending_edges : State → List ℕ
pending_edges s = map (λ c. c.edge) s.pending

-- an accepted command is due after a tick for each byte of its text
abbrev pub sim_started : Option Refusal → Sim → Command → ℕ → Sim
sim_started None s c bytes =
    record { host = started None s.host c; tick = s.tick; dues = s.dues ++ (record { tick = s.tick + bytes; edge = c.edge } ∷ []) }
sim_started (Some r) s c bytes = s

-- the command at a place ends: its due tick is the tick now, and only marks that differ are written
abbrev pub sim_ended : Bool → Sim → ℕ → Sim
sim_ended rewrites s k = record { host = finished rewrites s.host k; tick = (slice_index_or s.dues k no_due).tick; dues = remove s.dues k }

-- a poll ends the command that is due first
abbrev pub sim_polled : Sim → Option ℕ → Sim
sim_polled s None = s
sim_polled s (Some k) = sim_ended false s k

abbrev pub sim_answer : Sim → Option ℕ → Option Ended
sim_answer s None = None
sim_answer s (Some k) = Some (ending s.host k)

-- a command that is broken off is due no more
abbrev pub sim_dropped : Sim → Option ℕ → Sim
sim_dropped s None = s
sim_dropped s (Some k) = record { host = broken_at s.host k; tick = s.tick; dues = remove s.dues k }

abbrev pub sim_broken : Sim → ℕ → Sim
sim_broken s e = cond (nat_lt 127 e) s (sim_dropped s (place_of s.host e))

-- an outside write changes only the host
abbrev pub sim_written : Option Refusal → Sim → ℕ → Option ℕ → Sim
sim_written r s f m = record { host = written r s.host f m; tick = s.tick; dues = s.dues }

-- The edge that a poll tells has a command for which no pending one is due before it, and of those due at its tick it is of the
-- lowest edge; the tick becomes that one's.
pub record DueFirst (s : Sim) (e : Ended) (t : Sim) : Type 0 where
  pub place : ℕ
  pub first : Earliest by_due s.dues place
  pub edge : (slice_index_or s.dues place no_due).edge ≡ e.edge
  pub tick : t.tick ≡ (slice_index_or s.dues place no_due).tick

-- the simulator after a start and after an outside write
abbrev pub sim_after_start : Sim → ℕ → List ℕ → List ℕ → List ℕ → Sim
sim_after_start s e question reads outputs =
    sim_started (start_refusal 16 s.host e question reads outputs) s (command_of hashes s.host e question reads outputs) (length (command_text question))

abbrev pub sim_after_write : Sim → ℕ → Option ℕ → Sim
sim_after_write s f m = sim_written (write_refusal s.host f) s f m
