-- A replay's meaning. Assumes nothing.
use Rattle.std.specs.Prelude.{◌≡◌, ℕ, true, List, drop, is_some, Some, None, Ok, Err, vec_items, Option, Result}
use Rattle.replay.specs.declared.recording.Fault.{Fault}
use Rattle.replay.specs.declared.recording.Fault.TheVariants.{Malformed, Memory}
use Rattle.host.specs.State.{State}
use Rattle.machine.specs.Machines.{state_of, fresh}
use Rattle.replay.specs.declared.replay.Replay.{Replay}
use Rattle.replay.specs.Replays.{Rep}

-- the host that a replay is
abbrev pub host_of : Replay → State
host_of r = state_of r.machine

-- a replay at this moment
abbrev pub rep_of : Replay → Rep
rep_of r = record { host = state_of r.machine; left = drop r.dropped (vec_items r.endings) }

-- a replay begins afresh with all endings of a recording; one of another form is malformed
abbrev pub Began : Result Replay Fault → Option (List ℕ) → Type 0
Began (Ok r) (Some xs) = rep_of r ≡ record { host = fresh; left = xs }
Began (Ok r) None = ⊥
Began (Err Malformed) o = o ≡ None
Began (Err Memory) o = is_some o ≡ true
