-- What a machine's own records mean. Assumes nothing.
use Rattle.std.specs.Prelude.{ℕ, List, map, length}
use Rattle.std.specs.List.{range_with_len}
use Rattle.std.specs.Option.{option_map}
use Rattle.host.specs.State.{Files, State, Command}
use Rattle.machine.specs.declared.command.Pending.{Pending}
use Rattle.machine.specs.Fnv.{fnv_step}

-- the marks that come of a hash, for so many outputs
abbrev pub marks_from : ℕ → ℕ → List ℕ
marks_from n h = map (fnv_step h) (range_with_len 0 n)

-- a pending command as a host means it
abbrev pub told : Pending → Command
told p = record { edge = p.edge; outputs = p.outputs.items; outcome = option_map (marks_from (length p.outputs.items)) p.hash }

-- a host's meaning, from a machine's files, clock and pending commands
abbrev pub state_from : Files → ℕ → List Pending → State
state_from fs t ps = record { files = fs; clock = t; pending = map told ps }
