-- A machine's meaning. Assumes nothing.
use Rattle.std.specs.Prelude.{ℕ, [], replicate, None, vec_items}
use Rattle.host.specs.State.{State}
use Rattle.machine.specs.declared.machine.Machine.{Machine}
use Rattle.machine.specs.Pendings.{state_from}

-- the host that a machine is
abbrev pub state_of : Machine → State
state_of m = state_from (vec_items m.disk.files) m.disk.clock (vec_items m.pending)

-- how many commands it takes at once
abbrev pub capacity_of : Machine → ℕ
capacity_of m = m.capacity

-- no files, clock 0, nothing pending
abbrev pub fresh : State
fresh = record { files = replicate 256 None; clock = 0; pending = [] }
