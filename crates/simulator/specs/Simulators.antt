-- A simulator's meaning. Assumes nothing.
use Rattle.std.specs.Prelude.{vec_items}
use Rattle.host.specs.State.{State}
use Rattle.machine.specs.Machines.{state_of}
use Rattle.simulator.specs.declared.simulator.Simulator.{Simulator}
use Rattle.simulator.specs.Sims.{Sim}

-- a simulator at this moment
abbrev pub sim_of : Simulator → Sim
sim_of s = record { host = state_of s.machine; tick = s.tick; dues = vec_items s.dues }

-- the host that a simulator is
abbrev pub host_of : Simulator → State
host_of s = state_of s.machine
