-- When simulated commands are due, and which comes first. Assumes nothing.
use Rattle.std.specs.Prelude.{ℕ, Bool, ◌&&◌, ◌||◌, ◌==◌, nat_lt}
use Rattle.simulator.specs.declared.due.Due.{Due}

-- the earlier tick comes first, and of equal ticks the lower edge
abbrev pub by_due : Due → Due → Bool
by_due x y = nat_lt x.tick y.tick || (x.tick == y.tick && nat_lt x.edge y.edge)

-- the edge of a simulated command
abbrev pub due_edge : Due → ℕ
due_edge d = d.edge

-- what a read past the end of the dues gives
abbrev pub no_due : Due
no_due = record { tick = 0; edge = 0 }
