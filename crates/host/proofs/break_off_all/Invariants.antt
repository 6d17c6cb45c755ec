use Rattle.std.proofs.Common.{◌≡◌, ℕ, ◌<◌, false}
use Rattle.host.specs.State.{pends}
use Rattle.host.specs.Steps.{BreaksBelow}
use Rattle.host.proofs.break_off_all.Given as goal

abbrev pub invariant-loop-edge : goal.invariant-loop-edge
invariant-loop-edge g l = BreaksBelow l.edge (g.B.Host.state l.initial.host) (g.B.Host.state l.host) × ((x : ℕ) → x < l.edge → pends (g.B.Host.state l.host).pending x ≡ false)
