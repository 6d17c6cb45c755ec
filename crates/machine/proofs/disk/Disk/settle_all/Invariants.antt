use Rattle.std.proofs.Common.{◌≡◌, ◌+◌, ◌≤◌, length, drop}
use Rattle.machine.specs.Ends.{all_settled}
use Rattle.machine.specs.Pendings.{marks_from}
use Rattle.machine.specs.Disks.{volume}
use Rattle.machine.proofs.disk.Disk.settle_all.Given as goal

-- what is left to settle gives all of it
abbrev pub invariant-loop-place : goal.invariant-loop-place
invariant-loop-place l =
    (all_settled l.rewrites (volume l.self) (drop l.place l.outputs) (drop l.place (marks_from (length l.outputs) l.hash))
    ≡ all_settled l.rewrites (volume l.initial.self) l.outputs (marks_from (length l.outputs) l.hash))
    × (l.self.clock ≤ l.initial.self.clock + l.place)
