use Rattle.std.proofs.Common.{◌≡◌, drop, vec_items}
use Rattle.machine.specs.Ends.{all_removed}
use Rattle.machine.proofs.disk.Disk.remove_all.Given as goal

-- what is left to remove gives all of it
abbrev pub invariant-loop-file : goal.invariant-loop-file
invariant-loop-file l =
    (all_removed (vec_items l.self.files) (drop l.file-index l.outputs) ≡ all_removed (vec_items l.initial.self.files) l.outputs)
    × (l.self.clock ≡ l.initial.self.clock)
