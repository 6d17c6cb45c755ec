use Rattle.std.proofs.Common.{◌≡◌, take}
use Rattle.machine.proofs.outputs.kept.Given as goal

abbrev pub invariant-loop-file : goal.invariant-loop-file
invariant-loop-file l = l.outputs.items ≡ take l.file-index l.files
