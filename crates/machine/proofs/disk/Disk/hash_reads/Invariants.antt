use Rattle.std.proofs.Common.{◌≡◌, drop, vec_items}
use Rattle.machine.specs.Outcomes.{hash_from}
use Rattle.machine.proofs.disk.Disk.hash_reads.Given as goal

abbrev pub invariant-loop-file : goal.invariant-loop-file
invariant-loop-file l = hash_from (vec_items l.self.files) l.h (drop l.file-index l.reads) ≡ hash_from (vec_items l.self.files) l.hash l.reads
