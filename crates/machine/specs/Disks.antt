-- A disk as a volume. Assumes nothing.
use Rattle.std.specs.Prelude.{vec_items}
use Rattle.machine.specs.declared.disk.Disk.{Disk}
use Rattle.machine.specs.Ends.{Volume}

-- the files and the clock of a disk
abbrev pub volume : Disk → Volume
volume d = record { files = vec_items d.files; clock = d.clock }
