use Rattle.std.proofs.Common.{rules}
use Rattle.machine.proofs.disk.Disk.new.Goals as goal

pub returns : goal.returns
returns c = let files = c.in_ok-vec.ensures.items_if_clones_equal (λ y h. search rules) in λ i. record { files = files i; clock = 0 }
