-- the table is the rule at 0, 1, .. 255, which antt computes
use Rattle.std.proofs.Common.{zero-add}
use Rattle.std.proofs.lemmas.List.FromFn.{get_or-map-range_with_len}
use Rattle.byteclass.specs.declared.table.Class.TheVariants.{Banned}
use Rattle.byteclass.specs.Class.{class}
use Rattle.byteclass.proofs.table.entry.Goals as goal

pub returns : goal.returns
unfolding class
returns c =
    get_or-map-range_with_len class 0 256 c.args.i c.args.i Banned c.requires (zero-add _)
