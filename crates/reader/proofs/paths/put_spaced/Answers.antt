use Rattle.std.proofs.Common.{map, rules}
use Rattle.graph.specs.Data.{file_of}
use Rattle.reader.proofs.Joins.{then_puts, spaced_first}
use Rattle.reader.proofs.paths.put_spaced.Goals as goal

pub returns-in_ok-put_path-in-len1-up : goal.returns-in_ok-put_path-in-len1-up
returns-in_ok-put_path-in-len1-up c =
    then_puts c.put_each.result _ c.put_path.new.out _ _ _ _ c.in_ok-put_path-in-len1-up.ensures c.put_each.ensures
    (spaced_first (map file_of c.args.files.now) c.args.ns.now (search rules))
