use Rattle.std.proofs.Common.{arith}
use Rattle.std.proofs.lemmas.Grind.{common_steps}
use Rattle.names.proofs.Finds.{place_map}
use Rattle.reader.proofs.Calls.{named_is}
use Rattle.reader.proofs.edge_values.pool_named.Goals as goal

pub returns-in_err-k : goal.returns-in_err-k
returns-in_err-k c = grind (arith, common_steps, place_map, named_is)

pub returns : goal.returns
returns c = grind (arith, common_steps, place_map, named_is)
