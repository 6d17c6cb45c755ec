use Rattle.std.proofs.Common.{arith}
use Rattle.std.proofs.lemmas.Grind.{common_steps}
use Rattle.std.proofs.lemmas.List.{map_push}
use Rattle.names.proofs.Finds.{place_map}
use Rattle.draft.proofs.kinds.Draft.add_pool.Goals as goal

pub returns-then-is_some : goal.returns-then-is_some
returns-then-is_some c = grind (arith, common_steps, place_map)

pub returns-then-len-ge-POOLS : goal.returns-then-len-ge-POOLS
returns-then-len-ge-POOLS c = let n = c.args.self.now.pools.ok.0 in grind (arith, common_steps, place_map)

pub returns-in_err-text : goal.returns-in_err-text
returns-in_err-text c = let n = c.args.self.now.pools.ok.0 in grind (arith, common_steps, place_map)

pub returns-in_err-depth : goal.returns-in_err-depth
returns-in_err-depth c = let n = c.args.self.now.pools.ok.0 in grind (arith, common_steps, place_map)

pub returns : goal.returns
returns c = let n = c.args.self.now.pools.ok.0 in grind (arith, common_steps, place_map, map_push)
