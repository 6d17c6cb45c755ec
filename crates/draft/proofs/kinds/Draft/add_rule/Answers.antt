use Rattle.std.proofs.Common.{arith}
use Rattle.std.proofs.lemmas.Grind.{common_steps}
use Rattle.std.proofs.lemmas.List.{map_push}
use Rattle.names.proofs.Finds.{place_map, some_maybe}
use Rattle.draft.proofs.kinds.Draft.add_rule.Goals as goal

pub returns-then-is_some : goal.returns-then-is_some
returns-then-is_some c = grind (arith, common_steps, place_map)

pub returns-then-len-ge-RULES : goal.returns-then-len-ge-RULES
returns-then-len-ge-RULES c = let n = c.args.self.now.rules.ok.0 in grind (arith, common_steps, place_map)

pub returns-then-is_none : goal.returns-then-is_none
returns-then-is_none c = let n = c.args.self.now.rules.ok.0 in grind (arith, common_steps, place_map, some_maybe)

pub returns : goal.returns
returns c = let n = c.args.self.now.rules.ok.0 in grind (arith, common_steps, place_map, some_maybe, map_push)
