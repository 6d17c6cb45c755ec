use Rattle.std.proofs.Common.{arith}
use Rattle.std.proofs.lemmas.Grind.{common_steps}
use Rattle.std.proofs.lemmas.List.{map_push}
use Rattle.names.proofs.Finds.{place_map}
use Rattle.draft.proofs.kinds.Draft.add_build.Goals as goal

pub returns-in_err-rule : goal.returns-in_err-rule
returns-in_err-rule c = grind (arith, common_steps, place_map)

pub returns-then-e-ge-EDGES : goal.returns-then-e-ge-EDGES
returns-then-e-ge-EDGES c = let n = c.args.self.now.edges.ok.0 in grind (arith, common_steps, place_map)

pub returns-in_err-set_lines : goal.returns-in_err-set_lines
returns-in_err-set_lines c = let n = c.args.self.now.edges.ok.0 in grind (arith, common_steps, place_map)

pub returns-in_err-paths : goal.returns-in_err-paths
returns-in_err-paths c = let n = c.args.self.now.edges.ok.0 in grind (arith, common_steps, place_map)

pub returns : goal.returns
returns c = let n = c.args.self.now.edges.ok.0 in grind (arith, common_steps, place_map, map_push)
