use Rattle.std.proofs.Common.{rules, tests}
use Rattle.std.proofs.lemmas.Iterator.Adapters.{YieldsList-from_rev_slice}
use Rattle.std.proofs.lemmas.Iterator.Search.{find_from_yields_List}
use Rattle.std.specs.Str.{bytes_eq}
use Rattle.names.proofs.Finds.{found_value}
use Rattle.names.proofs.named.last_value.Goals as goal

pub returns : goal.returns
returns c =
    found_value c.args.name.now c.args.lines.now _ (λ x t p. search rules) c.find.result c.map.result c.map.ensures.cases
    (find_from_yields_List (λ b. bytes_eq b.name.now c.args.name.now) _ _ _ c.find.ensures.ran (YieldsList-from_rev_slice c.args.lines.now cc) (λ x b q k. search (rules, tests)))
