use Rattle.std.proofs.Common.{rules, tests}
use Rattle.std.proofs.lemmas.Iterator.{YieldsList-from_slice}
use Rattle.std.proofs.lemmas.Iterator.Search.{find_from_yields_List}
use Rattle.std.specs.Str.{bytes_eq}
use Rattle.values.proofs.Lookups.{found_text}
use Rattle.values.proofs.expand.find.Goals as goal

pub returns : goal.returns
returns c =
    found_text _ c.args.vars.now c.args.name.now _ (λ x t p. search rules) c.find.result c.map.result c.map.ensures.cases
    (find_from_yields_List (λ v. bytes_eq v.name.now c.args.name.now) _ _ _ c.find.ensures.ran (YieldsList-from_slice c.args.vars.now cc) (λ x b q k. search (rules, tests)))
