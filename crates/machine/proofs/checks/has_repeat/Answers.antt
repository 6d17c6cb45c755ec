use Rattle.std.proofs.Common.{◌∙◌, rules}
use Rattle.std.proofs.lemmas.Iterator.{YieldsList-from_slice}
use Rattle.std.proofs.lemmas.Iterator.Consumers.{YieldsList-from_enumerate}
use Rattle.std.proofs.lemmas.Iterator.Search.{any_from_yields_List}
use borrow.Author.Tests.{tests}
use Rattle.machine.proofs.Lists.{again, repeats_again}
use Rattle.machine.proofs.checks.has_repeat.Goals as goal

pub returns : goal.returns
returns c =
    any_from_yields_List (again c.args.files.now) _ _ _ c.any.ensures.ran (YieldsList-from_enumerate (YieldsList-from_slice c.args.files.now (cc)) c.enumerate.ensures.count) (λ x b q k. search (rules, tests))
    ∙ repeats_again c.args.files.now
