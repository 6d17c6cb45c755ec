use Rattle.std.proofs.Common.{eqb, ◌∙◌, rules}
use Rattle.std.proofs.lemmas.Iterator.{YieldsList-from_slice}
use Rattle.std.proofs.lemmas.Iterator.Search.{any_from_yields_List}
use borrow.Author.Tests.{tests}
use Rattle.machine.specs.declared.command.Pending.{Pending}
use Rattle.machine.proofs.Places.{pends_told}
use Rattle.machine.proofs.checks.is_pending.Goals as goal

pub returns : goal.returns
returns c =
    any_from_yields_List (λ (p : Pending). eqb p.edge c.args.edge) _ _ _ c.any.ensures.ran (YieldsList-from_slice c.args.pending.now (cc)) (λ x b q k. search (rules, tests))
    ∙ pends_told c.args.pending.now c.args.edge
