use Rattle.std.proofs.Common.{eqb, ◌∙◌, rules}
use Rattle.std.proofs.lemmas.Iterator.{YieldsList-from_slice}
use Rattle.std.proofs.lemmas.Iterator.Search.{position_from_yields_List}
use borrow.Author.Tests.{tests}
use Rattle.machine.specs.declared.command.Pending.{Pending}
use Rattle.machine.proofs.Places.{place_told}
use Rattle.machine.proofs.checks.place_in.Goals as goal

pub returns : goal.returns
returns c =
    position_from_yields_List (λ (p : Pending). eqb p.edge c.args.edge) _ _ _ c.position.ensures.ran (YieldsList-from_slice c.args.pending.now (cc)) (λ x b q k. search (rules, tests))
    ∙ place_told c.args.pending.now c.args.edge
