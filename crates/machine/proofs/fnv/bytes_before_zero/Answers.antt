use Rattle.std.proofs.Common.{eqb, not, ◌∙◌, rules}
use Rattle.std.proofs.lemmas.Iterator.{YieldsList-from_slice}
use Rattle.std.proofs.lemmas.Iterator.Consumers.{count_from_yields_List}
use Rattle.std.proofs.lemmas.Iterator.Search.{YieldsList-from_take_while}
use borrow.Author.Tests.{tests}
use Rattle.machine.proofs.Hashes.{text_length}
use Rattle.machine.proofs.fnv.bytes_before_zero.Goals as goal

pub returns : goal.returns
returns c =
    count_from_yields_List _ _ c.count.ensures.ran (YieldsList-from_take_while _ (λ b. not (eqb b 0)) (YieldsList-from_slice c.args.question.now (cc)) c.take_while.ensures.closure c.take_while.ensures.done (λ x b q k. search (rules, tests)))
    ∙ text_length c.args.question.now
