use Rattle.std.proofs.Common.{true, ◌&&◌, rules, tests, ◌∙◌}
use Rattle.std.proofs.lemmas.Iterator.{YieldsList-from_slice}
use Rattle.std.proofs.lemmas.Iterator.Consumers.{fold_from_yields_List}
use Rattle.listing.specs.Listing.{zero_byte}
use Rattle.listing.proofs.Texts.{every_folded}
use Rattle.listing.proofs.hash.is_blank.Goals as goal

pub returns : goal.returns
returns c =
    fold_from_yields_List _ (λ a x. a && zero_byte x) true c.fold.result c.fold.ensures.ran (YieldsList-from_slice _ c.iter.ensures.rest) (λ a x b q k. search (rules, tests))
    ∙ every_folded zero_byte c.args.s.now true
