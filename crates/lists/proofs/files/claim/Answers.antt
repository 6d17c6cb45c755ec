use Rattle.std.proofs.Common.{sym, ◌∙◌}
use Rattle.lists.proofs.Mentions.{claimed}
use Rattle.lists.proofs.files.claim.Goals as goal

pub returns : goal.returns
returns c = claimed c.args.files.now c.args.i c.args.e c.index-files-i.result c.requires (sym c.is_some.ensures ∙ c.if-is_some.false)
