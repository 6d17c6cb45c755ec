use Rattle.std.proofs.Common.{codes, ◌∙◌}
use Rattle.outline.proofs.Puts.{block_puts}
use Rattle.outline.proofs.put_block.Goals as goal

pub returns : goal.returns
returns c = block_puts _ _ _ (codes " with") c.args.lines.now _ (c.deref.ensures.value ∙ c.in_ok-names.ensures) c.put_marked.ensures
