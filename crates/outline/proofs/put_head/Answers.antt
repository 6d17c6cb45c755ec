use Rattle.outline.proofs.Puts.{then_puts}
use Rattle.outline.proofs.put_head.Goals as goal

pub returns : goal.returns
returns c =
    rw (← c.deref.ensures.value)
    (then_puts c.put_block.result c.args.out.now c.put.new.out c.put_block.new.out _ _ c.in_ok-put.ensures
    (then_puts c.put_block.result c.put.new.out c.put_part.new.out c.put_block.new.out _ _ c.in_ok-put_part.ensures
    c.put_block.ensures))
