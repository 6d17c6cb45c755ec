use Rattle.outline.proofs.Puts.{then_puts}
use Rattle.outline.proofs.put_edge.Goals as goal

pub returns : goal.returns
returns c =
    rw (← c.deref.ensures.value, ← c.deref-2.ensures.value, ← c.deref-3.ensures.value, ← c.deref-4.ensures.value, ← c.deref-5.ensures.value, ← c.deref-6.ensures.value, ← c.deref-7.ensures.value)
    (then_puts c.put_block.result c.args.out.now c.put.new.out c.put_block.new.out _ _ c.in_ok-put.ensures
    (then_puts c.put_block.result c.put.new.out c.put_words.new.out c.put_block.new.out _ _ c.in_ok-put_words.ensures
    (then_puts c.put_block.result c.put_words.new.out c.put_marked.new.out c.put_block.new.out _ _ c.in_ok-put_marked.ensures
    (then_puts c.put_block.result c.put_marked.new.out c.put-2.new.out c.put_block.new.out _ _ c.in_ok-put-2.ensures
    (then_puts c.put_block.result c.put-2.new.out c.put_part.new.out c.put_block.new.out _ _ c.in_ok-put_part.ensures
    (then_puts c.put_block.result c.put_part.new.out c.put_words-2.new.out c.put_block.new.out _ _ c.in_ok-put_words-2.ensures
    (then_puts c.put_block.result c.put_words-2.new.out c.put_marked-2.new.out c.put_block.new.out _ _ c.in_ok-put_marked-2.ensures
    (then_puts c.put_block.result c.put_marked-2.new.out c.put_marked-3.new.out c.put_block.new.out _ _ c.in_ok-put_marked-3.ensures
    (then_puts c.put_block.result c.put_marked-3.new.out c.put_marked-4.new.out c.put_block.new.out _ _ c.in_ok-put_marked-4.ensures
    c.put_block.ensures)))))))))
