use Rattle.outline.proofs.Puts.{then_puts}
use Rattle.outline.proofs.put_line.Goals as goal

pub returns : goal.returns
returns c =
    then_puts c.put-2.result c.args.out.now c.put_number.new.out c.put-2.new.out _ _ c.in_ok-put_number.ensures
    (then_puts c.put-2.result c.put_number.new.out c.put.new.out c.put-2.new.out _ _ c.in_ok-put.ensures
    (then_puts c.put-2.result c.put.new.out c.put_body.new.out c.put-2.new.out _ _ c.in_ok-put_body.ensures
    c.put-2.ensures))
