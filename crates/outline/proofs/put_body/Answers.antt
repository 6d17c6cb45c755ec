use Rattle.std.proofs.Common.{sym, subst}
use Rattle.text.specs.Text.{said_of}
use Rattle.outline.specs.Outline.{Puts, said_shown}
use Rattle.outline.proofs.Puts.{then_puts}
use Rattle.outline.proofs.put_body.Goals as goal

pub returns-in_ok-put-in-Variable : goal.returns-in_ok-put-in-Variable
returns-in_ok-put-in-Variable c =
    subst (λ x. Puts c.put_part.result c.args.out.now c.put_part.new.out (said_shown (said_of x))) (sym c.in-Variable.is)
    (then_puts c.put_part.result c.args.out.now c.put.new.out c.put_part.new.out _ _ c.in_ok-put-in-Variable.ensures
    c.put_part.ensures)
