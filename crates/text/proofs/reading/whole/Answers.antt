use Rattle.std.proofs.lemmas.Result.{err_from_is_err_and}
use Rattle.text.proofs.Refused.{whole, none_whole}
use Rattle.text.proofs.reading.whole.Goals as goal

pub returns-in_err-check : goal.returns-in_err-check
returns-in_err-check c =
    let p = err_from_is_err_and c.from_residual.result c.from_residual.ensures.1 in
    rw (p.1, p.2) (none_whole c.in_err-check.field-0.0 c.args.text.now c.in_err-check.ensures)

pub returns : goal.returns
returns c =
    whole c.all_statements.result c.all_statements.new.c c.args.text.now _ _ c.start.ensures.at c.start.ensures.rest c.in_ok-check.ensures c.all_statements.ensures
