use Rattle.std.proofs.Common.{rules}
use Rattle.std.proofs.lemmas.List.{take_rest}
use Rattle.script.proofs.Parts.{first_word}
use Rattle.script.proofs.lines.first_word.Goals as goal

pub returns : goal.returns
returns c =
    let first = first_word c.args.line.now _ c.cut_before.result.0.now c.cut_before.result.1.now c.in_ok-start.start (search rules) (take_rest c.args.line.now c.in_ok-start.start)
    c.cut_before.ensures.before c.cut_before.ensures.from in
    record { first = first.0; shorter = first.1 }
