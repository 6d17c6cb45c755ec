use Rattle.std.proofs.Common.{◌≤◌, length, take, ap, ◌∙◌, arith, rules}
use Rattle.machine.proofs.Hashes.{text_short}
use Rattle.listing.proofs.Texts.{command_front}
use Rattle.listing.proofs.lines.command.Goals as goal

pub slice_bounds-result-end : goal.slice_bounds-result-end
slice_bounds-result-end c =
    let h : c.command_len.result ≤ length c.args.question.now = omega (arith, text_short c.args.question.now, c.command_len.ensures) in
    search rules

pub returns : goal.returns
returns c = ap (λ n. take n c.args.question.now) c.command_len.ensures ∙ command_front c.args.question.now
