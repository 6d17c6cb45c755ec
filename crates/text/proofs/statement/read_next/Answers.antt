use Rattle.std.proofs.Common.{rules}
use Rattle.text.specs.Text.{next}
use Rattle.text.proofs.statement.read_next.Goals as goal

pub returns-in_err-skip_lines : goal.returns-in_err-skip_lines
unfolding next
returns-in_err-skip_lines c = search rules

pub returns : goal.returns
unfolding next
returns c = search rules
