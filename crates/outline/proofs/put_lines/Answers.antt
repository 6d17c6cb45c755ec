use Rattle.std.proofs.Common.{arith}
use Rattle.outline.proofs.Puts.{all_put, lines_none}
use Rattle.outline.proofs.put_lines.Goals as goal

pub returns : goal.returns
returns c = all_put _ _ _ (lines_none c.args.all.now _ (omega arith)) c.loop-x.invariant
