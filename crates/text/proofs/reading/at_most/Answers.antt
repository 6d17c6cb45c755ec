use Rattle.std.proofs.Common.{sym, arith}
use Rattle.std.proofs.lemmas.List.{take_all}
use Rattle.text.proofs.reading.at_most.Goals as goal

pub returns : goal.returns
returns c = record { is = sym (take_all 65535 c.args.text.now (omega arith)); short = omega arith }
