use Rattle.std.proofs.Common.{refl, arith, length-append}
use Rattle.values.proofs.expand.append.Goals as goal

pub returns-then-more-limit : goal.returns-then-more-limit
returns-then-more-limit c = (refl, simp length-append (omega (arith, c.args.out.now.ok.0)))
