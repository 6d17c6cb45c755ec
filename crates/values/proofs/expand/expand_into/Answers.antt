use Rattle.std.proofs.Common.{length, ap, arith}
use Rattle.std.proofs.lemmas.Bool.Decides.{nat_tests}
use Rattle.std.proofs.lemmas.Result.{err_from_is_err_and}
use Rattle.values.proofs.Pieces.{step, broken}
use Rattle.values.proofs.expand.expand_into.Goals as goal

pub loop-rest-smaller : goal.loop-rest-smaller
loop-rest-smaller c = c.part_at.ensures.less (grind (arith, nat_tests))

pub loop-rest-preserved : goal.loop-rest-preserved
loop-rest-preserved c =
    let h = c.in_ok-append.ensures in
    (step _ _ _ _ _ c.loop-rest.invariant.0 c.part_at.ensures.cut _ h.0, omega (arith, ap length h.0, h.1, c.append.new.out.ok.0))

pub returns-in_err-append : goal.returns-in_err-append
returns-in_err-append c =
    let p = err_from_is_err_and c.from_residual.result c.from_residual.ensures.1 in
    rw (p.1, p.2) (broken _ _ _ _ _ c.loop-rest.invariant.0 c.part_at.ensures.cut _ _ c.in_err-append.ensures)
