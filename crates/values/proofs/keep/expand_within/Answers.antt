use Rattle.std.proofs.Common.{◌++◌, length, ap, ◌∙◌, arith}
use Rattle.std.proofs.lemmas.Result.{err_from_is_err_and}
use Rattle.values.specs.Expand.{look, expand, expand_from}
use Rattle.values.specs.Scopes.{scope_of}
use Rattle.values.proofs.Within.{sized_got, sized_short, sized_over}
use Rattle.values.proofs.keep.expand_within.Goals as goal

pub returns-in_err-expand_into : goal.returns-in_err-expand_into
unfolding expand
returns-in_err-expand_into c =
    let p = err_from_is_err_and c.from_residual.result c.from_residual.ensures.1 in
    rw (p.1, p.2) (sized_over c.args.limits.least c.args.limits.most (expand_from (look (scope_of c.args.c)) 0 c.args.v.now) _ (simp c.clear.ensures.items at c.in_err-expand_into.ensures))

pub returns-then-len-limits : goal.returns-then-len-limits
unfolding expand
returns-then-len-limits c =
    let h = c.in_ok-expand_into.ensures in
    let t = expand_from (look (scope_of c.args.c)) 0 c.args.v.now in
    let e = h.0 ∙ ap (λ z. z ++ t) c.clear.ensures.items in
    sized_short c.args.limits.least c.args.limits.most t (omega (arith, ap length e, c.expand_into.new.out.ok.0))

pub returns : goal.returns
unfolding expand
returns c =
    let h = c.in_ok-expand_into.ensures in
    let t = expand_from (look (scope_of c.args.c)) 0 c.args.v.now in
    let e = h.0 ∙ ap (λ z. z ++ t) c.clear.ensures.items in
    sized_got c.args.limits.least c.args.limits.most t _ e (omega (arith, c.expand_into.new.out.ok.0)) (omega (arith, ap length e, ap length h.0, h.1))
