use Rattle.std.proofs.Common.{sym, ap, ◌∙◌, arith}
use Rattle.store.specs.Held.{place_from_on}
use Rattle.values.proofs.Lookups.{first_at, bound_set, bound_push, bound_full, set_furthest, push_furthest}
use Rattle.expansion.proofs.bind.bind_in.Goals as goal

pub returns-in-Some : goal.returns-in-Some
returns-in-Some c =
    let vs = c.args.vars.now.items in
    let v = c.args.v in
    let h = first_at vs v.name.now c.in-Some.i (c.in-Some.ensures.is ∙ ap (λ z. place_from_on 0 z v.name.now) c.deref.ensures.value) in
    record { says = λ u. bound_set u c.args.limit vs v c.in-Some.i h; lies = set_furthest vs v c.in-Some.i }

pub returns-in-None-2-clause-says : goal.returns-in-None-2-clause-says
returns-in-None-2-clause-says c =
    let vs = c.args.vars.now.items in
    let v = c.args.v in
    let h = sym (c.in-None.ensures.is ∙ ap (λ z. place_from_on 0 z v.name.now) c.deref.ensures.value) in
    λ u. bound_full u c.args.limit vs v h (omega (arith, c.args.vars.now.ok.0))

pub returns-in_ok-push-in-None : goal.returns-in_ok-push-in-None
returns-in_ok-push-in-None c =
    let vs = c.args.vars.now.items in
    let v = c.args.v in
    let e = c.in_ok-push-in-None.ensures.items in
    let h = sym (c.in-None.ensures.is ∙ ap (λ z. place_from_on 0 z v.name.now) c.deref.ensures.value) in
    record { says = λ u. rw e (bound_push u c.args.limit vs v h (omega (arith, c.args.vars.now.ok.0))); lies = rw e (push_furthest vs v) }
