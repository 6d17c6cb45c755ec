use Rattle.std.proofs.Common.{sym, ap, ◌∙◌}
use Rattle.store.specs.Stores.{used_of}
use Rattle.store.specs.Try.{got}
use Rattle.values.specs.Scopes.{scope_in}
use Rattle.values.proofs.Runs.{dollar_any}
use Rattle.values.proofs.Within.{kept_after, keep_own, keep_no_own}
use Rattle.values.proofs.keep.keep.Goals as goal

pub returns-then-contains-clause-says : goal.returns-then-contains-clause-says
returns-then-contains-clause-says c =
    let l = c.args.lists in
    let u = used_of c.args.store.now in
    let told = c.put.ensures in
    kept_after c.args.limits.least c.args.limits.most (scope_in u l.special.now l.block.now l.file.now) u c.args.v.now c.deref.result.now (used_of c.put.new.store) (sym (dollar_any c.args.v.now) ∙ sym c.contains.ensures.value ∙ c.if-contains.true) (ap got c.deref.ensures.value ∙ c.in_ok-expand_within.ensures) c.put.result told.says told.holds

pub returns-then-not-allow-clause-says : goal.returns-then-not-allow-clause-says
returns-then-not-allow-clause-says c =
    let l = c.args.lists in
    let u = used_of c.args.store.now in
    keep_no_own c.args.limits.least c.args.limits.most (scope_in u l.special.now l.block.now l.file.now) u c.args.v.now (sym (dollar_any c.args.v.now) ∙ sym c.contains.ensures.value ∙ c.if-contains.false) (sym c.allow.ensures ∙ c.if-not-allow.true)

pub returns-clause-says : goal.returns-clause-says
returns-clause-says c =
    let l = c.args.lists in
    let u = used_of c.args.store.now in
    keep_own c.args.limits.least c.args.limits.most (scope_in u l.special.now l.block.now l.file.now) u c.args.v.now (sym (dollar_any c.args.v.now) ∙ sym c.contains.ensures.value ∙ c.if-contains.false) (sym c.allow.ensures ∙ c.if-not-allow.false)
