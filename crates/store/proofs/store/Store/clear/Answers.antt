use Rattle.std.proofs.Common.{replicate, ap, ◌∙◌, arith}
use Rattle.store.proofs.store.Store.clear.Goals as goal

pub invariant_of-self : goal.invariant_of-self
invariant_of-self c =
    let told = c.fill.ensures in
    let s = c.args.self.now in
    record {
      whole = told.len ∙ s.whole;
      within = omega arith;
      rest = told.items (λ _ e. e) ∙ ap (λ n. replicate n 0) s.whole;
    }
