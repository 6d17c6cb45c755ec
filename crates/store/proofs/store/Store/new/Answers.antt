use Rattle.std.proofs.Common.{arith}
use Rattle.store.proofs.store.Store.new.Goals as goal

pub invariant_of-result : goal.invariant_of-result
invariant_of-result c =
    let told = c.in_ok-bytes.ensures in
    record { whole = told.len; within = omega arith; rest = told.items_if_clones_equal (λ _ e. e) }
