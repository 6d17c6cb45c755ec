use Rattle.std.proofs.Common.{◌≡◌, ◌≤◌, [], length, vec_items, sym, ap, ◌∙◌, subst, arith}
use Rattle.store.specs.Stores.{used_of}
use Rattle.store.specs.Held.{furthest, furthest_in}
use Rattle.expansion.proofs.Grows.{closed_after}
use Rattle.expansion.proofs.texts.Texts.close_block.Goals as goal

pub invariant_of-self : goal.invariant_of-self
invariant_of-self c =
    let s = c.args.self.now in
    let n = length (used_of s.store) in
    let e : vec_items c.replace-block.new.dest ≡ [] = ap vec_items c.replace-block.ensures.after ∙ c.new-none.ensures.items in
    record {
      file_lies = s.file_lies;
      block_lies = subst (λ xs. furthest xs ≤ n) (sym e) (omega arith);
      closed_lie = subst (λ bs. furthest_in bs ≤ n) (sym c.push.ensures.items) (closed_after _ s.closed.items c.replace-block.result n s.closed_lie (subst (λ b. furthest (vec_items b) ≤ n) (sym c.replace-block.ensures.value) s.block_lies));
    }
