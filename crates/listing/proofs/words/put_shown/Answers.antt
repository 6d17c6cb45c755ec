use Rattle.std.proofs.Common.{ℕ, ◌+◌, List, ◌++◌, length, get_or, take, vec_items, sym, refl, ap, ◌∙◌, arith}
use Rattle.std.proofs.lemmas.List.{take_rest, length-drop}
use Rattle.listing.specs.Listing.{escaped, shown}
use Rattle.listing.proofs.Puts.{turn_puts, two_puts, last_puts}
use Rattle.listing.proofs.Texts.{placed_some, placed_none, shown_whole, shown_turn}
use Rattle.listing.proofs.words.put_shown.Goals as goal

pub loop-n-preserved : goal.loop-n-preserved
loop-n-preserved c =
    let s : List ℕ = c.loop-n.rest.now in
    let n : ℕ = c.in-Some.n in
    let p = placed_some s n (sym c.first_escaped.ensures ∙ c.in-Some.is) in
    let w : List ℕ = take n s in (
      turn_puts (vec_items c.loop-n.out) (vec_items c.put_escaped.new.out) (w ++ escaped (get_or s n 0)) _ _ _
          (two_puts (vec_items c.loop-n.out) (vec_items c.put.new.out) (vec_items c.put_escaped.new.out) w (escaped (get_or s n 0)) c.in_ok-put.ensures c.in_ok-put_escaped.ensures)
          (shown_turn s w _ n p.0 p.1 refl (take_rest s (n + 1))) c.loop-n.invariant.0,
      omega (arith, ap length (take_rest s (n + 1)), length-drop (n + 1) s, c.loop-n.invariant.1),
    )

pub returns : goal.returns
returns c =
    let s : List ℕ = c.loop-n.rest.now in
    let whole = shown_whole s (placed_none s (sym c.first_escaped.ensures ∙ c.in_default.is)) in
    last_puts c.put-2.result c.args.out.now c.loop-n.out c.put-2.new.out s (shown c.args.text.now)
    (ap (λ t. vec_items c.loop-n.out ++ t) (sym whole) ∙ c.loop-n.invariant.0) c.put-2.ensures
