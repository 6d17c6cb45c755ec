use Rattle.std.proofs.Common.{[], ◌∷◌, sym, subst}
use Rattle.listing.specs.Listing.{Puts, shown}
use Rattle.listing.proofs.Puts.{then_puts}
use Rattle.listing.proofs.Texts.{spaced_some, shown_plain}
use Rattle.listing.proofs.words.put_text.Goals as goal

pub returns-then-is_all_plain : goal.returns-then-is_all_plain
returns-then-is_all_plain c =
    subst (Puts c.put.result c.args.out.now c.put.new.out) (sym (spaced_some c.args.text.now (sym c.if-is_empty.ensures)))
    (then_puts c.put.result c.args.out.now c.push.new.self c.put.new.out (32 ∷ []) (shown c.args.text.now) c.in_ok-push.ensures.items
    (subst (Puts c.put.result c.push.new.self c.put.new.out) (sym (shown_plain c.args.text.now (sym c.if-is_all_plain.ensures))) c.put.ensures))

pub returns : goal.returns
returns c =
    subst (Puts c.put_shown.result c.args.out.now c.put_shown.new.out) (sym (spaced_some c.args.text.now (sym c.if-is_empty.ensures)))
    (then_puts c.put_shown.result c.args.out.now c.push.new.self c.put_shown.new.out (32 ∷ []) (shown c.args.text.now) c.in_ok-push.ensures.items c.put_shown.ensures)
