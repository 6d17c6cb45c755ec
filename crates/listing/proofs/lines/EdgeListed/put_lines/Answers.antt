use Rattle.std.proofs.Common.{◌++◌, vec_items, codes, ap, ◌∙◌, subst}
use Rattle.machine.specs.Fnv.{command_text}
use Rattle.listing.specs.Listing.{Puts, files_line, text_line}
use Rattle.listing.proofs.Puts.{then_puts}
use Rattle.listing.proofs.lines.EdgeListed.put_lines.Goals as goal

pub returns : goal.returns
returns c =
    then_puts c.put_told-2.result c.args.out.now c.put_place.new.out c.put_told-2.new.out _ _ c.in_ok-put_place.ensures
    (then_puts c.put_told-2.result c.put_place.new.out c.put_explicit.new.out c.put_told-2.new.out _ _ c.in_ok-put_explicit.ensures
    (then_puts c.put_told-2.result c.put_explicit.new.out c.put_list.new.out c.put_told-2.new.out _ _ (c.in_ok-put_list.ensures ∙ ap (λ w. vec_items c.put_explicit.new.out ++ files_line c.args.n (codes " outputs") w) c.deref.ensures.value)
    (then_puts c.put_told-2.result c.put_list.new.out c.put_list-2.new.out c.put_told-2.new.out _ _ (c.in_ok-put_list-2.ensures ∙ ap (λ w. vec_items c.put_list.new.out ++ files_line c.args.n (codes " reads") w) c.deref-2.ensures.value)
    (then_puts c.put_told-2.result c.put_list-2.new.out c.put_list-3.new.out c.put_told-2.new.out _ _ (c.in_ok-put_list-3.ensures ∙ ap (λ w. vec_items c.put_list-2.new.out ++ files_line c.args.n (codes " order-only") w) c.deref-3.ensures.value)
    (then_puts c.put_told-2.result c.put_list-3.new.out c.put_list-4.new.out c.put_told-2.new.out _ _ (c.in_ok-put_list-4.ensures ∙ ap (λ w. vec_items c.put_list-3.new.out ++ files_line c.args.n (codes " validations") w) c.deref-4.ensures.value)
    (then_puts c.put_told-2.result c.put_list-4.new.out c.put_told.new.out c.put_told-2.new.out _ _ (c.in_ok-put_told.ensures ∙ ap (λ w. vec_items c.put_list-4.new.out ++ text_line c.args.n (codes " description") w) c.deref-5.ensures.value)
    (subst (λ w. Puts c.put_told-2.result c.put_told.new.out c.put_told-2.new.out (text_line c.args.n (codes " command") w)) (c.command.ensures ∙ ap command_text c.deref-6.ensures.value) c.put_told-2.ensures)))))))
