use Rattle.std.proofs.Common.{◌≡◌, map, Ok, Err, None, Some, vec_items, sym, ◌∙◌}
use Rattle.graph.specs.declared.circle.Unranked.TheVariants.{Circle}
use Rattle.graph.specs.Data.{file_of, edge_of}
use Rattle.graph.specs.Circle.{circle_of, ranks_of}
use Rattle.graph.proofs.Ranks.{says_tells}
use Rattle.graph.proofs.Held.{circle_same, ranks_same}
use Rattle.graph.proofs.circle.answer.Goals as goal

pub returns-in-Some : goal.returns-in-Some
returns-in-Some c =
    let fs = map file_of c.args.files.now in
    let es = map edge_of c.args.edges.now in
    let says : circle_of fs es ≡ Some c.in-Some.c = sym (circle_same fs es c.args.rows.now c.requires) ∙ sym c.lowest.ensures ∙ c.in-Some.is in
    record { says = says; law = says_tells fs es (Err (Circle c.in-Some.c)) says }

pub returns : goal.returns
returns c =
    let fs = map file_of c.args.files.now in
    let es = map edge_of c.args.edges.now in
    let v = c.in_ok-ranks.field-0 in
    let off : circle_of fs es ≡ None = sym (circle_same fs es c.args.rows.now c.requires) ∙ sym c.lowest.ensures ∙ c.in_default.is in
    let is : vec_items v ≡ ranks_of fs es = c.in_ok-ranks.ensures ∙ ranks_same fs es c.args.rows.now c.requires in
    record { says = (off, is); law = says_tells fs es (Ok v) (off, is) }
