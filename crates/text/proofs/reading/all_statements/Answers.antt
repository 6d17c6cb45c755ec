use Rattle.std.proofs.Common.{[], map, ap, ◌∙◌}
use Rattle.std.proofs.lemmas.List.{map_push}
use Rattle.std.proofs.lemmas.Result.{err_from_is_err_and}
use Rattle.parts.specs.Many.{each}
use Rattle.parts.proofs.Many.{begun, each_moves, shorter, go_on, some_more}
use Rattle.text.specs.Text.{next, stated_of}
use Rattle.text.proofs.Moves.{next_statement_moves}
use Rattle.text.proofs.Refused.{refused_here}
use Rattle.text.proofs.reading.all_statements.Goals as goal

pub loop-all-init : goal.loop-all-init
loop-all-init c = simp c.new-all.ensures.items (begun (each next) _ _ [])

pub returns-in_err-x : goal.returns-in_err-x
returns-in_err-x c =
    let p = err_from_is_err_and c.from_residual.result c.from_residual.ensures.1 in
    let h = refused_here c.in_err-x.field-0.0 c.loop-all.c.at c.loop-all.c.rest.now _ _ c.loop-all.invariant c.in_err-x.ensures in
    rw (p.1, p.2) h

pub loop-all-smaller : goal.loop-all-smaller
loop-all-smaller c = shorter (each next) (each_moves next next_statement_moves) c.loop-all.c.at c.loop-all.c.rest.now _ _ _ (some_more next next_statement_moves stated_of c.loop-all.c.at c.loop-all.c.rest.now _ _ _ c.in-Some.x c.in-Some.is c.in_ok-x.ensures)

pub loop-all-preserved : goal.loop-all-preserved
loop-all-preserved c =
    go_on (each next) (each_moves next next_statement_moves) c.loop-all.c.at c.loop-all.c.rest.now _ _ _ _ _ _ c.loop-all.invariant
    (some_more next next_statement_moves stated_of c.loop-all.c.at c.loop-all.c.rest.now _ _ _ c.in-Some.x c.in-Some.is c.in_ok-x.ensures)
    (ap (map stated_of) c.in_ok-push.ensures.items ∙ map_push stated_of c.loop-all.all.items c.in-Some.x)
