use Rattle.std.proofs.Common.{map, ap, ◌∙◌}
use Rattle.std.proofs.lemmas.List.{map_push}
use Rattle.cursor.specs.Scan.{next_path}
use Rattle.cursor.proofs.Moves.{next_path_moves}
use Rattle.parts.specs.Many.{each}
use Rattle.parts.proofs.Many.{begun, each_moves, shorter, go_on, some_more}
use Rattle.parts.proofs.lists.more_paths.Goals as goal

pub loop-p-init : goal.loop-p-init
loop-p-init c = begun (each next_path) _ _ _

pub loop-p-smaller : goal.loop-p-smaller
loop-p-smaller c =
    shorter (each next_path) (each_moves next_path next_path_moves) c.loop-p.c.at c.loop-p.c.rest.now _ _ _
    (some_more next_path next_path_moves (λ x. x.now) c.loop-p.c.at c.loop-p.c.rest.now _ _ _ c.in-Some.p c.in-Some.is c.in_ok-p.ensures)

pub loop-p-preserved : goal.loop-p-preserved
loop-p-preserved c =
    go_on (each next_path) (each_moves next_path next_path_moves) c.loop-p.c.at c.loop-p.c.rest.now _ _ _ _ _ _ c.loop-p.invariant
    (some_more next_path next_path_moves (λ x. x.now) c.loop-p.c.at c.loop-p.c.rest.now _ _ _ c.in-Some.p c.in-Some.is c.in_ok-p.ensures)
    (ap (map (λ x. x.now)) c.in_ok-push.ensures.items ∙ map_push (λ x. x.now) c.loop-p.all.items c.in-Some.p)
