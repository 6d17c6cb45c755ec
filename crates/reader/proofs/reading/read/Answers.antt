use Rattle.std.proofs.Common.{◌∙◌}
use Rattle.std.proofs.lemmas.Result.{err_from_is_err_and}
use Rattle.draft.specs.Drafts.{state_of}
use Rattle.reader.proofs.Each.{tells_same}
use Rattle.reader.proofs.Wholes.{read_whole}
use Rattle.reader.proofs.reading.read.Goals as goal

pub returns-in_err-add_all : goal.returns-in_err-add_all
returns-in_err-add_all c =
    let p = err_from_is_err_and c.from_residual-in_err-add_all.result c.from_residual-in_err-add_all.ensures.1 in
    let st = state_of c.in_ok-d.d in
    rw (p.1, p.2)
    (tells_same (λ (u : Unit {0}). st) state_of _ _ _
    (read_whole c.args.manifest.now c.start-c.result.rest.now c.start-c.result.at st c.start-c.ensures.at c.start-c.ensures.rest c.in_ok-d.ensures c.in_ok-check.ensures) c.in_err-add_all.ensures)

pub returns : goal.returns
returns c =
    c.in_ok-add_all.ensures
    ∙ read_whole c.args.manifest.now c.start-c.result.rest.now c.start-c.result.at (state_of c.in_ok-d.d) c.start-c.ensures.at c.start-c.ensures.rest c.in_ok-d.ensures c.in_ok-check.ensures
