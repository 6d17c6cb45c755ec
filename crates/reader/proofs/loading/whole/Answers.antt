use Rattle.std.proofs.Common.{sym, ap, ◌∙◌}
use Rattle.std.proofs.lemmas.Result.{err_from_is_err_and}
use Rattle.text.specs.Text.{checked}
use Rattle.draft.specs.Drafts.{state_of}
use Rattle.reader.specs.Answers.{and_done}
use Rattle.reader.specs.Load.{finish}
use Rattle.reader.specs.Loads.{pieces_of, whole_of}
use Rattle.reader.specs.Reading.{read_by}
use Rattle.reader.proofs.Each.{tells_then, tells_same}
use Rattle.reader.proofs.GoodLoad.{load_lawful}
use Rattle.reader.proofs.Wholes.{load_reading}
use Rattle.reader.proofs.loading.whole.Goals as goal

pub returns-in_err-draft : goal.returns-in_err-draft
returns-in_err-draft c =
    let p = err_from_is_err_and c.from_residual.result c.from_residual.ensures.1 in
    let s = c.args.manifest.now in
    rw (p.1, p.2)
    (tells_same whole_of whole_of _ _ _ (load_reading s) (tells_then state_of whole_of _ (read_by (checked s) s) finish c.in_err-draft.ensures))

pub returns-in_err-files : goal.returns-in_err-files
returns-in_err-files c =
    let p = err_from_is_err_and c.from_residual-in_err-files.result c.from_residual-in_err-files.ensures.1 in
    let s = c.args.manifest.now in
    rw (p.1, p.2)
    (tells_same pieces_of whole_of _ _ _ (ap (λ z. and_done z finish) c.in_ok-draft.ensures ∙ load_reading s) c.in_err-files.ensures)

pub invariant_of-result : goal.invariant_of-result
invariant_of-result c =
    let s = c.args.manifest.now in
    let h = c.in_ok-files.ensures ∙ ap (λ z. and_done z finish) c.in_ok-draft.ensures ∙ load_reading s in
    record { lawful = ∣ load_lawful s (pieces_of c.in_ok-files.field-0) (sym h) ∣₁ }

pub returns : goal.returns
returns c = c.in_ok-files.ensures ∙ ap (λ z. and_done z finish) c.in_ok-draft.ensures ∙ load_reading c.args.manifest.now
