use Rattle.std.proofs.Common.{◌≡◌, ◌<◌, vec_items, map, length, refl, ap, ◌∙◌, arith}
use Rattle.std.proofs.lemmas.List.{length-map}
use Rattle.graph.specs.declared.kinds.Edge.{Edge}
use Rattle.graph.specs.Data.{EdgeData, file_of, edge_of}
use Rattle.expansion.specs.Meaning.{texts_of}
use Rattle.expansion.specs.Model.{ask}
use Rattle.draft.specs.Drafts.{state_of}
use Rattle.reader.specs.Values.{with_question, question_for}
use Rattle.reader.proofs.Calls.{edge_there, edge_changed, asked_done}
use Rattle.reader.proofs.questions.AskingStep.take.Goals as goal

pub returns-clause-says : goal.returns-clause-says
returns-clause-says c =
    let d = c.args.d.now in
    let es = vec_items d.edges in
    let e = c.args.e in
    let l : e < length es = omega (arith, c.requires, length-map {A = Edge} {B = EdgeData}) in
    let x = c.index_mut-edge.result.now in
    let r = c.index_mut-edge.ensures.value in
    let q = vec_items c.put_question.new.out in
    let fs = map file_of (vec_items d.known.files) in
    let told : q ≡ question_for fs (edge_of x) = rw (← c.deref.ensures.value, ← c.deref-2.ensures.value, ← c.deref-3.ensures.value) c.in_ok-put_question.ensures in
    asked_done (state_of d) e (texts_of c.ask.new.self) q _
    (told ∙ ap (question_for fs) (edge_there es e l x r))
    (c.in_ok-ask.ensures.says ∙ ap (ask (texts_of d.known.texts)) c.deref-4.ensures.value)
    (edge_changed es e l x r _ (λ y. with_question y q) refl)
