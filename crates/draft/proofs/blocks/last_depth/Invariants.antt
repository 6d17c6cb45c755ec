use Rattle.std.proofs.Common.{◌≡◌, [], map, drop}
use Rattle.expansion.specs.Meaning.{texts_of, read_of}
use Rattle.parts.specs.Parts.{entry_of}
use Rattle.lists.specs.Each.{each_try}
use Rattle.draft.specs.Statements.{take_depth}
use Rattle.draft.proofs.blocks.last_depth.Given as goal

abbrev pub invariant-loop-b : goal.invariant-loop-b
invariant-loop-b l =
    each_try take_depth (read_of l.texts l.last) (map entry_of (drop l.b-index l.lines))
    ≡ each_try take_depth (record { text = []; texts = texts_of l.initial.texts }) (map entry_of l.lines)
