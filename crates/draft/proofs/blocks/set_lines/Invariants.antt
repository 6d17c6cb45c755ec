use Rattle.std.proofs.Common.{◌≡◌, map, drop}
use Rattle.expansion.specs.Meaning.{texts_of}
use Rattle.expansion.specs.Model.{set_block}
use Rattle.parts.specs.Parts.{entry_of}
use Rattle.lists.specs.Each.{each_try}
use Rattle.draft.proofs.blocks.set_lines.Given as goal

abbrev pub invariant-loop-b : goal.invariant-loop-b
invariant-loop-b l =
    each_try set_block (texts_of l.texts) (map entry_of (drop l.b-index l.lines)) ≡ each_try set_block (texts_of l.initial.texts) (map entry_of l.lines)
