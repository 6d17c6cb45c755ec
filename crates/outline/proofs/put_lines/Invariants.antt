use Rattle.std.proofs.Common.{◌≡◌, ◌++◌, map, drop, vec_items}
use Rattle.text.specs.Text.{stated_of}
use Rattle.outline.specs.Outline.{lines_shown}
use Rattle.outline.proofs.put_lines.Given as goal

abbrev pub invariant-loop-x : goal.invariant-loop-x
invariant-loop-x l =
    vec_items l.out ++ lines_shown (map stated_of (drop l.x-index l.all)) ≡ vec_items l.initial.out ++ lines_shown (map stated_of l.all)
