use Rattle.std.proofs.Common.{◌≡◌, ◌++◌, drop, vec_items}
use Rattle.outline.specs.Outline.{shown}
use Rattle.outline.proofs.put_part.Given as goal

abbrev pub invariant-loop-b : goal.invariant-loop-b
invariant-loop-b l = vec_items l.out ++ shown (drop l.b-index l.part) ≡ vec_items l.initial.out ++ shown l.part
