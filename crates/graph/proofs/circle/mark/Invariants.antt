use Rattle.std.proofs.Common.{◌≡◌, ℕ, ◌<◌, ◌||◌, map, length, drop}
use Rattle.graph.specs.Data.{file_of}
use Rattle.graph.specs.Circle.{makes_one}
use Rattle.graph.specs.Rows.{bit}
use Rattle.graph.proofs.circle.mark.Given as goal

-- what is marked and what is still to be marked make up what is to be marked in all
abbrev pub invariant-loop-f : goal.invariant-loop-f
invariant-loop-f l = (d : ℕ) → d < length l.initial.row → (bit l.row d || makes_one (map file_of l.files) d (drop l.f-index l.inputs)) ≡ (bit l.initial.row d || makes_one (map file_of l.files) d l.inputs)
