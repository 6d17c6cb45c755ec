use Rattle.std.proofs.Common.{◌≡◌, ◌++◌, map, drop, vec_items}
use Rattle.outline.specs.Outline.{words}
use Rattle.outline.proofs.put_words.Given as goal

abbrev pub invariant-loop-part : goal.invariant-loop-part
invariant-loop-part l =
    vec_items l.out ++ words (map (λ x. x.now) (drop l.part-index l.parts)) ≡ vec_items l.initial.out ++ words (map (λ x. x.now) l.parts)
