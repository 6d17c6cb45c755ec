use Rattle.std.proofs.Common.{◌≡◌, map, drop}
use Rattle.lists.specs.Meaning.{walk_of}
use Rattle.lists.specs.Each.{each_try}
use Rattle.lists.proofs.paths.take_all.Given as goal

abbrev pub invariant-loop-path : goal.invariant-loop-path
invariant-loop-path g l =
    each_try (g.T.Taking.taken l.how) (walk_of l.known l.found) (map (λ x. x.now) (drop l.path-index l.paths))
    ≡ each_try (g.T.Taking.taken l.how) (walk_of l.initial.known l.initial.found) (map (λ x. x.now) l.paths)
