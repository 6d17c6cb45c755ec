use Rattle.std.proofs.Common.{◌≡◌, ◌++◌, map, drop, vec_items}
use Rattle.std.specs.List.{flat_map}
use Rattle.graph.specs.Data.{file_of, path_at}
use Rattle.reader.proofs.paths.put_each.Given as goal

abbrev pub invariant-loop-n : goal.invariant-loop-n
invariant-loop-n l =
    vec_items l.out ++ flat_map (λ p. l.before ++ (p ++ l.after)) (map (path_at (map file_of l.files)) (drop l.n-index l.ns))
    ≡ vec_items l.initial.out ++ flat_map (λ p. l.before ++ (p ++ l.after)) (map (path_at (map file_of l.files)) l.ns)
