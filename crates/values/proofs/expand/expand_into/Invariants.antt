use Rattle.std.proofs.Common.{◌≡◌, ◌≤◌, ◌++◌, length, vec_items, vec_len}
use Rattle.values.specs.Expand.{look, expand_from}
use Rattle.values.specs.Scopes.{scope_of}
use Rattle.values.proofs.expand.expand_into.Given as goal

abbrev pub invariant-loop-rest : goal.invariant-loop-rest
invariant-loop-rest l =
    (vec_items l.out ++ expand_from (look (scope_of l.c)) 0 l.rest ≡ vec_items l.initial.out ++ expand_from (look (scope_of l.c)) 0 l.value)
    × (vec_len l.out ≤ l.limit)

abbrev pub decreases-loop-rest : goal.decreases-loop-rest
decreases-loop-rest l = length l.rest
