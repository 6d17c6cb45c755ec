-- The hash that a command's marks come of, worked out read by read. Assumes nothing.
use Rattle.std.specs.Prelude.{ℕ, cond, List, [], ◌∷◌, Some, None, Option}
use Rattle.host.specs.declared.Stamped.{Stamped}
use Rattle.host.specs.State.{Files, at}
use Rattle.machine.specs.Fnv.{fnv_more, fnv_1a, low_first, fails}

-- a hash with the mark of one file more; none where it is absent
abbrev pub hash_by : ℕ → Option Stamped → Option ℕ
hash_by h None = None
hash_by h (Some x) = Some (fnv_more h (low_first x.mark))

-- go on from a hash, if there is one
abbrev pub hash_then : Option ℕ → (ℕ → Option ℕ) → Option ℕ
hash_then None go = None
hash_then (Some h) go = go h

-- a hash with the marks of files more
abbrev pub hash_from : Files → ℕ → List ℕ → Option ℕ
hash_from fs h [] = Some h
hash_from fs h (f ∷ rest) = hash_then (hash_by h (at fs f)) (λ k. hash_from fs k rest)

-- the hash of a question and its read marks; none where the command fails or a read is absent
abbrev pub hash_of : Files → List ℕ → List ℕ → Option ℕ
hash_of fs question reads = cond (fails question) None (hash_from fs (fnv_1a question) reads)
