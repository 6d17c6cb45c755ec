-- The bytes of the text store.
use Rattle.std.specs.Prelude.{ℕ, ◌+◌, ◌-◌, cond, List, ◌++◌, length, take, replicate, vec_items, nat_le}
use Rattle.store.specs.declared.store.Store.{Store}
use Rattle.store.specs.declared.wrong.Wrong.TheVariants.{Limit}
use Rattle.store.specs.Try.{Try, got, wrong}

-- the bytes that are used
abbrev pub used_of : Store → List ℕ
used_of s = take s.used (vec_items s.bytes)

-- all 32,768 bytes of a store whose used bytes are u: zeros follow them
abbrev pub whole_of : List ℕ → List ℕ
whole_of u = u ++ replicate (32768 - length u) 0

-- all bytes of a store
abbrev pub bytes_of : Store → List ℕ
bytes_of s = whole_of (used_of s)

-- the store s with the text t behind it, 32,768 bytes at most
abbrev pub stored : List ℕ → List ℕ → Try (List ℕ)
stored s t = cond (nat_le (length s + length t) 32768) (got (s ++ t)) (wrong Limit)
