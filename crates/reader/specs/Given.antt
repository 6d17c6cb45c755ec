-- The values that an edge gets, all at once.
use Rattle.std.specs.Prelude.{ℕ, Bool, List, vec_items, codes, Option}
use Rattle.store.specs.Try.{Try, got, and_try}
use Rattle.draft.specs.State.{State}
use Rattle.reader.specs.declared.kinds.Values.{Values}
use Rattle.reader.specs.Values.{value_for, pool_named, given}

-- command, description, pool and restat
pub record ValuesData : Type 0 where
  pub command : List ℕ
  pub description : List ℕ
  pub pool : Option ℕ
  pub restat : Bool

-- what the code's struct holds
abbrev pub values_of : Values → ValuesData
values_of v = record { command = vec_items v.command; description = vec_items v.description; pool = v.pool; restat = v.restat }

-- the values of the edge e
abbrev pub values_for : State → ℕ → Try ValuesData
values_for st e =
    and_try (value_for st e (codes "command")) (λ c.
    and_try (value_for st e (codes "description")) (λ d.
    and_try (value_for st e (codes "pool")) (λ p.
    and_try (value_for st e (codes "restat")) (λ r.
    and_try (pool_named st.pools p) (λ k.
    got (record { command = c; description = d; pool = k; restat = given r }))))))
