-- The lists of a build statement.
use Rattle.std.specs.Prelude.{ℕ, List}
use Rattle.text.specs.Text.{Work}
use Rattle.store.specs.Try.{Try, got, and_try}
use Rattle.lists.specs.Each.{each_try}
use Rattle.lists.specs.Files.{Walk, take_input, take_output, afresh}

-- the paths of an edge: outputs, read inputs, order-only inputs, validations
pub record Lists : Type 0 where
  pub outputs : List ℕ
  pub reads : List ℕ
  pub order_only : List ℕ
  pub after : Walk

-- the paths of the build statement w as those of the edge e
abbrev pub take_paths : ℕ → Walk → Work → Try Lists
take_paths e s w =
    and_try (each_try (take_output e) s w.outs.explicit) (λ o1.
    and_try (each_try (take_output e) o1 w.outs.implicit) (λ o2.
    and_try (each_try (take_input 64) (afresh o2) w.ins.explicit) (λ i1.
    and_try (each_try (take_input 64) i1 w.ins.implicit) (λ i2.
    and_try (each_try (take_input 64) (afresh i2) w.ins.order_only) (λ o3.
    and_try (each_try (take_input 16) (afresh o3) w.ins.validations) (λ v.
    got (record { outputs = o2.found; reads = i2.found; order_only = o3.found; after = v })))))))
