-- What the statements of a manifest have come to so far.
use Rattle.std.specs.Prelude.{ℕ, false, List, [], None}
use Rattle.expansion.specs.Model.{TextsData, no_texts}
use Rattle.graph.specs.Data.{FileData, PoolData, EdgeData}
use Rattle.text.specs.Text.{Head}

-- texts and variables, rules, pools, files, edges, and the number of each edge's rule
pub record State : Type 0 where
  pub texts : TextsData
  pub rules : List Head
  pub pools : List PoolData
  pub files : List FileData
  pub edges : List EdgeData
  pub chosen : List ℕ

-- nothing read yet
abbrev pub no_state : State
no_state = record { texts = no_texts; rules = []; pools = []; files = []; edges = []; chosen = [] }

-- an edge as its statement says it: what its rule says comes later
abbrev pub stated : ℕ → List ℕ → ℕ → List ℕ → ℕ → List ℕ → List ℕ → EdgeData
stated place outs explicit_outs reads explicit_reads order checks =
    record { place = place; outputs = outs; explicit_outputs = explicit_outs; reads = reads; explicit_reads = explicit_reads; order_only = order; validations = checks; question = []; description = []; pool = None; restat = false }
