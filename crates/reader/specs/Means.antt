-- The graph and the text store that a manifest means.
use Rattle.std.specs.Prelude.{◌≡◌, ℕ, ◌<◌, ◌≤◌, List, [], ◌∷◌, ◌++◌, length, Some, None, codes, Option, ◌≢◌, slice_index_or}
use Rattle.std.specs.List.{flat_map}
use Rattle.parts.specs.Parts.{Entry}
use Rattle.text.specs.Text.{Stated}
use Rattle.text.specs.Grammar.{Manifest}
use Rattle.expansion.specs.Model.{rule_scope}
use Rattle.graph.specs.Data.{PoolData, EdgeData, edge_at}
use Rattle.graph.specs.Circle.{OnCircle, Lowest, ranks_of}
use Rattle.graph.specs.Question.{question_of}
use Rattle.draft.specs.State.{State, no_state}
use Rattle.reader.specs.Values.{paths_at, in_text, out_text, rule_of, block_of, given}
use Rattle.reader.specs.Load.{Loaded}
use Rattle.reader.specs.Expands.{Holds, Lacks, Stands, Expands}
use Rattle.reader.specs.Rules.{Follows}

-- the last of the lines that sets n gives it the source v
pub data Last : List Entry → List ℕ → List ℕ → Type 0 where
  here : {l : Entry} {ls : List Entry} {n : List ℕ} → l.name ≡ n → Lacks ls n → Last (l ∷ ls) n l.value
  there : {l : Entry} {ls : List Entry} {n v : List ℕ} → Last ls n v → Last (l ∷ ls) n v

-- the edge e has the text t for the name n: of its block, or what its rule's value stands for, or none
pub data Value (st : State) (e : ℕ) (n : List ℕ) : List ℕ → Type 0 where
  own : {t : List ℕ} → Holds (block_of st e) n t → Value st e n t
  ruled : {v t : List ℕ} → Lacks (block_of st e) n → Last (rule_of st e).lines n v → Expands (Stands (rule_scope st.texts e (in_text st.files (edge_at st.edges e)) (out_text st.files (edge_at st.edges e)))) v t → length t ≤ 1024 → Value st e n t
  none : Lacks (block_of st e) n → Lacks (rule_of st e).lines n → Value st e n []

-- no pool
abbrev pub no_pool : PoolData
no_pool = record { name = []; depth = 0 }

-- the pool that a text names: none if it is empty, else the first declared under it
pub data Pooled (ps : List PoolData) : List ℕ → Option ℕ → Type 0 where
  none : Pooled ps [] None
  some : {t : List ℕ} {k : ℕ} → 0 < length t → k < length ps → (slice_index_or ps k no_pool).name ≡ t → ((j : ℕ) → j < k → (slice_index_or ps j no_pool).name ≢ t) → Pooled ps t (Some k)

-- x is the edge e of what was read, with the values that its rule and its block give it, and its question
pub record Worked (st : State) (e : ℕ) (x : EdgeData) : Type 0 where
  pub command : List ℕ
  pub pool_text : List ℕ
  pub restat_text : List ℕ
  pub commands : Value st e (codes "command") command
  pub describes : Value st e (codes "description") x.description
  pub pools : Value st e (codes "pool") pool_text
  pub pooled : Pooled st.pools pool_text x.pool
  pub restats : Value st e (codes "restat") restat_text
  pub restat : x.restat ≡ given restat_text
  pub asks : x.question ≡ question_of command (paths_at st.files x.reads) (paths_at st.files x.outputs)
  pub short : length x.question ≤ 1024
  pub place : x.place ≡ (edge_at st.edges e).place
  pub outputs : x.outputs ≡ (edge_at st.edges e).outputs
  pub explicit_outputs : x.explicit_outputs ≡ (edge_at st.edges e).explicit_outputs
  pub reads : x.reads ≡ (edge_at st.edges e).reads
  pub explicit_reads : x.explicit_reads ≡ (edge_at st.edges e).explicit_reads
  pub order_only : x.order_only ≡ (edge_at st.edges e).order_only
  pub validations : x.validations ≡ (edge_at st.edges e).validations

-- what was read comes to this graph and store: no circle, each edge with its values, the questions behind the other texts
pub record Completes (st : State) (l : Loaded) : Type 0 where
  pub straight : (e : ℕ) → OnCircle st.files st.edges e → ⊥
  pub files : l.graph.files ≡ st.files
  pub pools : l.graph.pools ≡ st.pools
  pub ranks : l.graph.ranks ≡ ranks_of st.files st.edges
  pub long : length l.graph.edges ≡ length st.edges
  pub each : (e : ℕ) → e < length st.edges → Worked st e (edge_at l.graph.edges e)
  pub store : l.store ≡ st.texts.store ++ flat_map (λ x. x.question) l.graph.edges
  pub fits : length l.store ≤ 32768

-- s means the graph and store l: its statements are those of the grammar, they keep the rules, and come to l
pub record Means (s : List ℕ) (l : Loaded) : Type 0 where
  pub statements : List Stated
  pub state : State
  pub says : Manifest s statements
  pub keeps : Follows no_state statements state
  pub comes : Completes state l

-- the statements of s are those of the grammar and keep the rules, but inputs go round in a circle; the edge at the place p is the lowest on one
pub record Circular (s : List ℕ) (p : ℕ) : Type 0 where
  pub statements : List Stated
  pub state : State
  pub says : Manifest s statements
  pub keeps : Follows no_state statements state
  pub edge : ℕ
  pub lowest : Lowest state.files state.edges edge
  pub place : p ≡ (edge_at state.edges edge).place
