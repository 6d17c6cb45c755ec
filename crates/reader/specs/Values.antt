-- What an edge's rule says of it, and its question, once all statements are read.
use Rattle.std.specs.Prelude.{ℕ, Bool, true, false, List, [], ◌∷◌, ◌++◌, map, take, Some, None, codes, Option, slice_index, slice_index_or, slice_set}
use Rattle.std.specs.List.{flat_map}
use Rattle.store.specs.declared.wrong.Wrong.TheVariants.{Unknown}
use Rattle.store.specs.Try.{Try, got, wrong, and_try}
use Rattle.values.specs.Expand.{find}
use Rattle.expansion.specs.Model.{TextsData, rule_value, ask}
use Rattle.graph.specs.Data.{FileData, PoolData, EdgeData, path_at, edge_at}
use Rattle.graph.specs.Question.{question_of}
use Rattle.parts.specs.Parts.{Entry}
use Rattle.text.specs.Text.{Head}
use Rattle.names.specs.Named.{last_of}
use Rattle.draft.specs.State.{State}
use Rattle.draft.specs.Statements.{pool_at}

-- paths with a single space between each two
abbrev pub spaced : List (List ℕ) → List ℕ
spaced [] = []
spaced (p ∷ ps) = p ++ flat_map (λ q. 32 ∷ q) ps

-- the paths of files
abbrev pub paths_at : List FileData → List ℕ → List (List ℕ)
paths_at fs ns = map (path_at fs) ns

-- `in`: the explicit inputs
abbrev pub in_text : List FileData → EdgeData → List ℕ
in_text fs e = spaced (paths_at fs (take e.explicit_reads e.reads))

-- `out`: the explicit outputs
abbrev pub out_text : List FileData → EdgeData → List ℕ
out_text fs e = spaced (paths_at fs (take e.explicit_outputs e.outputs))

-- no rule
abbrev pub no_head : Head
no_head = record { name = []; lines = [] }

-- the rule of the edge e
abbrev pub rule_of : State → ℕ → Head
rule_of st e = slice_index_or st.rules (slice_index st.chosen e) no_head

-- the variables of the block of the edge e
abbrev pub block_of : State → ℕ → List Entry
block_of st e = slice_index_or st.texts.blocks e []

-- a value of the edge e: its block's b, or what its rule's r stands for, or nothing
abbrev pub value_by : Option (List ℕ) → Option (List ℕ) → State → ℕ → Try (List ℕ)
value_by (Some t) r st e = got t
value_by None None st e = got []
value_by None (Some v) st e =
    rule_value st.texts e (in_text st.files (edge_at st.edges e)) (out_text st.files (edge_at st.edges e)) v

-- the value that the edge e has for a name that rules take
abbrev pub value_for : State → ℕ → List ℕ → Try (List ℕ)
value_for st e n = value_by (find (block_of st e) n) (last_of (rule_of st e).lines n) st e

-- a pool that was looked for
abbrev pub pool_found : Option ℕ → Try (Option ℕ)
pool_found None = wrong Unknown
pool_found (Some k) = got (Some k)

-- the pool that a text names; the empty text names none
abbrev pub pool_named : List PoolData → List ℕ → Try (Option ℕ)
pool_named ps [] = got None
pool_named ps (b ∷ n) = pool_found (pool_at ps (b ∷ n))

-- a text is not empty
abbrev pub given : List ℕ → Bool
given [] = false
given (b ∷ t) = true

-- an edge with the values that its rule gives it; in place of its question its command, for now
abbrev pub with_values : EdgeData → List ℕ → List ℕ → Option ℕ → Bool → EdgeData
with_values e command description pool restat =
    record { place = e.place; outputs = e.outputs; explicit_outputs = e.explicit_outputs; reads = e.reads; explicit_reads = e.explicit_reads; order_only = e.order_only; validations = e.validations; question = command; description = description; pool = pool; restat = restat }

-- an edge with its question
abbrev pub with_question : EdgeData → List ℕ → EdgeData
with_question e q =
    record { place = e.place; outputs = e.outputs; explicit_outputs = e.explicit_outputs; reads = e.reads; explicit_reads = e.explicit_reads; order_only = e.order_only; validations = e.validations; question = q; description = e.description; pool = e.pool; restat = e.restat }

-- the state with another edge e, and other texts
abbrev pub with_edge_at : State → TextsData → ℕ → EdgeData → State
with_edge_at st d e x =
    record { texts = d; rules = st.rules; pools = st.pools; files = st.files; edges = slice_set st.edges e x; chosen = st.chosen }

-- the edge e gets command, description, pool and restat
abbrev pub valued : State → ℕ → Try State
valued st e =
    and_try (value_for st e (codes "command")) (λ c.
    and_try (value_for st e (codes "description")) (λ d.
    and_try (value_for st e (codes "pool")) (λ p.
    and_try (value_for st e (codes "restat")) (λ r.
    and_try (pool_named st.pools p) (λ k.
    got (with_edge_at st st.texts e (with_values (edge_at st.edges e) c d k (given r))))))))

-- the question of an edge that has its command
abbrev pub question_for : List FileData → EdgeData → List ℕ
question_for fs e = question_of e.question (paths_at fs e.reads) (paths_at fs e.outputs)

-- the edge e gets its question, which the store receives
abbrev pub asked : State → ℕ → Try State
asked st e =
    and_try (ask st.texts (question_for st.files (edge_at st.edges e))) (λ d.
    got (with_edge_at st d e (with_question (edge_at st.edges e) (question_for st.files (edge_at st.edges e)))))
