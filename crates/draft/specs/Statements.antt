-- What each statement adds.
use Rattle.std.specs.Prelude.{ℕ, cond, List, [], ◌∷◌, ◌++◌, length, is_some, Some, None, codes, Option, nat_lt}
use Rattle.parts.specs.Parts.{Entry}
use Rattle.text.specs.Text.{Head, Work, Said, variable, rule, pool, build, Stated}
use Rattle.store.specs.declared.wrong.Wrong.TheVariants.{Unknown, Again, Limit, Lacks}
use Rattle.store.specs.Try.{Try, got, wrong, and_try}
use Rattle.expansion.specs.Model.{TextsData, Read, set_file, set_block, read_depth, close_block}
use Rattle.graph.specs.Data.{PoolData}
use Rattle.names.specs.Named.{place_from_on, last_of}
use Rattle.names.specs.Depth.{depth_of}
use Rattle.lists.specs.Each.{each_try}
use Rattle.lists.specs.Paths.{Lists, take_paths}
use Rattle.draft.specs.State.{State, stated}

-- the number of the rule n
abbrev pub rule_at : List Head → List ℕ → Option ℕ
rule_at rs n = place_from_on (λ h. h.name) 0 rs n

-- the number of the pool n
abbrev pub pool_at : List PoolData → List ℕ → Option ℕ
pool_at ps n = place_from_on (λ p. p.name) 0 ps n

-- a variable of the file
abbrev pub add_variable : State → Entry → Try State
add_variable st e =
    and_try (set_file st.texts e) (λ d.
    got (record { texts = d; rules = st.rules; pools = st.pools; files = st.files; edges = st.edges; chosen = st.chosen }))

-- a rule: no second one of its name, 64 at most, with a command line
abbrev pub add_rule : State → Head → Try State
add_rule st h =
    cond (is_some (rule_at st.rules h.name)) (wrong Again)
    (cond (nat_lt (length st.rules) 64)
    (cond (is_some (last_of h.lines (codes "command")))
    (got (record { texts = st.texts; rules = st.rules ++ h ∷ []; pools = st.pools; files = st.files; edges = st.edges; chosen = st.chosen }))
    (wrong Lacks))
    (wrong Limit))

-- a depth line: its text is the one that counts so far
abbrev pub take_depth : Read → Entry → Try Read
take_depth r e = read_depth r.texts e.value

-- a pool with the depth o, if that is one
abbrev pub deep_pool : Option ℕ → State → TextsData → List ℕ → Try State
deep_pool None st d n = wrong Lacks
deep_pool (Some k) st d n =
    got (record { texts = d; rules = st.rules; pools = st.pools ++ record { name = n; depth = k } ∷ []; files = st.files; edges = st.edges; chosen = st.chosen })

-- a pool: no second one of its name, 16 at most, the last depth line counts
abbrev pub add_pool : State → Head → Try State
add_pool st h =
    cond (is_some (pool_at st.pools h.name)) (wrong Again)
    (cond (nat_lt (length st.pools) 16)
    (and_try (each_try take_depth (record { text = []; texts = st.texts }) h.lines) (λ r. deep_pool (depth_of r.text) st r.texts h.name))
    (wrong Limit))

-- the state with one edge more, whose rule is k
abbrev pub with_edge : State → ℕ → ℕ → Work → Lists → State
with_edge st place k w l =
    record { texts = close_block l.after.texts; rules = st.rules; pools = st.pools; files = l.after.files; edges = st.edges ++ stated place l.outputs (length w.outs.explicit) l.reads (length w.ins.explicit) l.order_only l.after.found ∷ []; chosen = st.chosen ++ k ∷ [] }

-- a build statement, whose rule stands at the place o; 128 edges at most; its block first, then its paths
abbrev pub add_edge : Option ℕ → State → ℕ → Work → Try State
add_edge None st place w = wrong Unknown
add_edge (Some k) st place w =
    cond (nat_lt (length st.edges) 128)
    (and_try (each_try set_block st.texts w.lines) (λ d.
    and_try (take_paths (length st.edges) (record { texts = d; files = st.files; found = [] }) w) (λ l.
    got (with_edge st place k w l))))
    (wrong Limit)

-- what a statement at a place says
abbrev pub add_said : State → ℕ → Said → Try State
add_said st place (variable e) = add_variable st e
add_said st place (rule h) = add_rule st h
add_said st place (pool h) = add_pool st h
add_said st place (build w) = add_edge (rule_at st.rules w.rule) st place w

-- one statement more
unfoldable pub add : State → Stated → Try State
add st x = add_said st x.place x.says
