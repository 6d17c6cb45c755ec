-- What each statement adds, said as the rules that a manifest keeps.
use Rattle.std.specs.Prelude.{◌≡◌, ℕ, ◌<◌, ◌≤◌, List, [], ◌∷◌, ◌++◌, length, Some, None, codes, decimal, ◌≢◌, slice_index_or, slice_set}
use Rattle.std.specs.List.{AllByRecursion}
use Rattle.parts.specs.Parts.{Entry}
use Rattle.text.specs.Text.{Head, Work, variable, rule, pool, build, Stated}
use Rattle.values.specs.Kept.{bind}
use Rattle.expansion.specs.Model.{TextsData, Read, file_scope, block_scope, with_store, close_block}
use Rattle.graph.specs.Data.{FileData, path_at, maker_at}
use Rattle.lists.specs.Files.{Walk, afresh}
use Rattle.draft.specs.State.{State, stated}
use Rattle.reader.specs.Values.{no_head}
use Rattle.reader.specs.Expands.{Holds, Lacks, Keeps}

-- a step for each element, in order
pub data Steps {S A : Type 0} (R : S → A → S → Type 0) : S → List A → S → Type 0 where
  none : {s : S} → Steps R s [] s
  step : {s t u : S} {x : A} {xs : List A} → R s x t → Steps R t xs u → Steps R s (x ∷ xs) u

-- a variable is set: its text replaces an earlier one, or it is a new one of at most k
pub data Sets (k : ℕ) : List Entry → List ℕ → List ℕ → List Entry → Type 0 where
  replaces : {es : List Entry} {n t u : List ℕ} → Holds es n u → Sets k es n t (bind es (record { name = n; value = t }))
  adds : {es : List Entry} {n t : List ℕ} → Lacks es n → length es < k → Sets k es n t (es ++ record { name = n; value = t } ∷ [])

-- the path p names the file i: one that has it, or a new one of at most 256
pub data Names : List FileData → List ℕ → ℕ → List FileData → Type 0 where
  known : {fs : List FileData} {p : List ℕ} {i : ℕ} → i < length fs → path_at fs i ≡ p → ((j : ℕ) → j < i → path_at fs j ≢ p) → Names fs p i fs
  new : {fs : List FileData} {p : List ℕ} → AllByRecursion (λ f. f.path ≢ p) fs → length fs < 256 → Names fs p (length fs) (fs ++ record { path = p; maker = None } ∷ [])

-- a path of a list of at most k inputs or validations
pub data Input (k : ℕ) (w : Walk) (v : List ℕ) : Walk → Type 0 where
  input : {p u : List ℕ} {i : ℕ} {gs : List FileData} → Keeps 1 128 (block_scope w.texts) w.texts.store v p u → Names w.files p i gs → length w.found < k → Input k w v (record { texts = with_store w.texts u; files = gs; found = w.found ++ i ∷ [] })

-- a path of the at most 8 outputs of the edge e: no edge makes the file so far
pub data Output (e : ℕ) (w : Walk) (v : List ℕ) : Walk → Type 0 where
  output : {p u : List ℕ} {i : ℕ} {gs : List FileData} → Keeps 1 128 (block_scope w.texts) w.texts.store v p u → Names w.files p i gs → maker_at gs i ≡ None → length w.found < 8 → Output e w v (record { texts = with_store w.texts u; files = slice_set gs i (record { path = path_at gs i; maker = Some e }); found = w.found ++ i ∷ [] })

-- a line of a build statement's block
pub data InBlock (d : TextsData) (l : Entry) : TextsData → Type 0 where
  line : {t u : List ℕ} {vs : List Entry} → Keeps 0 1024 (file_scope d) d.store l.value t u → Sets 16 d.block l.name t vs → InBlock d l (record { store = u; file = d.file; block = vs; blocks = d.blocks })

-- a depth line of a pool
pub data InPool (r : Read) (l : Entry) : Read → Type 0 where
  line : {t u : List ℕ} → Keeps 0 1024 (file_scope r.texts) r.texts.store l.value t u → InPool r l (record { text = t; texts = with_store r.texts u })

-- the paths of the build statement w, which is the edge e: all of them are walked in their order from s to v
pub record Paths (e : ℕ) (s : Walk) (w : Work) (outs reads order : List ℕ) (v : Walk) : Type 0 where
  pub explicit_outs : Walk
  pub all_outs : Walk
  pub explicit_reads : Walk
  pub all_reads : Walk
  pub all_order : Walk
  pub first : Steps (Output e) s w.outs.explicit explicit_outs
  pub second : Steps (Output e) explicit_outs w.outs.implicit all_outs
  pub third : Steps (Input 64) (afresh all_outs) w.ins.explicit explicit_reads
  pub fourth : Steps (Input 64) explicit_reads w.ins.implicit all_reads
  pub fifth : Steps (Input 64) (afresh all_reads) w.ins.order_only all_order
  pub sixth : Steps (Input 16) (afresh all_order) w.ins.validations v
  pub outputs : outs ≡ all_outs.found
  pub inputs : reads ≡ all_reads.found
  pub ordered : order ≡ all_order.found

-- the statement x, which keeps the rules, takes what was read so far to what is read with it
pub data Adds (st : State) : Stated → State → Type 0 where
  is_variable : {place : ℕ} {e : Entry} {t u : List ℕ} {vs : List Entry} → Keeps 0 1024 (file_scope st.texts) st.texts.store e.value t u → Sets 128 st.texts.file e.name t vs → Adds st (record { place = place; says = variable e }) (record { texts = record { store = u; file = vs; block = st.texts.block; blocks = st.texts.blocks }; rules = st.rules; pools = st.pools; files = st.files; edges = st.edges; chosen = st.chosen })
  is_rule : {place : ℕ} {h : Head} → AllByRecursion (λ d. d.name ≢ h.name) st.rules → length st.rules < 64 → (Lacks h.lines (codes "command") → ⊥) → Adds st (record { place = place; says = rule h }) (record { texts = st.texts; rules = st.rules ++ h ∷ []; pools = st.pools; files = st.files; edges = st.edges; chosen = st.chosen })
  is_pool : {place : ℕ} {h : Head} {k : ℕ} {d : TextsData} → AllByRecursion (λ p. p.name ≢ h.name) st.pools → length st.pools < 16 → Steps InPool (record { text = []; texts = st.texts }) h.lines (record { text = decimal k; texts = d }) → 1 ≤ k → k ≤ 64 → Adds st (record { place = place; says = pool h }) (record { texts = d; rules = st.rules; pools = st.pools ++ record { name = h.name; depth = k } ∷ []; files = st.files; edges = st.edges; chosen = st.chosen })
  is_build : {place k : ℕ} {w : Work} {d : TextsData} {outs reads order : List ℕ} {v : Walk} → k < length st.rules → (slice_index_or st.rules k no_head).name ≡ w.rule → ((j : ℕ) → j < k → (slice_index_or st.rules j no_head).name ≢ w.rule) → length st.edges < 128 → Steps InBlock st.texts w.lines d → Paths (length st.edges) (record { texts = d; files = st.files; found = [] }) w outs reads order v → Adds st (record { place = place; says = build w }) (record { texts = close_block v.texts; rules = st.rules; pools = st.pools; files = v.files; edges = st.edges ++ stated place outs (length w.outs.explicit) reads (length w.ins.explicit) order v.found ∷ []; chosen = st.chosen ++ k ∷ [] })

-- statements one after the other, all of which keep the rules
abbrev pub Follows : State → List Stated → State → Type 0
Follows = Steps Adds
