-- What the statements of a manifest have come to keeps the law of files, edges and pools, and has no byte 0 in any text.
use Rattle.std.proofs.Common.{◌≡◌, ℕ, zero, suc, ◌+◌, ◌-◌, ◌*◌, ◌<◌, ◌≤◌, true, ◌&&◌, ltb, leb, List, [], ◌∷◌, ◌++◌, length, is_some, Some, None, codes, Option, sym, refl, ap, ◌∙◌, ⊎_elim, arith}
use Rattle.std.specs.List.{AllByRecursion}
use Rattle.std.proofs.ByRecursion.{All-push, All-weaker}
use Rattle.std.proofs.lemmas.List.{length_push, get_or_push, get_or_past, get_or_append_left}
use Rattle.std.proofs.lemmas.Bool.{cond_both, cases_lt, cases_eq, and_parts, leb-true, ltb-true, lt-ltb}
use Rattle.cursor.specs.Scan.{Out, ok, bad}
use Rattle.cursor.proofs.Bytes.{AllSome, Keeps}
use Rattle.parts.specs.Parts.{Entry, skipped}
use Rattle.parts.proofs.Bytes.{AllEntry}
use Rattle.text.specs.Text.{Head, Work, Said, variable, rule, pool, build, Stated, statement, at_start, next}
use Rattle.text.specs.Grammar.{Between, Says, Working, Outputs}
use Rattle.text.proofs.Sound.{Sound, then_sound}
use Rattle.text.proofs.SoundParts.{between_sound, statement_sound}
use Rattle.text.proofs.Bytes.{AllHead, AllWork, AllSaid, AllStated, next_bytes}
use Rattle.store.specs.declared.wrong.Wrong.TheVariants.{Again, Limit, Lacks}
use Rattle.store.specs.Try.{Try, got, wrong}
use Rattle.expansion.specs.Model.{TextsData, set_file, set_block}
use Rattle.graph.specs.Data.{FileData, PoolData, EdgeData, no_edge, maker_at, edge_at}
use Rattle.graph.specs.Lawful.{pool_below}
use Rattle.names.specs.Named.{last_of}
use Rattle.lists.specs.Each.{each_try}
use Rattle.names.specs.Depth.{digit_from, low_depth, depth_of}
use Rattle.draft.specs.State.{State, no_state, stated}
use Rattle.draft.specs.Statements.{rule_at, pool_at, add_variable, add_rule, take_depth, deep_pool, add_pool, with_edge, add_edge, add_said, add}
use Rattle.lists.specs.Paths.{Lists, take_paths}
use Rattle.reader.specs.Answers.{Answer, done, failed, and_done, at}
use Rattle.reader.specs.Load.{step_on, read_on, read_all}
use Rattle.reader.proofs.GoodTexts.{GotAll, then_got, got_more, each_got, Clean, Fine, FineTexts, FineRead, no_texts_fine, set_file_fine, set_block_fine, read_depth_fine, close_block_fine}
use Rattle.reader.proofs.GoodFiles.{GoodFiles, Makers, outputs_same}
use Rattle.reader.proofs.GoodPaths.{below_more, open_outputs, open_here, open_other, GoodLists, GoodPaths, take_paths_good}

-- a byte that is not 0
abbrev Byte : ℕ → Type 0
Byte b = b ≡ 0 → ⊥

-- 1 to 64
pub record Deep (k : ℕ) : Type 0 where
  pub some : 1 ≤ k
  pub most : k ≤ 64

-- the lists of the edge x, in a graph of n files
abbrev pub EdgeLists : ℕ → EdgeData → Type 0
EdgeLists n x = GoodLists n x.outputs x.explicit_outputs x.reads x.explicit_reads x.order_only x.validations

-- the pool of the edge x is one of n
abbrev pub EdgePool : ℕ → EdgeData → Type 0
EdgePool n x = pool_below n x.pool ≡ true

-- pools, files and edges that keep the law, but for questions and ranks
pub record GoodGraph (ps : List PoolData) (fs : List FileData) (es : List EdgeData) : Type 0 where
  pub few_pools : length ps ≤ 16
  pub depths : AllByRecursion (λ p. Deep p.depth) ps
  pub files : GoodFiles fs
  pub few_edges : length es ≤ 128
  pub lists : AllByRecursion (EdgeLists (length fs)) es
  pub pools : AllByRecursion (EdgePool (length ps)) es
  pub makers : Makers (maker_at fs) (λ e. (edge_at es e).outputs)

-- what was read so far
pub record Good (st : State) : Type 0 where
  pub texts : FineTexts st.texts
  pub rules : AllByRecursion (λ h. AllByRecursion Fine h.lines) st.rules
  pub graph : GoodGraph st.pools st.files st.edges

-- the same, while a command, if anything, stands in place of each edge's question
pub record Ready (st : State) : Type 0 where
  pub good : Good st
  pub commands : AllByRecursion (λ x. Clean x.question) st.edges

pub no_state_ready : Ready no_state
no_state_ready = record {
  good = record {
    texts = no_texts_fine;
    rules = tt;
    graph = record {
      few_pools = omega arith;
      depths = tt;
      files = record { few = omega arith; paths = tt; same = λ a b l. absurd (omega arith) };
      few_edges = omega arith;
      lists = tt;
      pools = tt;
      makers = record { made = λ f e t. t; makes = λ e f t. t; apart = λ e i j l. absurd (omega arith) };
    };
  };
  commands = tt;
}

lines_fine : (es : List Entry) → AllByRecursion (AllEntry Byte) es → AllByRecursion Fine es
lines_fine es h = All-weaker (AllEntry Byte) Fine (λ e k. k.value) es h

add_variable_ready : (st : State) (e : Entry) → Ready st → AllEntry Byte e → GotAll Ready (add_variable st e)
add_variable_ready st e h k =
    then_got FineTexts Ready (set_file st.texts e) _ (set_file_fine st.texts e h.good.texts k.value) (λ d u.
    record { good = record { texts = u; rules = h.good.rules; graph = h.good.graph }; commands = h.commands })

add_rule_ready : (st : State) (d : Head) → Ready st → AllHead Byte d → GotAll Ready (add_rule st d)
add_rule_ready st d h k =
    cond_both (is_some (rule_at st.rules d.name)) (wrong Again) _ (GotAll Ready) (λ _. tt) (λ _.
    cond_both (ltb (length st.rules) 64) _ (wrong Limit) (GotAll Ready)
    (λ _. cond_both (is_some (last_of d.lines (codes "command"))) (got _) (wrong Lacks) (GotAll Ready)
    (λ _. record {
      good = record { texts = h.good.texts; rules = All-push (λ x. AllByRecursion Fine x.lines) st.rules d h.good.rules (lines_fine d.lines k.lines); graph = h.good.graph };
      commands = h.commands;
    })
    (λ _. tt))
    (λ _. tt))

low_depth_lem : (k : ℕ) → 1 ≤ k → AllSome Deep (low_depth k)
low_depth_lem k l = cond_both (leb k 64) (Some k) None (AllSome Deep) (λ e. record { some = l; most = leb-true k 64 e }) (λ _. tt)

depth_deep : (t : List ℕ) → AllSome Deep (depth_of t)
depth_deep [] = tt
depth_deep (a ∷ []) =
    cond_both (digit_from 49 a) (Some (a - 48)) None (AllSome Deep)
    (λ e.
    let p = and_parts (leb 49 a) (leb a 57) e in
    let low = leb-true 49 a p.0 in
    let high = leb-true a 57 p.1 in
    record { some = omega arith; most = omega arith })
    (λ _. tt)
depth_deep (a ∷ b ∷ []) =
    cond_both (digit_from 49 a && digit_from 48 b) (low_depth (10 * (a - 48) + (b - 48))) None (AllSome Deep)
    (λ e.
    let low = leb-true 49 a (and_parts (leb 49 a) (leb a 57) (and_parts (digit_from 49 a) (digit_from 48 b) e).0).0 in
    low_depth_lem (10 * (a - 48) + (b - 48)) (omega arith))
    (λ _. tt)
depth_deep (a ∷ b ∷ c ∷ s) = tt

pool_below_more : (n m : ℕ) (o : Option ℕ) → n ≤ m → pool_below n o ≡ true → pool_below m o ≡ true
pool_below_more n m None l h = refl
pool_below_more n m (Some p) l h = lt-ltb p m (let g = ltb-true p n h in omega arith)

deep_pool_ready : (st : State) (d : TextsData) (n : List ℕ) (o : Option ℕ) → Ready st → FineTexts d → length st.pools < 16 → AllSome Deep o → GotAll Ready (deep_pool o st d n)
deep_pool_ready st d n None h u l k = tt
deep_pool_ready st d n (Some j) h u l k =
    let long = length_push st.pools (record { name = n; depth = j }) in
    let g = h.good.graph in
    record {
      good = record {
        texts = u;
        rules = h.good.rules;
        graph = record {
          few_pools = omega (arith, long);
          depths = All-push (λ p. Deep p.depth) st.pools (record { name = n; depth = j }) g.depths k;
          files = g.files;
          few_edges = g.few_edges;
          lists = g.lists;
          pools = All-weaker (EdgePool (length st.pools)) (EdgePool (length (st.pools ++ record { name = n; depth = j } ∷ []))) (λ x e. pool_below_more (length st.pools) _ x.pool (omega (arith, long)) e) st.edges g.pools;
          makers = g.makers;
        };
      };
      commands = h.commands;
    }

add_pool_ready : (st : State) (d : Head) → Ready st → AllHead Byte d → GotAll Ready (add_pool st d)
add_pool_ready st d h k =
    cond_both (is_some (pool_at st.pools d.name)) (wrong Again) _ (GotAll Ready) (λ _. tt) (λ _.
    cond_both (ltb (length st.pools) 16) _ (wrong Limit) (GotAll Ready)
    (λ e.
    then_got (λ r. (m : ℕ) × (m ≡ length d.lines + 0) × FineTexts r.texts) Ready (each_try take_depth (record { text = []; texts = st.texts }) d.lines) _
    (each_got (λ _ r. FineTexts r.texts) Fine take_depth (λ n r x u f. got_more (FineRead 0 1024) (λ a. FineTexts a.texts) (take_depth r x) (read_depth_fine r.texts x.value u f) (λ a g. g.texts)) 0 (record { text = []; texts = st.texts }) d.lines h.good.texts (lines_fine d.lines k.lines))
    (λ r u. deep_pool_ready st r.texts d.name (depth_of r.text) h u.2 (ltb-true (length st.pools) 16 e) (depth_deep r.text)))
    (λ _. tt))

lists_more : (n m : ℕ) (x : EdgeData) → n ≤ m → EdgeLists n x → EdgeLists m x
lists_more n m x l h = record {
  some = h.some;
  few = h.few;
  explicit = h.explicit;
  all = h.all;
  few_reads = h.few_reads;
  all_reads = h.all_reads;
  few_order = h.few_order;
  few_checks = h.few_checks;
  outs_known = below_more n m x.outputs l h.outs_known;
  reads_known = below_more n m x.reads l h.reads_known;
  order_known = below_more n m x.order_only l h.order_known;
  checks_known = below_more n m x.validations l h.checks_known;
}

-- before the first output of the next edge
open_none : (es : List EdgeData) (e : ℕ) → open_outputs es [] e ≡ (edge_at es e).outputs
open_none es e = ⊎_elim
    (λ s. open_here es [] e s ∙ sym (ap (λ (x : EdgeData). x.outputs) (get_or_past es e no_edge (omega arith))))
    (λ ne. open_other es [] e ne)
    (cases_eq e (length es))

-- once the edge is there
open_all : (es : List EdgeData) (x : EdgeData) (e : ℕ) → (edge_at (es ++ x ∷ []) e).outputs ≡ open_outputs es x.outputs e
open_all es x e = ⊎_elim
    (λ s. ap (λ (y : EdgeData). y.outputs) (get_or_push es x no_edge e (sym s)) ∙ sym (open_here es x.outputs e s))
    (λ ne. ⊎_elim
    (λ lt. ap (λ (y : EdgeData). y.outputs) (get_or_append_left es (x ∷ []) no_edge e lt) ∙ sym (open_other es x.outputs e ne))
    (λ le.
    ap (λ (y : EdgeData). y.outputs) (get_or_past (es ++ x ∷ []) e no_edge (omega (arith, length_push es x)) ∙ sym (get_or_past es e no_edge le))
    ∙ sym (open_other es x.outputs e ne))
    (cases_lt e (length es)))
    (cases_eq e (length es))

with_edge_ready : (st : State) (place k : ℕ) (w : Work) (l : Lists) → Ready st → length st.edges < 128 → GoodPaths st.edges (length st.files) w l → Ready (with_edge st place k w l)
with_edge_ready st place k w l h room p =
    let x = stated place l.outputs (length w.outs.explicit) l.reads (length w.ins.explicit) l.order_only l.after.found in
    let long = length_push st.edges x in
    let g = h.good.graph in
    record {
      good = record {
        texts = close_block_fine l.after.texts p.texts;
        rules = h.good.rules;
        graph = record {
          few_pools = g.few_pools;
          depths = g.depths;
          files = p.files;
          few_edges = omega (arith, long);
          lists = All-push (EdgeLists (length l.after.files)) st.edges x (All-weaker (EdgeLists (length st.files)) (EdgeLists (length l.after.files)) (λ y k. lists_more (length st.files) (length l.after.files) y p.grown k) st.edges g.lists) p.lists;
          pools = All-push (EdgePool (length st.pools)) st.edges x g.pools refl;
          makers = outputs_same (maker_at l.after.files) (open_outputs st.edges l.outputs) (λ e. (edge_at (st.edges ++ x ∷ []) e).outputs) (open_all st.edges x) p.makers;
        };
      };
      commands = All-push (λ x. Clean x.question) st.edges x h.commands tt;
    }

add_edge_ready : (o : Option ℕ) (st : State) (place : ℕ) (w : Work) → Ready st → AllWork Byte w → 1 ≤ length w.outs.explicit → GotAll Ready (add_edge o st place w)
add_edge_ready None st place w h k some = tt
add_edge_ready (Some r) st place w h k some =
    cond_both (ltb (length st.edges) 128) _ (wrong Limit) (GotAll Ready)
    (λ e.
    then_got (λ d. (m : ℕ) × (m ≡ length w.lines + 0) × FineTexts d) Ready (each_try set_block st.texts w.lines) _
    (each_got (λ _ d. FineTexts d) Fine set_block (λ n d x u f. set_block_fine d x u f) 0 st.texts w.lines h.good.texts (lines_fine w.lines k.lines))
    (λ d u.
    then_got (GoodPaths st.edges (length st.files) w) Ready (take_paths (length st.edges) (record { texts = d; files = st.files; found = [] }) w) _
    (take_paths_good st.edges (length st.files) (record { texts = d; files = st.files; found = [] }) w
    (record {
      texts = u.2;
      files = h.good.graph.files;
      grown = omega arith;
      makers = outputs_same (maker_at st.files) (λ e. (edge_at st.edges e).outputs) (open_outputs st.edges []) (open_none st.edges) h.good.graph.makers;
      count = refl;
      few = omega arith;
      known = λ i l. absurd (omega arith);
    }) k some)
    (λ l p. with_edge_ready st place r w l h (ltb-true (length st.edges) 128 e) p)))
    (λ _. tt)

-- a build statement has an explicit output
abbrev Built : Said → Type 0
Built (variable e) = Unit {0}
Built (rule d) = Unit {0}
Built (pool d) = Unit {0}
Built (build w) = 1 ≤ length w.outs.explicit

says_built : {s r : List ℕ} (x : Said) → Says s x r → Built x
says_built (variable e) h = tt
says_built (rule d) h = tt
says_built (pool d) h = tt
says_built (build w) (Says.is_build n e (Working.working (Outputs.outputs a b c) g i j k)) = omega arith

-- the same, of what is read next
abbrev NextBuilt : Option Stated → List ℕ → Type 0
NextBuilt o r = AllSome (λ x. Built x.says) o

at_start_built : (i : ℕ) (s : List ℕ) → Sound NextBuilt (at_start i s)
at_start_built i [] = tt
at_start_built i (b ∷ s) = then_sound (Says (b ∷ s)) NextBuilt (statement i (b ∷ s)) _ (statement_sound i (b ∷ s)) (λ x j r h. says_built x h)

next_built : (i : ℕ) (s : List ℕ) → Sound NextBuilt (next i s)
unfolding next
next_built i s = then_sound (Between s) NextBuilt (skipped i s) _ (between_sound i s) (λ _ j r _. at_start_built j r)

add_said_ready : (st : State) (place : ℕ) (x : Said) → Ready st → AllSaid Byte x → Built x → GotAll Ready (add_said st place x)
add_said_ready st place (variable e) h k b = add_variable_ready st e h k
add_said_ready st place (rule d) h k b = add_rule_ready st d h k
add_said_ready st place (pool d) h k b = add_pool_ready st d h k
add_said_ready st place (build w) h k b = add_edge_ready (rule_at st.rules w.rule) st place w h k b

add_ready : (st : State) (x : Stated) → Ready st → AllStated Byte x → Built x.says → GotAll Ready (add st x)
unfolding add
add_ready st x h k b = add_said_ready st x.place x.says h k b

-- what is answered, if it is no fault, has P
abbrev pub DoneAll : {A : Type 0} → (A → Type 0) → Answer A → Type 0
DoneAll P (done a) = P a
DoneAll P (failed f) = Unit {0}

pub then_done : {A B : Type 0} (P : A → Type 0) (Q : B → Type 0) (o : Answer A) (f : A → Answer B) → DoneAll P o → ((a : A) → P a → DoneAll Q (f a)) → DoneAll Q (and_done o f)
then_done P Q (done a) f h k = k a h
then_done P Q (failed e) f h k = tt

pub at_done : {A : Type 0} (P : A → Type 0) (p : ℕ) (o : Try A) → GotAll P o → DoneAll P (at p o)
at_done P p (got a) h = h
at_done P p (wrong w) h = tt

step_on_ready : (o : Out (Option Stated)) (k : ℕ → List ℕ → State → Answer State) (st : State) → Keeps Byte (AllSome (AllStated Byte)) o → Sound NextBuilt o → Ready st → ((j : ℕ) (r : List ℕ) (t : State) → Clean r → Ready t → DoneAll Ready (k j r t)) → DoneAll Ready (step_on o k st)
step_on_ready (bad f) k st u b h g = tt
step_on_ready (ok None j r) k st u b h g = h
step_on_ready (ok (Some x) j r) k st u b h g =
    then_done Ready Ready (at x.place (add st x)) _ (at_done Ready x.place (add st x) (add_ready st x h u.0 b)) (λ t w. g j r t u.1 w)

read_on_ready : (n i : ℕ) (s : List ℕ) (st : State) → Clean s → Ready st → DoneAll Ready (read_on n i s st)
read_on_ready zero i s st c h = h
read_on_ready (suc n) i s st c h =
    step_on_ready (next i s) (read_on n) st (next_bytes Byte i s c) (next_built i s) h (λ j r t d g. read_on_ready n j r t d g)

pub read_all_ready : (s : List ℕ) → Clean s → DoneAll Ready (read_all s)
read_all_ready s c = read_on_ready (suc (length s)) 0 s no_state c no_state_ready
