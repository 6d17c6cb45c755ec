-- What an edge's rule says of it, and its question: texts without byte 0, a pool that is there, a question that tells its command and paths.
use Rattle.std.proofs.Common.{◌≡◌, ℕ, zero, suc, ◌+◌, ◌<◌, ◌≤◌, true, ◌&&◌, eqb, leb, List, [], ◌∷◌, ◌++◌, map, length, get_or, take, set, Some, None, codes, Option, sym, refl, ap, ◌∙◌, subst, ⊎_elim, arith}
use Rattle.std.specs.List.{AllByRecursion, flat_map}
use Rattle.std.proofs.ByRecursion.{All-append, All-set}
use Rattle.std.proofs.lemmas.List.{length-set, set_past, get_or-set_same, get_or-set_other}
use Rattle.std.proofs.lemmas.Bool.{cond_both, cond-false, cases_lt, cases_eq, and_parts, leb-true, lt-ltb, ne_eqb}
use Rattle.cursor.proofs.Bytes.{AllSome}
use Rattle.store.specs.declared.wrong.Wrong.TheVariants.{Limit}
use Rattle.store.specs.Try.{got, wrong}
use Rattle.values.specs.Expand.{find, look, expand}
use Rattle.store.specs.Stores.{stored}
use Rattle.values.specs.Kept.{sized}
use Rattle.expansion.specs.Model.{TextsData, rule_scope, rule_value, ask}
use Rattle.graph.specs.Data.{FileData, PoolData, EdgeData, no_pool, no_edge, path_at, maker_at, edge_at}
use Rattle.graph.specs.Circle.{inputs_of}
use Rattle.graph.specs.Question.{command_of, question_of}
use Rattle.graph.specs.Lawful.{pool_below}
use Rattle.names.specs.Named.{last_of}
use Rattle.draft.specs.State.{State}
use Rattle.draft.specs.Statements.{pool_at}
use Rattle.reader.specs.Values.{spaced, paths_at, in_text, out_text, no_head, rule_of, block_of, value_by, value_for, pool_found, pool_named, given, with_values, with_question, valued, question_for, asked}
use Rattle.reader.proofs.GoodTexts.{GotAll, then_got, got_more, Clean, Fine, look_clean, expand_clean, CleanText, sized_clean, FineTexts, all_or, block_fine, find_fine, last_of_clean}
use Rattle.reader.proofs.GoodFiles.{Found, place_found, GoodFiles, path_clean, outputs_same}
use Rattle.reader.proofs.GoodState.{EdgeLists, EdgePool, GoodGraph, Good, Ready}

joined_clean : (ps : List (List ℕ)) → AllByRecursion Clean ps → Clean (flat_map (λ q. 32 ∷ q) ps)
joined_clean [] h = tt
joined_clean (p ∷ ps) h = All-append (λ b. b ≡ 0 → ⊥) (32 ∷ p) (flat_map (λ q. 32 ∷ q) ps) ((λ e. omega arith), h.0) (joined_clean ps h.1)

spaced_clean : (ps : List (List ℕ)) → AllByRecursion Clean ps → Clean (spaced ps)
spaced_clean [] h = tt
spaced_clean (p ∷ ps) h = All-append (λ b. b ≡ 0 → ⊥) p (flat_map (λ q. 32 ∷ q) ps) h.0 (joined_clean ps h.1)

paths_clean : (fs : List FileData) (ns : List ℕ) → GoodFiles fs → AllByRecursion Clean (paths_at fs ns)
paths_clean fs [] h = tt
paths_clean fs (n ∷ ns) h = (path_clean fs n h, paths_clean fs ns h)

in_clean : (fs : List FileData) (x : EdgeData) → GoodFiles fs → Clean (in_text fs x)
in_clean fs x h = spaced_clean _ (paths_clean fs (take x.explicit_reads x.reads) h)

out_clean : (fs : List FileData) (x : EdgeData) → GoodFiles fs → Clean (out_text fs x)
out_clean fs x h = spaced_clean _ (paths_clean fs (take x.explicit_outputs x.outputs) h)

rule_value_clean : (d : TextsData) (e : ℕ) (ins outs v : List ℕ) → FineTexts d → Clean ins → Clean outs → Clean v → GotAll Clean (rule_value d e ins outs v)
rule_value_clean d e ins outs v h i o c =
    got_more (CleanText 0 1024) Clean (rule_value d e ins outs v)
    (sized_clean 0 1024 (expand (look (rule_scope d e ins outs)) v)
    (expand_clean (look (rule_scope d e ins outs)) (λ n. look_clean (rule_scope d e ins outs) n (record { special = (i, (o, tt)); block = block_fine d e h; file = h.file })) v c))
    (λ t k. k.clean)

value_by_clean : (b r : Option (List ℕ)) (st : State) (e : ℕ) → AllSome Clean b → AllSome Clean r → Good st → GotAll Clean (value_by b r st e)
value_by_clean (Some t) r st e k g h = k
value_by_clean None None st e k g h = tt
value_by_clean None (Some v) st e k g h =
    rule_value_clean st.texts e _ _ v h.texts (in_clean st.files (edge_at st.edges e) h.graph.files) (out_clean st.files (edge_at st.edges e) h.graph.files) g

value_for_clean : (st : State) (e : ℕ) (n : List ℕ) → Good st → GotAll Clean (value_for st e n)
value_for_clean st e n h =
    value_by_clean (find (block_of st e) n) (last_of (rule_of st e).lines n) st e
    (find_fine (block_of st e) n (block_fine st.texts e h.texts))
    (last_of_clean (rule_of st e).lines n (all_or (λ r. AllByRecursion Fine r.lines) st.rules (get_or st.chosen e 0) no_head tt h.rules)) h

pool_found_below : (ps : List PoolData) (n : List ℕ) (o : Option ℕ) → Found (λ p. p.name) no_pool 0 ps n o → GotAll (λ k. pool_below (length ps) k ≡ true) (pool_found o)
pool_found_below ps n None h = tt
pool_found_below ps n (Some k) h = let e = h.is in let l = h.within in lt-ltb k (length ps) (omega arith)

pool_named_below : (ps : List PoolData) (n : List ℕ) → GotAll (λ k. pool_below (length ps) k ≡ true) (pool_named ps n)
pool_named_below ps [] = refl
pool_named_below ps (b ∷ n) = pool_found_below ps (b ∷ n) (pool_at ps (b ∷ n)) (place_found (λ p. p.name) no_pool 0 ps (b ∷ n))

-- an edge is replaced by one of which f says the same
set_same : {B : Type 0} (f : EdgeData → B) (es : List EdgeData) (e : ℕ) (x : EdgeData) → f x ≡ f (edge_at es e) → (d : ℕ) → f (edge_at (set es e x) d) ≡ f (edge_at es d)
set_same f es e x h d = ⊎_elim
    (λ lt. ⊎_elim
    (λ s. subst (λ i. f (edge_at (set es e x) i) ≡ f (edge_at es i)) (sym s) (ap f (get_or-set_same es e x no_edge lt) ∙ h))
    (λ ne. ap f (get_or-set_other es e d x no_edge ne))
    (cases_eq d e))
    (λ le. ap (λ ys. f (edge_at ys d)) (set_past es e x le))
    (cases_lt e (length es))

-- what holds of each element holds of each still, if it holds of the new one where that takes another's place
all_set_if : {X : Type 0} (P : X → Type 0) (xs : List X) (i : ℕ) (d x : X) → (P (get_or xs i d) → P x) → AllByRecursion P xs → AllByRecursion P (set xs i x)
all_set_if P [] i d x h k = tt
all_set_if P (y ∷ xs) zero d x h k = (h k.0, k.1)
all_set_if P (y ∷ xs) (suc i) d x h k = (k.0, all_set_if P xs i d x h k.1)

-- the files are the same, and each edge has the same inputs
pub record Alike (s t : State) : Type 0 where
  pub files : t.files ≡ s.files
  pub long : length t.edges ≡ length s.edges
  pub inputs : (e : ℕ) → inputs_of (edge_at t.edges e) ≡ inputs_of (edge_at s.edges e)

-- an edge of a graph is replaced by one with the same lists
module _ (ps : List PoolData) (fs : List FileData) (es : List EdgeData) (e : ℕ) (x : EdgeData) where
  graph_set : GoodGraph ps fs es → (EdgeLists (length fs) (edge_at es e) → EdgeLists (length fs) x) → EdgePool (length ps) x → x.outputs ≡ (edge_at es e).outputs → GoodGraph ps fs (set es e x)
  graph_set h l p o = record {
    few_pools = h.few_pools;
    depths = h.depths;
    files = h.files;
    few_edges = omega (arith, length-set es e x, h.few_edges);
    lists = all_set_if (EdgeLists (length fs)) es e no_edge x l h.lists;
    pools = All-set (EdgePool (length ps)) es e x p h.pools;
    makers = outputs_same (maker_at fs) (λ d. (edge_at es d).outputs) (λ d. (edge_at (set es e x) d).outputs) (set_same (λ y. y.outputs) es e x o) h.makers;
  }

-- what is ready, with the files and inputs of s
pub record Valuing (s t : State) : Type 0 where
  pub ready : Ready t
  pub alike : Alike s t

pub valued_good : (s t : State) (e : ℕ) → Valuing s t → GotAll (Valuing s) (valued t e)
valued_good s t e h =
    let g = h.ready.good in
    let es = t.edges in
    then_got Clean (Valuing s) (value_for t e (codes "command")) _ (value_for_clean t e (codes "command") g) (λ c hc.
    then_got Clean (Valuing s) (value_for t e (codes "description")) _ (value_for_clean t e (codes "description") g) (λ d _.
    then_got Clean (Valuing s) (value_for t e (codes "pool")) _ (value_for_clean t e (codes "pool") g) (λ p _.
    then_got Clean (Valuing s) (value_for t e (codes "restat")) _ (value_for_clean t e (codes "restat") g) (λ r _.
    then_got (λ k. pool_below (length t.pools) k ≡ true) (Valuing s) (pool_named t.pools p) _ (pool_named_below t.pools p) (λ k hk.
    let x = with_values (edge_at es e) c d k (given r) in
    record {
      ready = record {
        good = record { texts = g.texts; rules = g.rules; graph = graph_set t.pools t.files es e x g.graph (λ l. l) hk refl };
        commands = All-set (λ y. Clean y.question) es e x hc h.ready.commands;
      };
      alike = record {
        files = h.alike.files;
        long = length-set es e x ∙ h.alike.long;
        inputs = λ i. set_same inputs_of es e x refl i ∙ h.alike.inputs i;
      };
    })))))

-- the question of the edge x, of at most 1,024 bytes
pub record Asked (fs : List FileData) (x : EdgeData) : Type 0 where
  pub short : length x.question ≤ 1024
  pub asks : x.question ≡ question_of (command_of x.question) (map (path_at fs) x.reads) (map (path_at fs) x.outputs)

-- the edges below e have their question, the others their command
pub record Asking (s : State) (e : ℕ) (t : State) : Type 0 where
  pub good : Good t
  pub alike : Alike s t
  pub asked : (d : ℕ) → d < e → d < length t.edges → Asked t.files (edge_at t.edges d)
  pub waits : (d : ℕ) → e ≤ d → Clean (edge_at t.edges d).question

pub asking_none : (s t : State) → Valuing s t → Asking s 0 t
asking_none s t h = record {
  good = h.ready.good;
  alike = h.alike;
  asked = λ d l. absurd (omega arith);
  waits = λ d l. all_or (λ x. Clean x.question) t.edges d no_edge tt h.ready.commands;
}

-- the command of a question comes back
command_back : (c s : List ℕ) → Clean c → command_of (c ++ 0 ∷ s) ≡ c
command_back [] s h = refl
command_back (b ∷ c) s h = cond-false (eqb b 0) [] (b ∷ command_of (c ++ 0 ∷ s)) (ne_eqb b 0 h.0) ∙ ap (λ t. b ∷ t) (command_back c s h.1)

-- what the store receives has at most 1,024 bytes
record Received (q : List ℕ) (d : TextsData) : Type 0 where
  short : length q ≤ 1024
  texts : FineTexts d

sized_short : (q : List ℕ) → GotAll (λ t. length q ≤ 1024) (sized 0 1024 q)
sized_short q =
    cond_both (leb 0 (length q) && leb (length q) 1024) (got q) (wrong Limit) (GotAll (λ t. length q ≤ 1024))
    (λ e. leb-true (length q) 1024 (and_parts (leb 0 (length q)) (leb (length q) 1024) e).1) (λ _. tt)

ask_received : (d : TextsData) (q : List ℕ) → FineTexts d → GotAll (Received q) (ask d q)
ask_received d q h =
    then_got (λ t. length q ≤ 1024) (Received q) (sized 0 1024 q) _ (sized_short q) (λ t l.
    then_got (λ _. Unit {0}) (Received q) (stored d.store t) _ (cond_both (leb (length d.store + length t) 32768) (got (d.store ++ t)) (wrong Limit) (GotAll (λ _. Unit {0})) (λ _. tt) (λ _. tt)) (λ s _.
    record { short = l; texts = record { file = h.file; block = h.block; blocks = h.blocks } }))

module _ (fs : List FileData) (x : EdgeData) (clean : Clean x.question) (short : length (question_for fs x) ≤ 1024) where
  question_asked : Asked fs (with_question x (question_for fs x))
  question_asked = record {
    short = short;
    asks = ap (λ c. question_of c (paths_at fs x.reads) (paths_at fs x.outputs)) (sym (command_back x.question _ clean));
  }

pub asked_good : (s t : State) (e : ℕ) → Asking s e t → GotAll (Asking s (e + 1)) (asked t e)
asked_good s t e h =
    let x = edge_at t.edges e in
    let q = question_for t.files x in
    let y = with_question x q in
    let es = t.edges in
    then_got (Received q) (Asking s (e + 1)) (ask t.texts q) _ (ask_received t.texts q h.good.texts) (λ d r.
    record {
      good = record {
        texts = r.texts;
        rules = h.good.rules;
        graph = graph_set t.pools t.files es e y h.good.graph (λ l. l) (all_or (EdgePool (length t.pools)) es e no_edge refl h.good.graph.pools) refl;
      };
      alike = record {
        files = h.alike.files;
        long = length-set es e y ∙ h.alike.long;
        inputs = λ i. set_same inputs_of es e y refl i ∙ h.alike.inputs i;
      };
      asked = λ i l m. ⊎_elim
          (λ same.
          let lt : e < length es = omega (arith, length-set es e y) in
          subst (λ j. Asked t.files (edge_at (set es e y) j)) (sym same)
          (subst (Asked t.files) (sym (get_or-set_same es e y no_edge lt)) (question_asked t.files x (h.waits e (omega arith)) r.short)))
          (λ ne. subst (Asked t.files) (sym (get_or-set_other es e i y no_edge ne)) (h.asked i (omega arith) (omega (arith, length-set es e y))))
          (cases_eq i e);
      waits = λ i l. subst (λ z. Clean z.question) (sym (get_or-set_other es e i y no_edge (λ same. omega arith))) (h.waits i (omega arith));
    })
