-- The graph that a manifest comes to keeps the law.
use Rattle.std.proofs.Common.{◌≡◌, ℕ, zero, suc, ◌+◌, ◌<◌, ◌≤◌, true, false, ◌&&◌, eqb, ltb, List, [], ◌∷◌, length, get_or, Some, None, Option, sym, refl, ap, ◌∙◌, subst, ⊎_elim, arith}
use Rattle.std.proofs.ByRecursion.{All-get_or}
use Rattle.std.proofs.lemmas.List.{get_or_past}
use Rattle.std.proofs.lemmas.Bool.{false≢true, cases_lt, or_from, ne_eqb}
use Rattle.cursor.specs.declared.place.Fault.{Fault as TextFault}
use Rattle.text.specs.Text.{checked}
use Rattle.text.proofs.Bytes.{checked_none}
use Rattle.store.specs.Try.{Try}
use Rattle.graph.specs.Data.{EdgeData, GraphData, no_file, no_pool, no_edge, path_at, edge_at}
use Rattle.graph.specs.Circle.{makes_one, inputs_of, needs, circle_of, ranks_of}
use Rattle.graph.specs.Question.{holds}
use Rattle.graph.specs.Lawful.{FileLaw, ListLaw, EdgeLaw, RankLaw, Lawful}
use Rattle.graph.proofs.Ranks.{ranked_is}
use Rattle.draft.specs.State.{State}
use Rattle.reader.specs.Answers.{Answer, done, failed, at}
use Rattle.reader.specs.Values.{valued, asked}
use Rattle.reader.specs.Load.{read_all, each_edge, Loaded, loaded, finish_by, finish, load_by, load_of}
use Rattle.reader.proofs.GoodTexts.{GotAll, Clean, CleanText}
use Rattle.reader.proofs.GoodFiles.{holds_get_or}
use Rattle.reader.proofs.GoodState.{Deep, EdgeLists, EdgePool, Ready, DoneAll, then_done, at_done, read_all_ready}
use Rattle.reader.proofs.GoodValues.{Alike, Valuing, valued_good, Asking, asking_none, asked_good}

-- an invariant that counts the edges, after a step for each of n edges
record Reached (P : ℕ → State → Type 0) (n e : ℕ) (t : State) : Type 0 where
  all : ℕ
  sum : all ≡ n + e
  holds : P all t

done_more : {A : Type 0} (P Q : A → Type 0) (o : Answer A) → DoneAll P o → ((a : A) → P a → Q a) → DoneAll Q o
done_more P Q (done a) h k = k a h
done_more P Q (failed f) h k = tt

each_edge_reached : (P : ℕ → State → Type 0) (f : State → ℕ → Try State) → ((t : State) (e : ℕ) → P e t → GotAll (P (e + 1)) (f t e)) → (n e : ℕ) (t : State) → P e t → DoneAll (Reached P n e) (each_edge f n e t)
each_edge_reached P f step zero e t h = record { all = e; sum = omega arith; holds = h }
each_edge_reached P f step (suc n) e t h =
    then_done (P (e + 1)) (Reached P (suc n) e) (at (edge_at t.edges e).place (f t e)) _ (at_done (P (e + 1)) _ (f t e) (step t e h)) (λ u g.
    done_more (Reached P n (e + 1)) (Reached P (suc n) e) (each_edge f n (e + 1) u) (each_edge_reached P f step n (e + 1) u g) (λ v r.
    let s = r.sum in
    record { all = r.all; sum = omega arith; holds = r.holds }))

clean_holds : (s : List ℕ) → Clean s → holds 0 s ≡ false
clean_holds [] h = refl
clean_holds (b ∷ s) h = or_from (eqb 0 b) (holds 0 s) (ne_eqb 0 b (λ e. h.0 (sym e))) (clean_holds s h.1)

-- an edge with an output is there
holder_low : (es : List EdgeData) (e f : ℕ) → holds f (edge_at es e).outputs ≡ true → e < length es
holder_low es e f h = ⊎_elim (λ lt. lt)
    (λ le. absurd (false≢true (sym (ap (λ (x : EdgeData). holds f x.outputs) (get_or_past es e no_edge le)) ∙ h)))
    (cases_lt e (length es))

-- which edge needs which depends on the files and the inputs alone
needs_same : (s t : State) (e d : ℕ) → Alike s t → needs t.files t.edges e d ≡ needs s.files s.edges e d
needs_same s t e d h =
    ap (λ fs. ltb d (length t.edges) && makes_one fs d (inputs_of (edge_at t.edges e))) h.files
    ∙ ap (λ n. ltb d n && makes_one s.files d (inputs_of (edge_at t.edges e))) h.long
    ∙ ap (λ xs. ltb d (length s.edges) && makes_one s.files d xs) (h.inputs e)

-- the state t in which all edges have their questions, and the ranks of the state s before
module _ (s t : State) (n : ℕ) (off : circle_of s.files s.edges ≡ None) (asked : Asking s n t) (all : length t.edges ≤ n) where
  abbrev final : GraphData
  final = (loaded (ranks_of s.files s.edges) t).graph

  file_law : (f : ℕ) → f < length t.files → FileLaw final f
  file_law f l =
      let g = asked.good.graph in
      let p = All-get_or (λ x. CleanText 1 128 x.path) t.files f no_file l g.files.paths in
      record {
        some = p.some;
        short = p.short;
        plain = clean_holds (path_at t.files f) p.clean;
        maker = λ e m. holder_low t.edges e f (g.makers.made f e m);
        among = λ e m. g.makers.made f e m;
      }

  list_law : (e : ℕ) → e < length t.edges → ListLaw final (edge_at t.edges e)
  list_law e l =
      let g = asked.good.graph in
      let x = All-get_or (EdgeLists (length t.files)) t.edges e no_edge l g.lists in
      record {
        some = x.some;
        few = x.few;
        explicit = x.explicit;
        explicit_outputs = x.all;
        reads = x.few_reads;
        explicit_reads = x.all_reads;
        order_only = x.few_order;
        validations = x.few_checks;
        outputs_known = x.outs_known;
        reads_known = x.reads_known;
        order_only_known = x.order_known;
        validations_known = x.checks_known;
        pool_known = All-get_or (EdgePool (length t.pools)) t.edges e no_edge l g.pools;
      }

  edge_law : (e : ℕ) → e < length t.edges → EdgeLaw final e (edge_at t.edges e)
  edge_law e l =
      let g = asked.good.graph in
      let q = asked.asked e (omega arith) l in
      record {
        lists = list_law e l;
        apart = g.makers.apart e;
        makes = λ i k. g.makers.makes e (get_or (edge_at t.edges e).outputs i 0) (holds_get_or (edge_at t.edges e).outputs i k);
        short = q.short;
        asks = q.asks;
      }

  rank_law : RankLaw final
  rank_law =
      let r = ranked_is s.files s.edges (ranks_of s.files s.edges) off refl in
      let same = asked.alike.long in
      record {
        long = r.long ∙ sym same;
        low = λ e l. let h = r.low e (omega arith) in omega arith;
        falls = λ e d h. r.falls e d (sym (needs_same s t e d asked.alike) ∙ h);
      }

  graph_lawful : Lawful final
  graph_lawful =
      let g = asked.good.graph in
      record {
        few = record { files = g.files.few; edges = g.few_edges; pools = g.few_pools };
        file = file_law;
        same = g.files.same;
        pool = λ p l. let h = All-get_or (λ x. Deep x.depth) t.pools p no_pool l g.depths in record { some = h.some; most = h.most };
        edge = edge_law;
        rank = rank_law;
      }

-- what was answered is lawful
abbrev LoadedLaw : Loaded → Type 0
LoadedLaw l = Lawful l.graph

finish_by_lawful : (st : State) (o : Option ℕ) → circle_of st.files st.edges ≡ o → Ready st → DoneAll LoadedLaw (finish_by o st)
finish_by_lawful st (Some c) e h = tt
finish_by_lawful st None e h =
    then_done (Reached (λ _. Valuing st) (length st.edges) 0) LoadedLaw (each_edge valued (length st.edges) 0 st) _
    (each_edge_reached (λ _. Valuing st) valued (valued_good st) (length st.edges) 0 st (record { ready = h; alike = record { files = refl; long = refl; inputs = λ i. refl } }))
    (λ t r.
    then_done (Reached (Asking st) (length t.edges) 0) LoadedLaw (each_edge asked (length t.edges) 0 t) _
    (each_edge_reached (Asking st) asked (asked_good st) (length t.edges) 0 t (asking_none st t r.holds))
    (λ u q.
    let a = r.holds.alike.long in
    let b = q.holds.alike.long in
    let c = q.sum in
    graph_lawful st u q.all e q.holds (omega arith)))

load_by_lawful : (s : List ℕ) (o : Option TextFault) → checked s ≡ o → DoneAll LoadedLaw (load_by o s)
load_by_lawful s (Some f) e = tt
load_by_lawful s None e =
    then_done Ready LoadedLaw (read_all s) finish (read_all_ready s (checked_none s e)) (λ st h.
    finish_by_lawful st (circle_of st.files st.edges) refl h)

load_done : (s : List ℕ) → DoneAll LoadedLaw (load_of s)
unfolding load_of
load_done s = load_by_lawful s (checked s) refl

-- the graph that a manifest comes to is lawful
pub load_lawful : (s : List ℕ) (l : Loaded) → load_of s ≡ done l → Lawful l.graph
load_lawful s l e = subst (DoneAll LoadedLaw) e (load_done s)
