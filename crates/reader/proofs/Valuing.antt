-- The values that rules and blocks give to edges, computed, are those of the relation.
use Rattle.std.proofs.Common.{◌≡◌, ℕ, zero, suc, ◌+◌, ◌<◌, ◌≤◌, ◌&&◌, leb, ◌⊎◌, List, [], ◌∷◌, length, set, Some, None, codes, Option, sym, refl, ap, ◌∙◌, subst, ⊎_elim, arith}
use Rattle.std.proofs.lemmas.List.{length-set, get_or-set_same, get_or-set_other}
use Rattle.std.proofs.lemmas.Bool.{cases_eq, cases_order, leb-true, and_parts}
use Rattle.parts.specs.Parts.{Entry}
use Rattle.store.specs.Try.{got}
use Rattle.values.specs.Expand.{find, look, expand}
use Rattle.values.specs.Kept.{sized}
use Rattle.expansion.specs.Model.{TextsData, rule_scope, rule_value}
use Rattle.graph.specs.Data.{PoolData, EdgeData, no_edge, edge_at}
use Rattle.names.specs.Named.{last_of}
use Rattle.draft.specs.State.{State}
use Rattle.draft.specs.Statements.{pool_at}
use Rattle.reader.specs.Values.{in_text, out_text, rule_of, block_of, value_by, value_for, pool_found, pool_named, given, with_values, valued}
use Rattle.reader.specs.Answers.{Answer, done, at}
use Rattle.reader.specs.Load.{each_edge}
use Rattle.reader.specs.Means.{Last, Value, no_pool, Pooled}
use Rattle.reader.proofs.Formed.{Formed, FormedLines}
use Rattle.reader.proofs.Expanding.{find_holds, holds_find, find_lacks, lacks_find, expands_sound, expands_full, sized_got}
use Rattle.reader.proofs.Naming.{Got, then_got, got_at, got_cond, after, First, Placed, placed, place_first, first_at}
use Rattle.reader.proofs.Adding.{last_sound, last_none, last_full, last_lack}
use Rattle.reader.proofs.Faults.{valued_other}
use Rattle.reader.proofs.Following.{Ends, then_ends, ends_more, at_ends, next_done, NoCircle}

formed_last : {ls : List Entry} {n v : List ℕ} → Last ls n v → FormedLines ls → Formed v
formed_last (Last.here e h) f = f.0
formed_last (Last.there h) f = formed_last h f.1

pub value_full : (st : State) (e : ℕ) (n : List ℕ) → FormedLines (rule_of st e).lines → Got (Value st e n) (value_for st e n)
value_full st e n f = by (find (block_of st e) n) (last_of (rule_of st e).lines n) refl refl
  where
    by : (b r : Option (List ℕ)) → find (block_of st e) n ≡ b → last_of (rule_of st e).lines n ≡ r → Got (Value st e n) (value_by b r st e)
    by (Some t) r p q = Got.gives (Value.own (find_holds (block_of st e) n t p))
    by None None p q = Got.gives (Value.none (find_lacks (block_of st e) n p) (last_lack (rule_of st e).lines n q))
    by None (Some v) p q =
        let c = rule_scope st.texts e (in_text st.files (edge_at st.edges e)) (out_text st.files (edge_at st.edges e)) in
        let t = expand (look c) v in
        let l = last_full (rule_of st e).lines n v q in
        got_cond (leb 0 (length t) && leb (length t) 1024) (got t) _
        (λ h. Got.gives (Value.ruled (find_lacks (block_of st e) n p) l (expands_full c (formed_last l f)) (leb-true (length t) 1024 (and_parts (leb 0 (length t)) (leb (length t) 1024) h).1)))
        (λ _. Got.fails)

pub value_sound : {st : State} {e : ℕ} {n t : List ℕ} → Value st e n t → value_for st e n ≡ got t
value_sound {st = st} {e = e} {n = n} (Value.own h) = ap (λ o. value_by o (last_of (rule_of st e).lines n) st e) (holds_find h)
value_sound {st = st} {e = e} {n = n} {t = t} (Value.ruled {v = v} h l x m) =
    ap (λ o. value_by o (last_of (rule_of st e).lines n) st e) (lacks_find (block_of st e) n h)
    ∙ ap (λ o. value_by None o st e) (last_sound l) ∙ ap (sized 0 1024) (expands_sound x) ∙ sized_got 0 1024 t (omega arith) m
value_sound {st = st} {e = e} {n = n} (Value.none h l) =
    ap (λ o. value_by o (last_of (rule_of st e).lines n) st e) (lacks_find (block_of st e) n h)
    ∙ ap (λ o. value_by None o st e) (last_none (rule_of st e).lines n l)

pub pooled_full : (ps : List PoolData) (t : List ℕ) → Got (Pooled ps t) (pool_named ps t)
pooled_full ps [] = Got.gives Pooled.none
pooled_full ps (b ∷ n) = by (pool_at ps (b ∷ n)) (placed (λ p. p.name) no_pool 0 ps (b ∷ n))
  where
    by : (o : Option ℕ) → Placed (λ p. p.name) no_pool 0 ps (b ∷ n) o → Got (Pooled ps (b ∷ n)) (pool_found o)
    by None h = Got.fails
    by (Some k) h =
        let w = first_at (λ p. p.name) no_pool ps (b ∷ n) k h in
        Got.gives (Pooled.some (omega arith) w.within w.is w.first)

some_pool : (ps : List PoolData) (t : List ℕ) (k : ℕ) → 0 < length t → First (λ p. p.name) no_pool ps t k → pool_named ps t ≡ got (Some k)
some_pool ps [] k l h = absurd (omega arith)
some_pool ps (b ∷ n) k l h = ap pool_found (place_first (λ p. p.name) no_pool ps (b ∷ n) k h)

pub pooled_sound : {ps : List PoolData} {t : List ℕ} {o : Option ℕ} → Pooled ps t o → pool_named ps t ≡ got o
pooled_sound Pooled.none = refl
pooled_sound {ps = ps} (Pooled.some {t = t} {k = k} l w e n) = some_pool ps t k l (record { within = w; is = e; first = n })

-- the state with other texts and edges
abbrev pub over : State → TextsData → List EdgeData → State
over st d es = record { texts = d; rules = st.rules; pools = st.pools; files = st.files; edges = es; chosen = st.chosen }

-- x is the edge e with its values
pub record Valuation (st : State) (e : ℕ) (x : EdgeData) : Type 0 where
  pub command : List ℕ
  pub description : List ℕ
  pub pool_text : List ℕ
  pub restat_text : List ℕ
  pub pool : Option ℕ
  pub commands : Value st e (codes "command") command
  pub describes : Value st e (codes "description") description
  pub pools : Value st e (codes "pool") pool_text
  pub restats : Value st e (codes "restat") restat_text
  pub pooled : Pooled st.pools pool_text pool
  pub is : x ≡ with_values (edge_at st.edges e) command description pool (given restat_text)

-- t is the state with the edges es, of which the edge e has its values
pub record ValuedTo (st : State) (es : List EdgeData) (e : ℕ) (t : State) : Type 0 where
  pub edge : EdgeData
  pub is : t ≡ over st st.texts (set es e edge)
  pub values : Valuation st e edge

-- t is the state with the edges es, of which those from e on have their values
pub record AllValued (st : State) (es : List EdgeData) (e : ℕ) (t : State) : Type 0 where
  pub edges : List EdgeData
  pub is : t ≡ over st st.texts edges
  pub long : length edges ≡ length es
  pub low : (d : ℕ) → d < e → edge_at edges d ≡ edge_at es d
  pub high : (d : ℕ) → e ≤ d → d < length es → Valuation st d (edge_at edges d)

-- what holds of the edges from e on holds of those after it, once it is another
high_set : (st : State) (es : List EdgeData) (e : ℕ) (x : EdgeData) → ((d : ℕ) → e ≤ d → edge_at es d ≡ edge_at st.edges d) → (d : ℕ) → e + 1 ≤ d → edge_at (set es e x) d ≡ edge_at st.edges d
high_set st es e x h d l = get_or-set_other es e d x no_edge (λ q. omega arith) ∙ h d (omega arith)

more_valued : (st : State) (es : List EdgeData) (e : ℕ) (x : EdgeData) (t : State) → e < length es → Valuation st e x → AllValued st (set es e x) (e + 1) t → AllValued st es e t
more_valued st es e x t l v h = record {
  edges = h.edges;
  is = h.is;
  long = h.long ∙ length-set es e x;
  low = λ d m. h.low d (omega arith) ∙ get_or-set_other es e d x no_edge (λ q. omega arith);
  high = λ d m b. ⊎_elim
      (λ (q : d ≡ e). subst (λ z. Valuation st z (edge_at h.edges z)) (sym q) (subst (Valuation st e) (sym (h.low e (omega arith) ∙ get_or-set_same es e x no_edge l)) v))
      (λ (n : d ≡ e → ⊥). h.high d (above d m n) (omega (arith, length-set es e x)))
      (cases_eq d e);
}
  where
    above : (d : ℕ) → e ≤ d → (d ≡ e → ⊥) → e + 1 ≤ d
    above d m n = ⊎_elim (λ (q : d ≡ e). absurd (n q)) (λ (k : (d < e) ⊎ (e < d)). ⊎_elim (λ (a : d < e). absurd (omega arith)) (λ (b : e < d). omega arith) k) (cases_order d e)

value_same : (st : State) (es : List EdgeData) (e : ℕ) (n : List ℕ) → edge_at es e ≡ edge_at st.edges e → value_for (over st st.texts es) e n ≡ value_for st e n
value_same st es e n q = by (find (block_of st e) n) (last_of (rule_of st e).lines n)
  where
    by : (b r : Option (List ℕ)) → value_by b r (over st st.texts es) e ≡ value_by b r st e
    by (Some t) r = refl
    by None None = refl
    by None (Some v) = ap (λ y. rule_value st.texts e (in_text st.files y) (out_text st.files y) v) q

module _ (st : State) (formed : (e : ℕ) → FormedLines (rule_of st e).lines) where
  module _ (es : List EdgeData) (e : ℕ) (same : edge_at es e ≡ edge_at st.edges e) where
    one_full : (n : List ℕ) → Got (Value st e n) (value_for (over st st.texts es) e n)
    one_full n = subst (Got (Value st e n)) (sym (value_same st es e n same)) (value_full st e n (formed e))

    valued_full : Got (ValuedTo st es e) (valued (over st st.texts es) e)
    valued_full =
        then_got _ (one_full (codes "command")) (λ c h1.
        then_got _ (one_full (codes "description")) (λ d h2.
        then_got _ (one_full (codes "pool")) (λ p h3.
        then_got _ (one_full (codes "restat")) (λ r h4.
        then_got _ (pooled_full st.pools p) (λ k h5.
        Got.gives (record {
          edge = with_values (edge_at es e) c d k (given r);
          is = refl;
          values = record { command = c; description = d; pool_text = p; restat_text = r; pool = k; commands = h1; describes = h2; pools = h3; restats = h4; pooled = h5; is = ap (λ y. with_values y c d k (given r)) same };
        }))))))

  pub all_valued_full : (n e : ℕ) (es : List EdgeData) → e + n ≡ length es → ((d : ℕ) → e ≤ d → edge_at es d ≡ edge_at st.edges d) → Ends (AllValued st es e) NoCircle (each_edge valued n e (over st st.texts es))
  all_valued_full zero e es l h = Ends.gives (record { edges = es; is = refl; long = refl; low = λ d m. refl; high = λ d m b. absurd (omega arith) })
  all_valued_full (suc n) e es l h =
      then_ends _ (at_ends (ValuedTo st es e) _ (valued (over st st.texts es) e) (valued_other (over st st.texts es) e) (λ t q. got_at (ValuedTo st es e) t q (valued_full es e (h e (omega arith))))) (λ t w.
      subst (λ z. Ends (AllValued st es e) NoCircle (each_edge valued n (e + 1) z)) (sym w.is)
      (ends_more (all_valued_full n (e + 1) (set es e w.edge) (omega (arith, length-set es e w.edge)) (high_set st es e w.edge h))
      (λ u k. more_valued st es e w.edge u (omega arith) w.values k) (λ f q. q)))

valued_sound : (st : State) (es : List EdgeData) (e : ℕ) (x : EdgeData) → edge_at es e ≡ edge_at st.edges e → Valuation st e x → valued (over st st.texts es) e ≡ got (over st st.texts (set es e x))
valued_sound st es e x same v =
    after _ _ _ _ (value_same st es e (codes "command") same ∙ value_sound v.commands)
    (after _ _ _ _ (value_same st es e (codes "description") same ∙ value_sound v.describes)
    (after _ _ _ _ (value_same st es e (codes "pool") same ∙ value_sound v.pools)
    (after _ _ _ _ (value_same st es e (codes "restat") same ∙ value_sound v.restats)
    (after _ _ _ _ (pooled_sound v.pooled)
    (ap (λ y. got (over st st.texts (set es e y))) (ap (λ y. with_values y v.command v.description v.pool (given v.restat_text)) same ∙ sym v.is))))))

-- a walk over the edges that comes to an end
pub record Ended (st : State) (es : List EdgeData) (e : ℕ) (o : Answer State) : Type 0 where
  pub state : State
  pub comes : o ≡ done state
  pub valued : AllValued st es e state

-- where each edge has values, all get them
pub all_valued_sound : (st : State) → ((d : ℕ) → d < length st.edges → (x : EdgeData) × Valuation st d x) → (n e : ℕ) (es : List EdgeData) → e + n ≡ length es → length es ≡ length st.edges → ((d : ℕ) → e ≤ d → edge_at es d ≡ edge_at st.edges d) → Ended st es e (each_edge valued n e (over st st.texts es))
all_valued_sound st vals zero e es l m h = record {
  state = over st st.texts es;
  comes = refl;
  valued = record { edges = es; is = refl; long = refl; low = λ d k. refl; high = λ d k b. absurd (omega arith) };
}
all_valued_sound st vals (suc n) e es l m h =
    let v = vals e (omega arith) in
    let r = all_valued_sound st vals n (e + 1) (set es e v.0) (omega (arith, length-set es e v.0)) (length-set es e v.0 ∙ m) (high_set st es e v.0 h) in
    record {
      state = r.state;
      comes = next_done (at (edge_at es e).place (valued (over st st.texts es) e)) (over st st.texts (set es e v.0)) (λ t. each_edge valued n (e + 1) t) (done r.state) (ap (at (edge_at es e).place) (valued_sound st es e v.0 (h e (omega arith)) v.1)) r.comes;
      valued = more_valued st es e v.0 r.state (omega arith) v.1 r.valued;
    }
