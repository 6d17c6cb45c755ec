-- What the calls for one edge come to: the values that it gets, its pool, and its question.
use Rattle.std.proofs.Common.{◌≡◌, ℕ, suc, ◌<◌, ◌==◌, Bool, true, false, not, codes, List, [], ◌∷◌, map, length, get_or, set, Option, sym, refl, ap, ◌∙◌, subst, arith}
use Rattle.std.proofs.lemmas.List.{get_or-map, map-set}
use Rattle.std.proofs.lemmas.Bool.Decides.{Decides-eqb}
use Rattle.graph.specs.declared.kinds.Edge.{Edge}
use Rattle.graph.specs.declared.kinds.Pool.{Pool}
use Rattle.graph.specs.Data.{PoolData, pool_of, EdgeData, edge_of, no_edge, edge_at}
use Rattle.store.specs.declared.wrong.Stop.{Stop}
use Rattle.store.specs.declared.wrong.Stop.TheVariants.{Because, Memory}
use Rattle.store.specs.Try.{Try, got, wrong, and_try, Stops}
use Rattle.values.proofs.Within.{stops_then}
use Rattle.expansion.specs.Model.{TextsData, ask}
use Rattle.draft.specs.State.{State}
use Rattle.draft.specs.Statements.{pool_at}
use Rattle.reader.specs.Values.{pool_found, pool_named, given, value_for, with_values, valued, with_question, with_edge_at, question_for, asked}
use Rattle.reader.specs.Given.{ValuesData, values_for}

-- a pool that a text names which is not empty
pub named_is : (ps : List PoolData) (n : List ℕ) → (length n == 0) ≡ false → pool_named ps n ≡ pool_found (pool_at ps n)
named_is ps [] e = let z : ◌≡◌ {A = Bool} true false = e in cc
named_is ps (x ∷ n) e = refl

-- a pool that is looked for in a slice of all pools
pub named_seen : (ps qs : List Pool) (n m : List ℕ) → qs ≡ ps → m ≡ n → pool_named (map pool_of qs) m ≡ pool_named (map pool_of ps) n
named_seen ps qs n m a b = ap (λ x. pool_named (map pool_of x) m) a ∙ ap (pool_named (map pool_of ps)) b

pub given_is : (t : List ℕ) (b : Bool) → b ≡ (length t == 0) → not b ≡ given t
given_is [] b e = ap not e
given_is (x ∷ t) true e = let h : suc (length t) ≡ 0 = (Decides-eqb (suc (length t)) 0).0 (sym e) in absurd (omega arith)
given_is (x ∷ t) false e = refl

-- a step that gave a, and those after it
pub given_on : {A B : Type 0} (a : A) (o : Try A) (f : A → Try B) → got a ≡ o → f a ≡ and_try o f
given_on a o f e = ap (λ z. and_try z f) e

pub stops_past : {A B : Type 0} (s : Stop) (a : A) (o : Try A) (f : A → Try B) → got a ≡ o → Stops s (f a) → Stops s (and_try o f)
stops_past s a o f e h = subst (Stops s) (given_on a o f e) h

and_then_try : {A B C : Type 0} (o : Try A) (f : A → Try B) (g : B → Try C) → and_try (and_try o f) g ≡ and_try o (λ x. and_try (f x) g)
and_then_try (got a) f g = refl
and_then_try (wrong w) f g = refl

-- five steps, the last of which goes by the third
module _ {A B C D E F : Type 0} (v1 : Try A) (v2 : Try B) (v3 : Try C) (v4 : Try D) (v5 : C → Try E) (make : A → B → D → E → F) where
  abbrev pub chain : Try F
  chain = and_try v1 (λ c. and_try v2 (λ d. and_try v3 (λ p. and_try v4 (λ r. and_try (v5 p) (λ k. got (make c d r k))))))

  pub second : (s : Stop) (c : A) → got c ≡ v1 → Stops s v2 → Stops s chain
  second s c e1 h = stops_past s c v1 _ e1 (stops_then s v2 _ h)

  pub third : (s : Stop) (c : A) (d : B) → got c ≡ v1 → got d ≡ v2 → Stops s v3 → Stops s chain
  third s c d e1 e2 h = stops_past s c v1 _ e1 (stops_past s d v2 _ e2 (stops_then s v3 _ h))

  pub fourth : (s : Stop) (c : A) (d : B) (p : C) → got c ≡ v1 → got d ≡ v2 → got p ≡ v3 → Stops s v4 → Stops s chain
  fourth s c d p e1 e2 e3 h = stops_past s c v1 _ e1 (stops_past s d v2 _ e2 (stops_past s p v3 _ e3 (stops_then s v4 _ h)))

  pub fifth : (s : Stop) (c : A) (d : B) (p : C) (r : D) → got c ≡ v1 → got d ≡ v2 → got p ≡ v3 → got r ≡ v4 → Stops s (v5 p) → Stops s chain
  fifth s c d p r e1 e2 e3 e4 h =
      stops_past s c v1 _ e1 (stops_past s d v2 _ e2 (stops_past s p v3 _ e3 (stops_past s r v4 _ e4 (stops_then s (v5 p) _ h))))

  pub all_five : (c : A) (d : B) (p : C) (r : D) (k : E) → got c ≡ v1 → got d ≡ v2 → got p ≡ v3 → got r ≡ v4 → got k ≡ v5 p → got (make c d r k) ≡ chain
  all_five c d p r k e1 e2 e3 e4 e5 =
      given_on k (v5 p) (λ z. got (make c d r z)) e5
      ∙ given_on r v4 (λ y. and_try (v5 p) (λ z. got (make c d y z))) e4
      ∙ given_on p v3 (λ x. and_try v4 (λ y. and_try (v5 x) (λ z. got (make c d y z)))) e3
      ∙ given_on d v2 (λ w. and_try v3 (λ x. and_try v4 (λ y. and_try (v5 x) (λ z. got (make c w y z))))) e2
      ∙ given_on c v1 (λ v. and_try v2 (λ w. and_try v3 (λ x. and_try v4 (λ y. and_try (v5 x) (λ z. got (make v w y z)))))) e1

-- the five steps, and one that goes by what they made
pub chain_then : {A B C D E F G : Type 0} (v1 : Try A) (v2 : Try B) (v3 : Try C) (v4 : Try D) (v5 : C → Try E) (make : A → B → D → E → F) (g : F → G) → and_try (chain v1 v2 v3 v4 v5 make) (λ x. got (g x)) ≡ chain v1 v2 v3 v4 v5 (λ c d r k. g (make c d r k))
chain_then (wrong w) v2 v3 v4 v5 make g = refl
chain_then (got c) (wrong w) v3 v4 v5 make g = refl
chain_then (got c) (got d) (wrong w) v4 v5 make g = refl
chain_then (got c) (got d) (got p) (wrong w) v5 make g = refl
chain_then (got c) (got d) (got p) (got r) v5 make g = and_then_try (v5 p) (λ k. got (make c d r k)) (λ x. got (g x))

-- an edge that was changed in a list
module _ (es : List Edge) (e : ℕ) (l : e < length es) (old : Edge) (r : old ≡ get_or es e old) where
  pub edge_there : edge_of old ≡ edge_at (map edge_of es) e
  edge_there = ap edge_of r ∙ sym (get_or-map edge_of es e old no_edge l)

  pub edge_changed : (new : Edge) (f : EdgeData → EdgeData) → edge_of new ≡ f (edge_of old) → map edge_of (set es e new) ≡ set (map edge_of es) e (f (edge_at (map edge_of es) e))
  edge_changed new f h = map-set edge_of es e new ∙ ap (set (map edge_of es) e) (h ∙ ap f edge_there)

-- a state with its question asked
pub asked_done : (st : State) (e : ℕ) (d : TextsData) (q : List ℕ) (es : List EdgeData) → q ≡ question_for st.files (edge_at st.edges e) → got d ≡ ask st.texts q → es ≡ set st.edges e (with_question (edge_at st.edges e) q) → got (record { texts = d; rules = st.rules; pools = st.pools; files = st.files; edges = es; chosen = st.chosen }) ≡ asked st e
asked_done st e d q es a b c =
    ap (λ x. got (record { texts = d; rules = st.rules; pools = st.pools; files = st.files; edges = x; chosen = st.chosen })) (c ∙ ap (λ z. set st.edges e (with_question (edge_at st.edges e) z)) a)
    ∙ given_on d _ (λ t. got (with_edge_at st t e (with_question (edge_at st.edges e) (question_for st.files (edge_at st.edges e))))) (b ∙ ap (ask st.texts) a)

-- the values of an edge, one after the other
module _ (st : State) (e : ℕ) (s : Stop) (c d p r : List ℕ) (e1 : got c ≡ value_for st e (codes "command")) where
  abbrev made : List ℕ → List ℕ → List ℕ → Option ℕ → ValuesData
  made x y z k = record { command = x; description = y; pool = k; restat = given z }

  pub values_second : Stops s (value_for st e (codes "description")) → Stops s (values_for st e)
  values_second h = second (value_for st e (codes "command")) (value_for st e (codes "description")) (value_for st e (codes "pool")) (value_for st e (codes "restat")) (pool_named st.pools) made s c e1 h

  module _ (e2 : got d ≡ value_for st e (codes "description")) where
    pub values_third : Stops s (value_for st e (codes "pool")) → Stops s (values_for st e)
    values_third h = third (value_for st e (codes "command")) (value_for st e (codes "description")) (value_for st e (codes "pool")) (value_for st e (codes "restat")) (pool_named st.pools) made s c d e1 e2 h

    module _ (e3 : got p ≡ value_for st e (codes "pool")) where
      pub values_fourth : Stops s (value_for st e (codes "restat")) → Stops s (values_for st e)
      values_fourth h = fourth (value_for st e (codes "command")) (value_for st e (codes "description")) (value_for st e (codes "pool")) (value_for st e (codes "restat")) (pool_named st.pools) made s c d p e1 e2 e3 h

      module _ (e4 : got r ≡ value_for st e (codes "restat")) where
        pub values_fifth : (o : Try (Option ℕ)) → o ≡ pool_named st.pools p → Stops s o → Stops s (values_for st e)
        values_fifth o q h = fifth (value_for st e (codes "command")) (value_for st e (codes "description")) (value_for st e (codes "pool")) (value_for st e (codes "restat")) (pool_named st.pools) made s c d p r e1 e2 e3 e4 (subst (Stops s) q h)

-- all of them
pub values_all : (st : State) (e : ℕ) (c d p r : List ℕ) (k : Option ℕ) (b : Bool) → got c ≡ value_for st e (codes "command") → got d ≡ value_for st e (codes "description") → got p ≡ value_for st e (codes "pool") → got r ≡ value_for st e (codes "restat") → got k ≡ pool_named st.pools p → b ≡ given r → got (record { command = c; description = d; pool = k; restat = b }) ≡ values_for st e
values_all st e c d p r k b e1 e2 e3 e4 e5 h =
    ap (λ x. got (record { command = c; description = d; pool = k; restat = x })) h
    ∙ all_five (value_for st e (codes "command")) (value_for st e (codes "description")) (value_for st e (codes "pool")) (value_for st e (codes "restat")) (pool_named st.pools) (λ x y z w. record { command = x; description = y; pool = w; restat = given z }) c d p r k e1 e2 e3 e4 e5

pub valued_then : (st : State) (e : ℕ) → and_try (values_for st e) (λ v. got (with_edge_at st st.texts e (with_values (edge_at st.edges e) v.command v.description v.pool v.restat))) ≡ valued st e
valued_then st e =
    chain_then (value_for st e (codes "command")) (value_for st e (codes "description")) (value_for st e (codes "pool")) (value_for st e (codes "restat")) (pool_named st.pools) (λ x y z w. record { command = x; description = y; pool = w; restat = given z })
    (λ v. with_edge_at st st.texts e (with_values (edge_at st.edges e) v.command v.description v.pool v.restat))

-- a state whose edge has got its values
pub valued_done : (st : State) (e : ℕ) (v : ValuesData) (es : List EdgeData) → got v ≡ values_for st e → es ≡ set st.edges e (with_values (edge_at st.edges e) v.command v.description v.pool v.restat) → got (record { texts = st.texts; rules = st.rules; pools = st.pools; files = st.files; edges = es; chosen = st.chosen }) ≡ valued st e
valued_done st e v es h a =
    ap (λ x. got (record { texts = st.texts; rules = st.rules; pools = st.pools; files = st.files; edges = x; chosen = st.chosen })) a
    ∙ given_on v (values_for st e) (λ w. got (with_edge_at st st.texts e (with_values (edge_at st.edges e) w.command w.description w.pool w.restat))) h
    ∙ valued_then st e
