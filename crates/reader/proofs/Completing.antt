-- What is done once all statements are read comes to what the relation says.
use Rattle.std.proofs.Common.{◌≡◌, ℕ, ◌<◌, ◌≤◌, Bool, List, [], ◌∷◌, ◌++◌, map, length, Some, None, Option, sym, refl, ap, ◌∙◌, subst, zero-add, arith}
use Rattle.std.specs.List.{AllByRecursion, flat_map}
use Rattle.std.proofs.lemmas.List.{length-map, get_or-map, ext_get_or}
use Rattle.std.proofs.ByRecursion.{All-get_or, All-from_get_or}
use Rattle.cursor.specs.Scan.{spot}
use Rattle.store.specs.declared.wrong.Wrong.TheVariants.{Circle}
use Rattle.graph.specs.Data.{FileData, PoolData, EdgeData, no_edge, edge_at}
use Rattle.graph.specs.Circle.{circle_of, ranks_of, OnCircle, Lowest}
use Rattle.draft.specs.State.{State}
use Rattle.reader.specs.declared.fault.Fault.{Fault}
use Rattle.reader.specs.declared.fault.Fault.TheVariants.{Meaning}
use Rattle.reader.specs.Values.{rule_of, given, with_values, valued, asked}
use Rattle.reader.specs.Answers.{done, failed, and_done}
use Rattle.reader.specs.Load.{each_edge, Loaded, loaded, finish_by, finish}
use Rattle.reader.specs.Means.{Value, Pooled, Worked, Completes}
use Rattle.reader.proofs.Formed.{FormedLines}
use Rattle.reader.proofs.Expanding.{got_same}
use Rattle.reader.proofs.Following.{Ends, then_ends, ends_more, NoCircle, next_done}
use Rattle.reader.proofs.Circles.{circle_some, circle_none}
use Rattle.reader.proofs.Valuing.{value_sound, pooled_sound, over, Valuation, AllValued, all_valued_full, Ended, all_valued_sound}
use Rattle.reader.proofs.Asking.{question_in, asked_edge, behind, AllAsked, all_asked_full, all_asked_sound}
use Rattle.reader.proofs.Lasting.{Low}

-- the questions of edges that have them
joined_asked : (st : State) (es : List EdgeData) → flat_map (λ x. x.question) (map (asked_edge st) es) ≡ flat_map (question_in st) es
joined_asked st [] = refl
joined_asked st (y ∷ es) = ap (λ z. question_in st y ++ z) (joined_asked st es)

worked : (st : State) (e : ℕ) (x : EdgeData) (v : Valuation st e x) → length (question_in st x) ≤ 1024 → Worked st e (asked_edge st x)
worked st e x v s =
    subst (λ z. length (question_in st z) ≤ 1024 → Worked st e (asked_edge st z)) (sym v.is)
    (λ m. record {
      command = v.command;
      pool_text = v.pool_text;
      restat_text = v.restat_text;
      commands = v.commands;
      describes = v.describes;
      pools = v.pools;
      pooled = v.pooled;
      restats = v.restats;
      restat = refl;
      asks = refl;
      short = m;
      place = refl;
      outputs = refl;
      explicit_outputs = refl;
      reads = refl;
      explicit_reads = refl;
      order_only = refl;
      validations = refl;
    })
    s

-- all edges with their values and questions
completed : (st : State) (t u : State) → Low st.texts → circle_of st.files st.edges ≡ None → (w : AllValued st st.edges 0 t) → AllAsked st [] w.edges st.texts.store u → Completes st (loaded (ranks_of st.files st.edges) u)
completed st t u low off w h =
    subst (λ z. Completes st (loaded (ranks_of st.files st.edges) z)) (sym h.is)
    (record {
      straight = circle_none st.files st.edges off;
      files = refl;
      pools = refl;
      ranks = refl;
      long = length-map w.edges (asked_edge st) ∙ w.long;
      each = λ e l.
          let m : e < length w.edges = omega (arith, w.long) in
          subst (Worked st e) (sym (get_or-map (asked_edge st) w.edges e no_edge no_edge m))
          (worked st e (edge_at w.edges e) (w.high e (omega arith) l) (All-get_or (λ y. length (question_in st y) ≤ 1024) w.edges e no_edge m h.short));
      store = ap (λ z. st.texts.store ++ z) (sym (joined_asked st w.edges));
      fits = h.fits low;
    })

-- the fault is a circle, and the lowest edge on one stands at its place
abbrev pub CircleIn : State → Fault → Type 0
CircleIn st f = (p : ℕ) → f ≡ Meaning Circle (spot p) → (c : ℕ) × Lowest st.files st.edges c × (p ≡ (edge_at st.edges c).place)

circle_place : (p q : ℕ) → Meaning Circle (spot p) ≡ Meaning Circle (spot q) → q ≡ p
circle_place p q e = let s : spot p ≡ spot q = cc in sym (ap (λ z. z.byte) s)

module _ (st : State) (formed : (e : ℕ) → FormedLines (rule_of st e).lines) (low : Low st.texts) where
  straight_full : circle_of st.files st.edges ≡ None → Ends (Completes st) NoCircle (finish_by None st)
  straight_full off =
      then_ends _ (all_valued_full st formed (length st.edges) 0 st.edges (zero-add _) (λ d l. refl)) (λ t w.
      subst (λ z. Ends (Completes st) NoCircle (and_done (each_edge asked (length z.edges) 0 z) (λ u. done (loaded (ranks_of st.files st.edges) u)))) (sym w.is)
      (then_ends _ (all_asked_full st w.edges [] st.texts.store 0 w.edges refl refl) (λ u h. Ends.gives (completed st t u low off w h))))

  finish_by_lem : (o : Option ℕ) → circle_of st.files st.edges ≡ o → Ends (Completes st) (CircleIn st) (finish_by o st)
  finish_by_lem None e = ends_more (straight_full e) (λ l h. h) (λ f n p q. absurd (n (spot p) q))
  finish_by_lem (Some c) e = Ends.fails (λ p q. (c, circle_some st.files st.edges c e, circle_place _ p q))

  pub finish_full : Ends (Completes st) (CircleIn st) (finish st)
  finish_full = finish_by_lem (circle_of st.files st.edges) refl

-- an edge has one text for a name
value_one : {st : State} {e : ℕ} {n t u : List ℕ} → Value st e n t → Value st e n u → t ≡ u
value_one {t = t} {u = u} a b = got_same t u (sym (value_sound a) ∙ value_sound b)

pooled_one : {ps : List PoolData} {t : List ℕ} {o k : Option ℕ} → Pooled ps t o → Pooled ps t k → o ≡ k
pooled_one {o = o} {k = k} a b = got_same o k (sym (pooled_sound a) ∙ pooled_sound b)

-- the edge that x was before it got its question
abbrev unasked : (st : State) (e : ℕ) (x : EdgeData) → Worked st e x → EdgeData
unasked st e x w = with_values (edge_at st.edges e) w.command x.description x.pool (given w.restat_text)

valuation : (st : State) (e : ℕ) (x : EdgeData) (w : Worked st e x) → Valuation st e (unasked st e x w)
valuation st e x w = record {
  command = w.command;
  description = x.description;
  pool_text = w.pool_text;
  restat_text = w.restat_text;
  pool = x.pool;
  commands = w.commands;
  describes = w.describes;
  pools = w.pools;
  restats = w.restats;
  pooled = w.pooled;
  is = refl;
}

-- two edges with the same parts
edge_same : (x y : EdgeData) → x.place ≡ y.place → x.outputs ≡ y.outputs → x.explicit_outputs ≡ y.explicit_outputs → x.reads ≡ y.reads → x.explicit_reads ≡ y.explicit_reads → x.order_only ≡ y.order_only → x.validations ≡ y.validations → x.question ≡ y.question → x.description ≡ y.description → x.pool ≡ y.pool → x.restat ≡ y.restat → x ≡ y
edge_same x y a b c d e f g h i j k = parts a b c d e f g h i j k
  where
    parts : {a1 a2 : ℕ} {b1 b2 : List ℕ} {c1 c2 : ℕ} {d1 d2 : List ℕ} {e1 e2 : ℕ} {f1 f2 g1 g2 h1 h2 i1 i2 : List ℕ} {j1 j2 : Option ℕ} {k1 k2 : Bool} → a1 ≡ a2 → b1 ≡ b2 → c1 ≡ c2 → d1 ≡ d2 → e1 ≡ e2 → f1 ≡ f2 → g1 ≡ g2 → h1 ≡ h2 → i1 ≡ i2 → j1 ≡ j2 → k1 ≡ k2 → ◌≡◌ {A = EdgeData} (record { place = a1; outputs = b1; explicit_outputs = c1; reads = d1; explicit_reads = e1; order_only = f1; validations = g1; question = h1; description = i1; pool = j1; restat = k1 }) (record { place = a2; outputs = b2; explicit_outputs = c2; reads = d2; explicit_reads = e2; order_only = f2; validations = g2; question = h2; description = i2; pool = j2; restat = k2 })
    parts a b c d e f g h i j k = rw (a, b, c, d, e, f, g, h, i, j, k)

-- the values of an edge are the only ones
values_same : (st : State) (e : ℕ) (x y : EdgeData) (w : Worked st e x) → Valuation st e y → y ≡ unasked st e x w
values_same st e x y w v =
    let p : v.pool_text ≡ w.pool_text = value_one v.pools w.pools in
    let c : v.command ≡ w.command = value_one v.commands w.commands in
    let d : v.description ≡ x.description = value_one v.describes w.describes in
    let r : v.restat_text ≡ w.restat_text = value_one v.restats w.restats in
    let k : v.pool ≡ x.pool = pooled_one (subst (λ z. Pooled st.pools z v.pool) p v.pooled) w.pooled in
    v.is ∙ rw (c, d, r, k)

worked_same : (st : State) (e : ℕ) (x y : EdgeData) → Worked st e x → Valuation st e y → x ≡ asked_edge st y
worked_same st e x y w v =
    edge_same x (asked_edge st (unasked st e x w)) w.place w.outputs w.explicit_outputs w.reads w.explicit_reads w.order_only w.validations
    (w.asks ∙ rw (w.reads, w.outputs)) refl refl w.restat
    ∙ ap (asked_edge st) (sym (values_same st e x y w v))

-- two graphs with the same parts, with their stores
loaded_same : (l m : Loaded) → l.graph.files ≡ m.graph.files → l.graph.edges ≡ m.graph.edges → l.graph.pools ≡ m.graph.pools → l.graph.ranks ≡ m.graph.ranks → l.store ≡ m.store → l ≡ m
loaded_same l m a b c d e = parts a b c d e
  where
    parts : {a1 a2 : List FileData} {b1 b2 : List EdgeData} {c1 c2 : List PoolData} {d1 d2 e1 e2 : List ℕ} → a1 ≡ a2 → b1 ≡ b2 → c1 ≡ c2 → d1 ≡ d2 → e1 ≡ e2 → ◌≡◌ {A = Loaded} (record { graph = record { files = a1; edges = b1; pools = c1; ranks = d1 }; store = e1 }) (record { graph = record { files = a2; edges = b2; pools = c2; ranks = d2 }; store = e2 })
    parts a b c d e = rw (a, b, c, d, e)

no_circle : (st : State) → ((e : ℕ) → OnCircle st.files st.edges e → ⊥) → (o : Option ℕ) → circle_of st.files st.edges ≡ o → o ≡ None
no_circle st h None e = refl
no_circle st h (Some c) e = absurd (h c (circle_some st.files st.edges c e).on)

module _ (st : State) (l : Loaded) (h : Completes st l) where
  values : Ended st st.edges 0 (each_edge valued (length st.edges) 0 st)
  values = all_valued_sound st (λ d b. (unasked st d (edge_at l.graph.edges d) (h.each d b), valuation st d (edge_at l.graph.edges d) (h.each d b))) (length st.edges) 0 st.edges (zero-add _) refl (λ d b. refl)

  module _ (w : AllValued st st.edges 0 values.state) where
    same_at : (d : ℕ) → d < length st.edges → edge_at l.graph.edges d ≡ asked_edge st (edge_at w.edges d)
    same_at d b = worked_same st d (edge_at l.graph.edges d) (edge_at w.edges d) (h.each d b) (w.high d (omega arith) b)

    same_edges : l.graph.edges ≡ map (asked_edge st) w.edges
    same_edges =
        ext_get_or no_edge l.graph.edges (map (asked_edge st) w.edges) (h.long ∙ sym (length-map w.edges (asked_edge st) ∙ w.long)) (λ d b.
        same_at d (omega (arith, h.long)) ∙ sym (get_or-map (asked_edge st) w.edges d no_edge no_edge (omega (arith, h.long, w.long))))

    same_store : l.store ≡ st.texts.store ++ flat_map (question_in st) w.edges
    same_store = h.store ∙ ap (λ z. st.texts.store ++ flat_map (λ x. x.question) z) same_edges ∙ ap (λ z. st.texts.store ++ z) (joined_asked st w.edges)

    short : AllByRecursion (λ y. length (question_in st y) ≤ 1024) w.edges
    short = All-from_get_or (λ y. length (question_in st y) ≤ 1024) w.edges no_edge (λ d b.
        let m : d < length st.edges = omega (arith, w.long) in
        subst (λ x. length x.question ≤ 1024) (same_at d m) (h.each d m).short)

    questions : each_edge asked (length w.edges) 0 (over st st.texts w.edges) ≡ done (behind st (st.texts.store ++ flat_map (question_in st) w.edges) (map (asked_edge st) w.edges))
    questions = all_asked_sound st w.edges [] st.texts.store 0 w.edges refl refl short (subst (λ z. length z ≤ 32768) same_store h.fits)

    same_loaded : loaded (ranks_of st.files st.edges) (behind st (st.texts.store ++ flat_map (question_in st) w.edges) (map (asked_edge st) w.edges)) ≡ l
    same_loaded = loaded_same _ l (sym h.files) (sym same_edges) (sym h.pools) (sym h.ranks) (sym same_store)

  finish_none : finish_by None st ≡ done l
  finish_none =
      let w = values.valued in
      next_done _ _ _ _ values.comes
      (ap (λ z. and_done (each_edge asked (length z.edges) 0 z) (λ u. done (loaded (ranks_of st.files st.edges) u))) w.is
      ∙ next_done _ _ _ _ (questions w) (ap (λ z. done z) (same_loaded w)))

  pub finish_sound : finish st ≡ done l
  finish_sound = ap (λ o. finish_by o st) (no_circle st h.straight (circle_of st.files st.edges) refl) ∙ finish_none

lowest_some : (st : State) (c : ℕ) → Lowest st.files st.edges c → (o : Option ℕ) → circle_of st.files st.edges ≡ o → o ≡ Some c
lowest_some st c h None e = absurd (circle_none st.files st.edges e c h.on)
lowest_some st c h (Some d) e =
    let k = circle_some st.files st.edges d e in
    ap (λ z. Some z) (only d c (λ b. h.first d b k.on) (λ b. k.first c b h.on))
  where
    only : (a b : ℕ) → (a < b → ⊥) → (b < a → ⊥) → a ≡ b
    only a b p q = omega arith

-- the lowest edge on a circle is the one that is found
pub circle_sound : (st : State) (c : ℕ) → Lowest st.files st.edges c → finish st ≡ failed (Meaning Circle (spot (edge_at st.edges c).place))
circle_sound st c h = ap (λ o. finish_by o st) (lowest_some st c h (circle_of st.files st.edges) refl)
