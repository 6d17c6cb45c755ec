-- The questions of edges, one after the other, and the store behind them.
use Rattle.std.proofs.Common.{◌≡◌, ℕ, ◌+◌, ◌≤◌, ◌&&◌, leb, List, [], ◌∷◌, ◌++◌, map, length, set, sym, refl, ap, ◌∙◌, subst, append_assoc, append-nil, arith, length-append}
use Rattle.std.specs.List.{AllByRecursion, flat_map}
use Rattle.std.proofs.lemmas.List.{get_or_at, set_at, length_push}
use Rattle.std.proofs.lemmas.Bool.{cond_both, cond-true, leb-true, le-leb, and_parts}
use Rattle.store.specs.declared.wrong.Wrong.TheVariants.{Limit}
use Rattle.store.specs.Try.{Try, got, wrong, and_try}
use Rattle.store.specs.Stores.{stored}
use Rattle.expansion.specs.Model.{TextsData, with_store, ask}
use Rattle.graph.specs.Data.{EdgeData, no_edge, edge_at}
use Rattle.draft.specs.State.{State}
use Rattle.reader.specs.Values.{with_question, with_edge_at, question_for, asked}
use Rattle.reader.specs.Answers.{done, and_done, at}
use Rattle.reader.specs.Load.{each_edge}
use Rattle.reader.proofs.Expanding.{sized_got}
use Rattle.reader.proofs.Naming.{Got, then_got, got_at, after}
use Rattle.reader.proofs.Faults.{asked_other}
use Rattle.reader.proofs.Following.{Ends, then_ends, ends_more, at_ends, NoCircle}
use Rattle.reader.proofs.Valuing.{over}

-- the question q is short enough, and the store s takes it
pub record Room (s q : List ℕ) : Type 0 where
  pub short : length q ≤ 1024
  pub fits : length s + length q ≤ 32768

-- d is what the texts are with the question q
record AskTo (d : TextsData) (q : List ℕ) (t : TextsData) : Type 0 where
  is : t ≡ with_store d (d.store ++ q)
  room : Room d.store q

ask_full : (d : TextsData) (q : List ℕ) → Got (AskTo d q) (ask d q)
ask_full d q =
    cond_both (leb 0 (length q) && leb (length q) 1024) (got q) (wrong Limit) (λ o. Got (AskTo d q) (and_try o (λ t. and_try (stored d.store t) (λ s. got (with_store d s)))))
    (λ a.
    cond_both (leb (length d.store + length q) 32768) (got (d.store ++ q)) (wrong Limit) (λ o. Got (AskTo d q) (and_try o (λ s. got (with_store d s))))
    (λ b. Got.gives (record {
      is = refl;
      room = record { short = leb-true (length q) 1024 (and_parts (leb 0 (length q)) (leb (length q) 1024) a).1; fits = leb-true _ 32768 b };
    }))
    (λ _. Got.fails))
    (λ _. Got.fails)

ask_sound : (d : TextsData) (q : List ℕ) → Room d.store q → ask d q ≡ got (with_store d (d.store ++ q))
ask_sound d q r =
    after _ _ _ _ (sized_got 0 1024 q (omega arith) r.short)
    (after _ _ _ _ (cond-true _ _ _ (le-leb _ 32768 r.fits)) refl)

module _ (st : State) where
  -- the question of an edge that has its command
  abbrev pub question_in : EdgeData → List ℕ
  question_in y = question_for st.files y

  -- an edge with its question
  abbrev pub asked_edge : EdgeData → EdgeData
  asked_edge y = with_question y (question_in y)

  -- the state with the store s and the edges es
  abbrev pub behind : List ℕ → List EdgeData → State
  behind s es = over st (with_store st.texts s) es

  -- the step of the edge e, which is y
  abbrev asked_by : List ℕ → List EdgeData → ℕ → EdgeData → Try State
  asked_by s es e y = and_try (ask (with_store st.texts s) (question_in y)) (λ d. got (with_edge_at (behind s es) d e (asked_edge y)))

  record AskedTo (s : List ℕ) (es : List EdgeData) (e : ℕ) (y : EdgeData) (t : State) : Type 0 where
    is : t ≡ behind (s ++ question_in y) (set es e (asked_edge y))
    room : Room s (question_in y)

  asked_by_full : (s : List ℕ) (es : List EdgeData) (e : ℕ) (y : EdgeData) → Got (AskedTo s es e y) (asked_by s es e y)
  asked_by_full s es e y =
      then_got _ (ask_full (with_store st.texts s) (question_in y)) (λ d h.
      Got.gives (record { is = ap (λ z. over st z (set es e (asked_edge y))) h.is; room = h.room }))

  asked_by_sound : (s : List ℕ) (es : List EdgeData) (e : ℕ) (y : EdgeData) → Room s (question_in y) → asked_by s es e y ≡ got (behind (s ++ question_in y) (set es e (asked_edge y)))
  asked_by_sound s es e y r = after _ _ _ _ (ask_sound (with_store st.texts s) (question_in y) r) refl

  -- all edges in back, behind those in front, have their questions, which the store s received
  pub record AllAsked (front back : List EdgeData) (s : List ℕ) (t : State) : Type 0 where
    pub is : t ≡ behind (s ++ flat_map question_in back) (front ++ map asked_edge back)
    pub short : AllByRecursion (λ y. length (question_in y) ≤ 1024) back
    pub fits : length s ≤ 32768 → length (s ++ flat_map question_in back) ≤ 32768

  -- where the edge stands, and what comes of the edges when it is another
  at_edge : (front back es : List EdgeData) (y : EdgeData) (e : ℕ) → length front ≡ e → es ≡ front ++ y ∷ back → edge_at es e ≡ y
  at_edge front back es y e l q = ap (λ z. edge_at z e) q ∙ get_or_at front y back no_edge e l

  past_edge : (front back es : List EdgeData) (y x : EdgeData) (e : ℕ) → length front ≡ e → es ≡ front ++ y ∷ back → set es e x ≡ (front ++ x ∷ []) ++ back
  past_edge front back es y x e l q = ap (λ z. set z e x) q ∙ set_at front y back x e l ∙ sym (append_assoc front (x ∷ []) back)

  all_ended : (front back : List EdgeData) (y : EdgeData) (s : List ℕ) → behind ((s ++ question_in y) ++ flat_map question_in back) ((front ++ asked_edge y ∷ []) ++ map asked_edge back) ≡ behind (s ++ (question_in y ++ flat_map question_in back)) (front ++ asked_edge y ∷ map asked_edge back)
  all_ended front back y s =
      ap (λ z. behind z ((front ++ asked_edge y ∷ []) ++ map asked_edge back)) (append_assoc s (question_in y) (flat_map question_in back))
      ∙ ap (behind (s ++ (question_in y ++ flat_map question_in back))) (append_assoc front (asked_edge y ∷ []) (map asked_edge back))

  more_asked : (front back : List EdgeData) (y : EdgeData) (s : List ℕ) (t : State) → Room s (question_in y) → AllAsked (front ++ asked_edge y ∷ []) back (s ++ question_in y) t → AllAsked front (y ∷ back) s t
  more_asked front back y s t r h = record {
    is = h.is ∙ all_ended front back y s;
    short = (r.short, h.short);
    fits = λ l. subst (λ z. length z ≤ 32768) (append_assoc s (question_in y) (flat_map question_in back)) (h.fits (omega (arith, length-append s (question_in y), r.fits)));
  }

  pub all_asked_full : (back front : List EdgeData) (s : List ℕ) (e : ℕ) (es : List EdgeData) → length front ≡ e → es ≡ front ++ back → Ends (AllAsked front back s) NoCircle (each_edge asked (length back) e (behind s es))
  all_asked_full [] front s e es l q = Ends.gives (record {
    is = ap (behind s) q ∙ ap (λ z. behind z (front ++ [])) (sym (append-nil s));
    short = tt;
    fits = λ m. subst (λ z. length z ≤ 32768) (sym (append-nil s)) m;
  })
  all_asked_full (y ∷ back) front s e es l q =
      let one : Got (AskedTo s es e y) (asked (behind s es) e) = subst (λ z. Got (AskedTo s es e y) (asked_by s es e z)) (sym (at_edge front back es y e l q)) (asked_by_full s es e y) in
      then_ends _ (at_ends (AskedTo s es e y) _ (asked (behind s es) e) (asked_other (behind s es) e) (λ t w. got_at (AskedTo s es e y) t w one)) (λ t w.
      subst (λ z. Ends (AllAsked front (y ∷ back) s) NoCircle (each_edge asked (length back) (e + 1) z)) (sym w.is)
      (ends_more (all_asked_full back (front ++ asked_edge y ∷ []) (s ++ question_in y) (e + 1) (set es e (asked_edge y)) (length_push front (asked_edge y) ∙ ap (λ n. n + 1) l) (past_edge front back es y (asked_edge y) e l q))
      (λ u h. more_asked front back y s u w.room h) (λ f n. n)))

  pub all_asked_sound : (back front : List EdgeData) (s : List ℕ) (e : ℕ) (es : List EdgeData) → length front ≡ e → es ≡ front ++ back → AllByRecursion (λ y. length (question_in y) ≤ 1024) back → length (s ++ flat_map question_in back) ≤ 32768 → each_edge asked (length back) e (behind s es) ≡ done (behind (s ++ flat_map question_in back) (front ++ map asked_edge back))
  all_asked_sound [] front s e es l q a m = ap (λ z. done (behind s z)) q ∙ ap (λ z. done (behind z (front ++ []))) (sym (append-nil s))
  all_asked_sound (y ∷ back) front s e es l q a m =
      let m' : length ((s ++ question_in y) ++ flat_map question_in back) ≤ 32768 = subst (λ z. length z ≤ 32768) (sym (append_assoc s (question_in y) (flat_map question_in back))) m in
      let fit : length s + length (question_in y) ≤ 32768 = omega (arith, length-append (s ++ question_in y) (flat_map question_in back), length-append s (question_in y)) in
      let one : asked (behind s es) e ≡ got (behind (s ++ question_in y) (set es e (asked_edge y))) = ap (λ z. asked_by s es e z) (at_edge front back es y e l q) ∙ asked_by_sound s es e y (record { short = a.0; fits = fit }) in
      ap (λ z. and_done (at (edge_at es e).place z) (λ t. each_edge asked (length back) (e + 1) t)) one
      ∙ all_asked_sound back (front ++ asked_edge y ∷ []) (s ++ question_in y) (e + 1) (set es e (asked_edge y)) (length_push front (asked_edge y) ∙ ap (λ n. n + 1) l) (past_edge front back es y (asked_edge y) e l q) a.1 m'
      ∙ ap (λ z. done z) (all_ended front back y s)
