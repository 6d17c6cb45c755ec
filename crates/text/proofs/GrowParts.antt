-- Lists of paths, blocks and statements: an ending for what stands open at n.
use Rattle.std.proofs.Common.{◌≡◌, ℕ, zero, suc, ◌+◌, ◌<◌, ◌≤◌, Bool, true, false, ◌⊎◌, List, [], ◌∷◌, ◌++◌, length, Some, None, sym, refl, ap, ◌∙◌, subst, inl, inr, arith}
use Rattle.std.proofs.lemmas.Bool.{cond_both, eqb-true, eq-eqb, false≢true}
use Rattle.byteclass.specs.Class.{class}
use Rattle.byteclass.specs.Words.{rule_takes, pool_takes}
use Rattle.cursor.specs.Scan.{Out, ok, bad, and_then, spot, opens, name, gap, byte, value, stops, path, any_path, next_path, needed, first_path, bar, pair}
use Rattle.cursor.specs.declared.place.Fault.TheVariants.{LeftOut as LeftOutAt}
use Rattle.cursor.specs.declared.place.Opens.{Opens}
use Rattle.cursor.specs.declared.place.Opens.TheVariants.{Nothing, Gap, Mark}
use Rattle.cursor.proofs.Moves.{Ahead, Moves, next_path_moves}
use Rattle.parts.specs.Many.{Turn, stop, more, turn, turn_of, many, repeat, each}
use Rattle.parts.specs.Parts.{Outs, Ins, paths, some_paths, list_if, open_after, last_list, outputs, inputs, set_to, takes, set_in, setting}
use Rattle.parts.specs.declared.kinds.Block.{Block}
use Rattle.parts.specs.declared.kinds.Block.TheVariants.{Rule as RuleBlock, Pool as PoolBlock, Build as BuildBlock}
use Rattle.parts.proofs.Many.{turned, each_moves}
use Rattle.text.proofs.Sound.{name_32}
use Rattle.text.proofs.Later.{Later, then_later, inputs_after, byte_later, next_path_later, bar_later, pair_later, turn_later, repeat_later, each_later, paths_later, list_if_later, last_list_later, set_to_later, tail_later}
use Rattle.text.proofs.NearParts.{closed, valued, assigned, signed, closed_later}
use Rattle.text.proofs.Grow.{test, Ends, NotAt, then_ends, then_not, assoc, State, move, then_state, map_state, gap_state, byte_state, Line, value_state, End, end_gap, end_bar, end_pair, path_state, bar_state, pair_state, Stop, name_state}

-- nothing
pub data Over : List ℕ → Type 0 where
  over : Over []

-- any bytes
abbrev pub Any : List ℕ → Type 0
Any t = Unit {0}

module _ {E : Type 0} (f : ℕ → List ℕ → Out (Turn E)) (moves : (i : ℕ) (s : List ℕ) → Moves turned i s (f i s)) where
  -- enough turns are enough
  step_fuel : (k m i : ℕ) (s : List ℕ) (es : List E) (o : Out (Turn E)) → Moves turned i s o → ((j : ℕ) (r : List ℕ) (fs : List E) → length r < length s → many f k j r fs ≡ many f m j r fs) → and_then o (λ t j r. turn t es j r (λ fs. many f k j r fs)) ≡ and_then o (λ t j r. turn t es j r (λ fs. many f m j r fs))
  step_fuel k m i s es (ok stop j r) h g = refl
  step_fuel k m i s es (ok (more xs) j r) h g = g j r (es ++ xs) (omega (arith, h.place, h.past))
  step_fuel k m i s es (bad e) h g = refl

  fuel : (k m i : ℕ) (s : List ℕ) (es : List E) → length s < k → length s < m → many f k i s es ≡ many f m i s es
  fuel zero m i s es l h = absurd (omega arith)
  fuel (suc k) zero i s es l h = absurd (omega arith)
  fuel (suc k) (suc m) i s es l h = step_fuel k m i s es (f i s) (moves i s) (λ j r fs z. fuel k m j r fs (omega arith) (omega arith))

  step_unroll : (k i : ℕ) (s : List ℕ) (es : List E) (o : Out (Turn E)) → Moves turned i s o → ((j : ℕ) (r : List ℕ) (fs : List E) → length r < length s → many f k j r fs ≡ repeat f fs j r) → and_then o (λ t j r. turn t es j r (λ fs. many f k j r fs)) ≡ and_then o (λ t j r. turn t es j r (λ fs. repeat f fs j r))
  step_unroll k i s es (ok stop j r) h g = refl
  step_unroll k i s es (ok (more xs) j r) h g = g j r (es ++ xs) (omega (arith, h.place, h.past))
  step_unroll k i s es (bad e) h g = refl

  fuel_repeat : (k i : ℕ) (s : List ℕ) (es : List E) → length s < k → many f k i s es ≡ repeat f es i s
  unfolding repeat
  fuel_repeat k i s es l = fuel k (suc (length s)) i s es l (omega arith)

  unroll_many : (i : ℕ) (s : List ℕ) (es : List E) → many f (suc (length s)) i s es ≡ and_then (f i s) (λ t j r. turn t es j r (λ fs. repeat f fs j r))
  unroll_many i s es = step_unroll (length s) i s es (f i s) (moves i s) (λ j r fs z. fuel_repeat (length s) j r fs z)

  unroll : (i : ℕ) (s : List ℕ) (es : List E) → repeat f es i s ≡ and_then (f i s) (λ t j r. turn t es j r (λ fs. repeat f fs j r))
  unroll i s es = sym (fuel_repeat (suc (length s)) i s es (omega arith)) ∙ unroll_many i s es

  pub repeat_halts : (i : ℕ) (s : List ℕ) (es : List E) → f i s ≡ ok stop i s → repeat f es i s ≡ ok es i s
  repeat_halts i s es h = unroll i s es ∙ ap (λ o. and_then o (λ t j r. turn t es j r (λ fs. repeat f fs j r))) h

  module _ (n : ℕ) (x : List ℕ) (P : List ℕ → Type 0) (halts : (t : List ℕ) → P t → (j : ℕ) → f j t ≡ ok stop j t) (late : (i : ℕ) (s : List ℕ) → n + 1 ≤ i → Later (n + 1) (f i s)) (states : (i : ℕ) (u : List ℕ) → i + length u ≡ n → State P f n x i u) where
    turn_ends : (a : Turn E) (es : List E) (j : ℕ) (t : List ℕ) → P t → Ends t (turn a es j t (λ fs. repeat f fs j t))
    turn_ends stop es j t p = refl
    turn_ends (more xs) es j t p = subst (Ends t) (sym (repeat_halts j t (es ++ xs) (halts t p j))) refl

    by_state : (i : ℕ) (u : List ℕ) (es : List E) → i + length u ≡ n → State P f n x i u → ((j : ℕ) (v : List ℕ) (fs : List E) → length v < length u → j + length v ≡ n → State P (repeat f fs) n x j v) → State P (repeat f es) n x i u
    by_state i u es e (State.goes h) g =
        State.goes (λ t p. let w = h t p in record { ending = w.ending; ends = subst (Ends t) (sym (unroll i (u ++ w.ending) es)) (then_ends t t (f i (u ++ w.ending)) (λ a j r. turn a es j r (λ fs. repeat f fs j r)) w.ends (λ a j. turn_ends a es j t p)) })
    by_state i u es e (State.done stop j v q z h) g =
        State.done es j v q z (λ y. unroll i (u ++ y) es ∙ ap (λ o. and_then o (λ t m r. turn t es m r (λ fs. repeat f fs m r))) (h y))
    by_state i u es e (State.done (more xs) j v q z h) g =
        let m : Ahead 1 i (u ++ []) j (v ++ []) = subst (Moves turned i (u ++ [])) (h []) (moves i (u ++ [])) in
        move n x P (repeat f es) (repeat f (es ++ xs)) i j u v (λ y. sym (unroll i (u ++ y) es ∙ ap (λ o. and_then o (λ t k r. turn t es k r (λ fs. repeat f fs k r))) (h y)))
        (g j v (es ++ xs) (omega (arith, m.past)) q)
    by_state i u es e (State.never h) g =
        State.never (subst (NotAt n) (sym (unroll i (u ++ x) es)) (then_not n (f i (u ++ x)) (λ t j r. turn t es j r (λ fs. repeat f fs j r)) h (λ t j r l. turn_later (n + 1) t es j r _ l (λ fs. repeat_later (n + 1) f late fs j r l))))

    bounded : (k i : ℕ) (u : List ℕ) (es : List E) → length u < k → i + length u ≡ n → State P (repeat f es) n x i u
    bounded zero i u es l e = absurd (omega arith)
    bounded (suc k) i u es l e = by_state i u es e (states i u e) (λ j v fs m q. bounded k j v fs (omega arith) q)

    pub repeat_state : (i : ℕ) (u : List ℕ) (es : List E) → i + length u ≡ n → State P (repeat f es) n x i u
    repeat_state i u es e = bounded (suc (length u)) i u es (omega arith) e

end_path : {t : List ℕ} → End t → (j : ℕ) → each next_path j t ≡ ok stop j t
end_path (End.line {s = []}) j = refl
end_path (End.line {s = b ∷ s}) j = refl
end_path (End.colon {s = []}) j = refl
end_path (End.colon {s = b ∷ s}) j = refl

paths_here : {t : List ℕ} → End t → (ps : List (List ℕ)) (j : ℕ) → paths ps j t ≡ ok ps j t
paths_here {t} p ps j = repeat_halts (each next_path) (each_moves next_path next_path_moves) j t ps (end_path p j)

any_here : {t : List ℕ} → End t → (j : ℕ) → Ends t (any_path j t)
any_here (End.line {s = s}) j = refl
any_here (End.colon {s = s}) j = refl

a_gap : (t : List ℕ) → End t → (i : ℕ) → gap i (97 ∷ t) ≡ ok tt i (97 ∷ t)
a_gap [] p i = elim p [ ]
a_gap (b ∷ t) p i = refl

a_path : {t : List ℕ} → End t → (j : ℕ) → Ends t (and_then (any_path j (97 ∷ t)) needed)
a_path (End.line {s = []}) j = refl
a_path (End.line {s = b ∷ s}) j = refl
a_path (End.colon {s = []}) j = refl
a_path (End.colon {s = b ∷ s}) j = refl

some_needed : (o : Out (List ℕ)) → and_then o (λ p j r. ok p j r) ≡ and_then (and_then o (λ p j r. ok (Some p) j r)) needed
some_needed (ok a j r) = refl
some_needed (bad e) = refl

pub guard : (o : Opens) (b : ℕ) (v : List ℕ) → (opens o b ≡ true → 0 < length v) → (c : ℕ) (w : List ℕ) → b ∷ v ≡ c ∷ w → opens o c ≡ true → 0 < length w
guard o b v h c w q t =
    let p : b ≡ c = cc in
    let r : v ≡ w = cc in
    subst (λ z. 0 < length z) r (h (ap (opens o) p ∙ t))

free : (c : ℕ) (w : List ℕ) → opens Nothing c ≡ true → 0 < length w
free c w t = absurd (false≢true t)

module _ (n : ℕ) (x : List ℕ) where
  pub weaken : {A : Type 0} (P Q : List ℕ → Type 0) (d : ℕ → List ℕ → Out A) (i : ℕ) (u : List ℕ) → ((t : List ℕ) → Q t → P t) → State P d n x i u → State Q d n x i u
  weaken P Q d i u w (State.goes h) = State.goes (λ t q. h t (w t q))
  weaken P Q d i u w (State.done a j v l z h) = State.done a j v l z h
  weaken P Q d i u w (State.never h) = State.never h

  pub ok_state : {A : Type 0} (P : List ℕ → Type 0) (a : A) (i : ℕ) (u : List ℕ) → i + length u ≡ n → State P (λ j r. ok a j r) n x i u
  ok_state P a i [] e = State.goes (λ t p. record { ending = t; ends = refl })
  ok_state P a i (b ∷ u) e = State.done a i (b ∷ u) e (omega arith) (λ y. refl)

  any_path_state : (j b : ℕ) (v : List ℕ) → j + length (b ∷ v) ≡ n → State End any_path n x j (b ∷ v)
  any_path_state j b v e =
      test (stops b)
      (λ t. State.done None j (b ∷ v) e (omega arith) (λ y. rw t refl))
      (λ f. move n x End any_path (λ m s. and_then (path m s) (λ p k r. ok (Some p) k r)) j j (b ∷ v) (b ∷ v) (λ y. rw f refl) (map_state n x End path Some j (b ∷ v) (path_state n x j (b ∷ v) e)))

  next_path_state : (i : ℕ) (u : List ℕ) → i + length u ≡ n → State End next_path n x i u
  next_path_state i u e = gap_state n x End any_path (λ t p. record { first = t; rests = end_gap p; reads = any_here p }) (λ j b v q _. any_path_state j b v q) i u e

  paths_state : (ps : List (List ℕ)) (i : ℕ) (u : List ℕ) → i + length u ≡ n → State End (paths ps) n x i u
  paths_state ps i u e =
      repeat_state (each next_path) (each_moves next_path next_path_moves) n x End (λ t p j. end_path p j) (each_later (n + 1) next_path (next_path_later (n + 1)))
      (λ j v q. map_state n x End next_path turn_of j v (next_path_state j v q)) i u ps e

  needed_state : (j b : ℕ) (v : List ℕ) → j + length (b ∷ v) ≡ n → State End (λ m s. and_then (any_path m s) needed) n x j (b ∷ v)
  needed_state j b v e =
      test (stops b)
      (λ t. State.never (rw t (λ q. omega arith)))
      (λ f. move n x End (λ m s. and_then (any_path m s) needed) (λ m s. and_then (path m s) (λ p k r. ok p k r)) j j (b ∷ v) (b ∷ v)
      (λ y. rw f (some_needed (path j (b ∷ v ++ y)))) (map_state n x End path (λ p. p) j (b ∷ v) (path_state n x j (b ∷ v) e)))

  first_path_state : (i : ℕ) (u : List ℕ) → i + length u ≡ n → State End first_path n x i u
  first_path_state i u e =
      move n x End first_path (λ m s. and_then (gap m s) (λ _ j r. and_then (any_path j r) needed)) i i u u (λ y. assoc (gap i (u ++ y)) (λ _ j r. any_path j r) needed)
      (gap_state n x End (λ j r. and_then (any_path j r) needed) (λ t p. record { first = 97 ∷ t; rests = a_gap t p; reads = a_path p }) (λ j b v q _. needed_state j b v q) i u e)

  some_paths_state : (i : ℕ) (u : List ℕ) → i + length u ≡ n → State End some_paths n x i u
  some_paths_state i u e =
      then_state n x End End first_path (λ p j r. paths (p ∷ []) j r) i u (first_path_state i u e)
      (λ t p. record { first = t; fits = p; reads = λ a j. subst (Ends t) (sym (paths_here p (a ∷ []) j)) refl })
      (λ p j v q _. paths_state (p ∷ []) j v q) (λ p j r l. paths_later (n + 1) (p ∷ []) j r l)

list_here : {t : List ℕ} → End t → (m : Bool) (j : ℕ) → list_if m j t ≡ ok [] j t
list_here p true j = paths_here p [] j
list_here p false j = refl

last_here : (c : ℕ) (t : List ℕ) → End (c ∷ t) → (m : Bool) (j : ℕ) → last_list c m j (c ∷ t) ≡ ok [] (j + 1) t
last_here c t p m j =
    ap (λ o. and_then o (λ ps j1 r1. and_then (byte c (open_after m) j1 r1) (λ _ j2 r2. ok ps j2 r2))) (list_here p m j)
    ∙ rw (eq-eqb c c refl) refl

-- the outputs after the mark m
abbrev outs_after : List (List ℕ) → Bool → ℕ → List ℕ → Out Outs
outs_after es m j r = and_then (last_list 58 m j r) (λ is j3 r3. ok (record { explicit = es; implicit = is }) j3 r3)

abbrev outs_bar : List (List ℕ) → ℕ → List ℕ → Out Outs
outs_bar es j r = and_then (bar j r) (λ m j2 r2. outs_after es m j2 r2)

outs_here : (es : List (List ℕ)) (t : List ℕ) (m : Bool) (j : ℕ) → Ends t (outs_after es m j (58 ∷ t))
outs_here es t m j = then_ends t t (last_list 58 m j (58 ∷ t)) (λ is j3 r3. ok (record { explicit = es; implicit = is }) j3 r3) (subst (Ends t) (sym (last_here 58 t End.colon m j)) refl) (λ a k. refl)

-- the inputs from the last list to the second
abbrev ins_last : List (List ℕ) → List (List ℕ) → List (List ℕ) → Bool → ℕ → List ℕ → Out Ins
ins_last es is os l j r = and_then (last_list 10 l j r) (λ vs j7 r7. ok (record { explicit = es; implicit = is; order_only = os; validations = vs }) j7 r7)

abbrev ins_pair : List (List ℕ) → List (List ℕ) → List (List ℕ) → ℕ → List ℕ → Out Ins
ins_pair es is os j r = and_then (pair 64 j r) (λ l j6 r6. ins_last es is os l j6 r6)

abbrev ins_order : List (List ℕ) → List (List ℕ) → Bool → ℕ → List ℕ → Out Ins
ins_order es is o j r = and_then (list_if o j r) (λ os j5 r5. ins_pair es is os j5 r5)

abbrev ins_two : List (List ℕ) → List (List ℕ) → ℕ → List ℕ → Out Ins
ins_two es is j r = and_then (pair 124 j r) (λ o j4 r4. ins_order es is o j4 r4)

ins_last_here : (es is os : List (List ℕ)) (t : List ℕ) (l : Bool) (j : ℕ) → Ends t (ins_last es is os l j (10 ∷ t))
ins_last_here es is os t l j = then_ends t t (last_list 10 l j (10 ∷ t)) _ (subst (Ends t) (sym (last_here 10 t End.line l j)) refl) (λ a k. refl)

ins_pair_here : (es is os : List (List ℕ)) (t : List ℕ) (j : ℕ) → Ends t (ins_pair es is os j (10 ∷ t))
ins_pair_here es is os t j = then_ends (10 ∷ t) t (pair 64 j (10 ∷ t)) _ (subst (Ends (10 ∷ t)) (sym (end_pair (End.line {s = t}) 64 j)) refl) (λ l k. ins_last_here es is os t l k)

ins_order_here : (es is : List (List ℕ)) (t : List ℕ) (o : Bool) (j : ℕ) → Ends t (ins_order es is o j (10 ∷ t))
ins_order_here es is t o j = then_ends (10 ∷ t) t (list_if o j (10 ∷ t)) _ (subst (Ends (10 ∷ t)) (sym (list_here (End.line {s = t}) o j)) refl) (λ os k. ins_pair_here es is os t k)

ins_two_here : (es is : List (List ℕ)) (t : List ℕ) (j : ℕ) → Ends t (ins_two es is j (10 ∷ t))
ins_two_here es is t j = then_ends (10 ∷ t) t (pair 124 j (10 ∷ t)) _ (subst (Ends (10 ∷ t)) (sym (end_pair (End.line {s = t}) 124 j)) refl) (λ o k. ins_order_here es is t o k)

ins_after_here : (es : List (List ℕ)) (t : List ℕ) (m : Bool) (j : ℕ) → Ends t (inputs_after es m j (10 ∷ t))
ins_after_here es t m j = then_ends (10 ∷ t) t (list_if m j (10 ∷ t)) (λ is j3 r3. ins_two es is j3 r3) (subst (Ends (10 ∷ t)) (sym (list_here (End.line {s = t}) m j)) refl) (λ is k. ins_two_here es is t k)

ins_bar_here : (es : List (List ℕ)) (t : List ℕ) (j : ℕ) → Ends t (and_then (bar j (10 ∷ t)) (λ m j2 r2. inputs_after es m j2 r2))
ins_bar_here es t j = then_ends (10 ∷ t) t (bar j (10 ∷ t)) (λ m j2 r2. inputs_after es m j2 r2) (subst (Ends (10 ∷ t)) (sym (end_bar (End.line {s = t}) j)) refl) (λ m k. ins_after_here es t m k)

module _ (n : ℕ) (x : List ℕ) where
  last_true : (c : ℕ) → ((t : List ℕ) → End (c ∷ t)) → (i : ℕ) (u : List ℕ) → i + length u ≡ n → State Any (last_list c true) n x i u
  last_true c ec i u e =
      then_state n x End Any (paths []) (λ ps j r. and_then (byte c Nothing j r) (λ _ j2 r2. ok ps j2 r2)) i u (paths_state n x [] i u e)
      (λ t p. record { first = c ∷ t; fits = ec t; reads = λ a j. rw (eq-eqb c c refl) refl })
      (λ ps j v q _. byte_state n x Any c Nothing (λ j2 r2. ok ps j2 r2) (λ t p. record { first = t; fits = tt; reads = λ a j2. refl }) (λ j2 v2 q2. ok_state n x Any ps j2 v2 q2) j v q (λ b w _ t. free b w t))
      (λ ps j r l. then_later (n + 1) (byte c Nothing j r) _ (byte_later (n + 1) c Nothing j r l) (λ _ j2 r2 l2. l2))

  last_false : (c : ℕ) (j b : ℕ) (v : List ℕ) → j + length (b ∷ v) ≡ n → (b ≡ 124 → 0 < length v) → State Any (last_list c false) n x j (b ∷ v)
  last_false c j b v e h =
      byte_state n x Any c Mark (λ j2 r2. ok [] j2 r2) (λ t p. record { first = t; fits = tt; reads = λ a j2. refl }) (λ j2 v2 q2. ok_state n x Any [] j2 v2 q2) j (b ∷ v) e
      (guard Mark b v (λ t. h (eqb-true b 124 t)))

  outs_state : (es : List (List ℕ)) (j : ℕ) (v : List ℕ) → j + length v ≡ n → State Any (outs_bar es) n x j v
  outs_state es j v e =
      bar_state n x Any (outs_after es)
      (λ t p. record { first = 58 ∷ t; fits = End.colon; reads = λ m j2. outs_here es t m j2 })
      (λ j2 v2 q2. map_state n x Any (last_list 58 true) _ j2 v2 (last_true 58 (λ t. End.colon) j2 v2 q2))
      (λ j2 b v2 q2 h. map_state n x Any (last_list 58 false) _ j2 (b ∷ v2) (last_false 58 j2 b v2 q2 h)) j v e

  pub outputs_state : (i : ℕ) (u : List ℕ) → i + length u ≡ n → State Any outputs n x i u
  outputs_state i u e =
      then_state n x End Any some_paths outs_bar i u (some_paths_state n x i u e)
      (λ t p. record { first = 58 ∷ t; fits = End.colon; reads = λ es j. then_ends (58 ∷ t) t (bar j (58 ∷ t)) (outs_after es) (subst (Ends (58 ∷ t)) (sym (end_bar (End.colon {s = t}) j)) refl) (λ m k. outs_here es t m k) })
      (λ es j v q _. outs_state es j v q)
      (λ es j r h. then_later (n + 1) (bar j r) (outs_after es) (bar_later (n + 1) j r h) (λ m j2 r2 h2. then_later (n + 1) (last_list 58 m j2 r2) _ (last_list_later (n + 1) 58 m j2 r2 h2) (λ is j3 r3 h3. h3)))

  ins_last_later : (es is os : List (List ℕ)) (l : Bool) (j : ℕ) (r : List ℕ) → n + 1 ≤ j → Later (n + 1) (ins_last es is os l j r)
  ins_last_later es is os l j r h = then_later (n + 1) (last_list 10 l j r) _ (last_list_later (n + 1) 10 l j r h) (λ vs j7 r7 h7. h7)

  ins_pair_later : (es is os : List (List ℕ)) (j : ℕ) (r : List ℕ) → n + 1 ≤ j → Later (n + 1) (ins_pair es is os j r)
  ins_pair_later es is os j r h = then_later (n + 1) (pair 64 j r) (λ l j6 r6. ins_last es is os l j6 r6) (pair_later (n + 1) 64 j r h) (λ l j6 r6 h6. ins_last_later es is os l j6 r6 h6)

  ins_order_later : (es is : List (List ℕ)) (o : Bool) (j : ℕ) (r : List ℕ) → n + 1 ≤ j → Later (n + 1) (ins_order es is o j r)
  ins_order_later es is o j r h = then_later (n + 1) (list_if o j r) (λ os j5 r5. ins_pair es is os j5 r5) (list_if_later (n + 1) o j r h) (λ os j5 r5 h5. ins_pair_later es is os j5 r5 h5)

  ins_two_later : (es is : List (List ℕ)) (j : ℕ) (r : List ℕ) → n + 1 ≤ j → Later (n + 1) (ins_two es is j r)
  ins_two_later es is j r h = then_later (n + 1) (pair 124 j r) (λ o j4 r4. ins_order es is o j4 r4) (pair_later (n + 1) 124 j r h) (λ o j4 r4 h4. ins_order_later es is o j4 r4 h4)

  ins_pair_state : (es is os : List (List ℕ)) (j : ℕ) (v : List ℕ) → j + length v ≡ n → State Any (ins_pair es is os) n x j v
  ins_pair_state es is os j v e =
      pair_state n x Any 64 (ins_last es is os) (λ t p. record { first = 10 ∷ t; fits = End.line; reads = λ m k. ins_last_here es is os t m k })
      (λ j2 v2 q2. map_state n x Any (last_list 10 true) _ j2 v2 (last_true 10 (λ t. End.line) j2 v2 q2))
      (λ j2 b v2 q2 h. map_state n x Any (last_list 10 false) _ j2 (b ∷ v2) (last_false 10 j2 b v2 q2 h)) j v e

  ins_order_state : (es is : List (List ℕ)) (j : ℕ) (v : List ℕ) → j + length v ≡ n → State Any (ins_order es is true) n x j v
  ins_order_state es is j v e =
      then_state n x End Any (paths []) (λ os j5 r5. ins_pair es is os j5 r5) j v (paths_state n x [] j v e)
      (λ t p. record { first = 10 ∷ t; fits = End.line; reads = λ os k. ins_pair_here es is os t k }) (λ os j5 v5 q5 _. ins_pair_state es is os j5 v5 q5) (λ os j5 r5 h5. ins_pair_later es is os j5 r5 h5)

  ins_two_state : (es is : List (List ℕ)) (j : ℕ) (v : List ℕ) → j + length v ≡ n → State Any (ins_two es is) n x j v
  ins_two_state es is j v e =
      pair_state n x Any 124 (ins_order es is) (λ t p. record { first = 10 ∷ t; fits = End.line; reads = λ m k. ins_order_here es is t m k })
      (λ j2 v2 q2. ins_order_state es is j2 v2 q2) (λ j2 b v2 q2 h. ins_pair_state es is [] j2 (b ∷ v2) q2) j v e

  ins_after_state : (es : List (List ℕ)) (j : ℕ) (v : List ℕ) → j + length v ≡ n → State Any (inputs_after es true) n x j v
  ins_after_state es j v e =
      then_state n x End Any (paths []) (λ is j3 r3. ins_two es is j3 r3) j v (paths_state n x [] j v e)
      (λ t p. record { first = 10 ∷ t; fits = End.line; reads = λ is k. ins_two_here es is t k }) (λ is j3 v3 q3 _. ins_two_state es is j3 v3 q3) (λ is j3 r3 h3. ins_two_later es is j3 r3 h3)

  ins_bar_state : (es : List (List ℕ)) (j : ℕ) (v : List ℕ) → j + length v ≡ n → State Any (λ m s. and_then (bar m s) (λ b j2 r2. inputs_after es b j2 r2)) n x j v
  ins_bar_state es j v e =
      bar_state n x Any (inputs_after es) (λ t p. record { first = 10 ∷ t; fits = End.line; reads = λ m k. ins_after_here es t m k })
      (λ j2 v2 q2. ins_after_state es j2 v2 q2) (λ j2 b v2 q2 h. ins_two_state es [] j2 (b ∷ v2) q2) j v e

  pub inputs_state : (i : ℕ) (u : List ℕ) → i + length u ≡ n → State Any inputs n x i u
  inputs_state i u e =
      then_state n x End Any (paths []) (λ es j r. and_then (bar j r) (λ m j2 r2. inputs_after es m j2 r2)) i u (paths_state n x [] i u e)
      (λ t p. record { first = 10 ∷ t; fits = End.line; reads = λ es j. ins_bar_here es t j }) (λ es j v q _. ins_bar_state es j v q)
      (λ es j r h. then_later (n + 1) (bar j r) (λ m j2 r2. inputs_after es m j2 r2) (bar_later (n + 1) j r h) (λ m j2 r2 h2. tail_later (n + 1) es m j2 r2 h2))

set_to_here : (m : List ℕ) (t : List ℕ) (j : ℕ) → Ends t (signed m j (61 ∷ 10 ∷ t))
set_to_here m [] j = refl
set_to_here m (b ∷ t) j = refl

assigned_here : (m : List ℕ) (t : List ℕ) (j : ℕ) → Ends t (assigned m j (10 ∷ t))
assigned_here m [] j = refl
assigned_here m (b ∷ t) j = refl

valued_here : (m : List ℕ) (t : List ℕ) (j : ℕ) → Ends t (valued m j (10 ∷ t))
valued_here m [] j = refl
valued_here m (b ∷ t) j = refl

pub set_to_spaced : (m : List ℕ) (t : List ℕ) (j : ℕ) → Ends t (set_to m j (32 ∷ 61 ∷ 10 ∷ t))
set_to_spaced m [] j = refl
set_to_spaced m (b ∷ t) j = refl

pub set_to_first : (m : List ℕ) (t : List ℕ) (j : ℕ) → Ends t (set_to m j (61 ∷ 10 ∷ t))
set_to_first m [] j = refl
set_to_first m (b ∷ t) j = refl

-- a line that the block takes, before t
keyed : Block → List ℕ → List ℕ
keyed RuleBlock t = 112 ∷ 111 ∷ 111 ∷ 108 ∷ 61 ∷ 10 ∷ t
keyed PoolBlock t = 100 ∷ 101 ∷ 112 ∷ 116 ∷ 104 ∷ 61 ∷ 10 ∷ t
keyed BuildBlock t = 97 ∷ 61 ∷ 10 ∷ t

keyed_gap : (b : Block) (t : List ℕ) (i : ℕ) → gap i (keyed b t) ≡ ok tt i (keyed b t)
unfolding keyed
keyed_gap RuleBlock t i = refl
keyed_gap PoolBlock t i = refl
keyed_gap BuildBlock t i = refl

keyed_reads : (b : Block) (t : List ℕ) (i : ℕ) → Ends t (and_then (name Gap i (keyed b t)) (λ w j r. set_in b w i j r))
unfolding keyed class rule_takes pool_takes
keyed_reads RuleBlock t i = set_to_first (112 ∷ 111 ∷ 111 ∷ 108 ∷ []) t (i + 4)
keyed_reads PoolBlock t i = set_to_first (100 ∷ 101 ∷ 112 ∷ 116 ∷ 104 ∷ []) t (i + 5)
keyed_reads BuildBlock t i = set_to_first (97 ∷ []) t (i + 1)

module _ (n : ℕ) (x : List ℕ) where
  valued_state : (m : List ℕ) (j : ℕ) (v : List ℕ) → j + length v ≡ n → State Any (valued m) n x j v
  valued_state m j v e =
      then_state n x Line Any value (λ w j4 r4. closed m w j4 r4) j v (value_state n x j v e)
      (λ t p. record { first = 10 ∷ t; fits = Line.line; reads = λ w k. refl })
      (λ w j4 v4 q4 _. byte_state n x Any 10 Nothing (λ j5 r5. ok (record { name = m; value = w }) j5 r5) (λ t p. record { first = t; fits = tt; reads = λ a k. refl }) (λ j5 v5 q5. ok_state n x Any _ j5 v5 q5) j4 v4 q4 (λ b z _ t. free b z t))
      (λ w j4 r4 h4. closed_later (n + 1) x x m w j4 r4 h4)

  assigned_state : (m : List ℕ) (j : ℕ) (v : List ℕ) → j + length v ≡ n → State Any (assigned m) n x j v
  assigned_state m j v e = gap_state n x Any (valued m) (λ t p. record { first = 10 ∷ t; rests = end_gap End.line; reads = valued_here m t }) (λ j2 b v2 q2 _. valued_state m j2 (b ∷ v2) q2) j v e

  signed_state : (m : List ℕ) (j b : ℕ) (v : List ℕ) → j + length (b ∷ v) ≡ n → (b ≡ 36 → 0 < length v) → State Any (signed m) n x j (b ∷ v)
  signed_state m j b v e h =
      byte_state n x Any 61 Gap (assigned m) (λ t p. record { first = 10 ∷ t; fits = tt; reads = λ a k. assigned_here m t k }) (λ j2 v2 q2. assigned_state m j2 v2 q2) j (b ∷ v) e
      (guard Gap b v (λ t. h (eqb-true b 36 t)))

  pub set_to_state : (m : List ℕ) (i : ℕ) (u : List ℕ) → i + length u ≡ n → State Any (set_to m) n x i u
  set_to_state m i u e = gap_state n x Any (signed m) (λ t p. record { first = 61 ∷ 10 ∷ t; rests = λ k. refl; reads = set_to_here m t }) (λ j b v q h. signed_state m j b v q h) i u e

  set_in_state : (b : Block) (i : ℕ) (w : List ℕ) (j : ℕ) (v : List ℕ) → j + length v ≡ n → State Any (set_in b w i) n x j v
  set_in_state b i w j v e =
      test (takes b w)
      (λ t. move n x Any (set_in b w i) (set_to w) j j v v (λ y. rw t refl) (set_to_state w j v e))
      (λ f. State.never (rw f tt))

  set_in_at : (b : Block) (i : ℕ) (w : List ℕ) → ((t : List ℕ) → Any t → Stop (set_in b w i) t) ⊎ NotAt n (set_in b w i n x)
  set_in_at b i w =
      test (takes b w)
      (λ h. inl (λ t p. record { first = 32 ∷ 61 ∷ 10 ∷ t; no_more = name_32; reads = λ j. rw h (set_to_spaced w t j) }))
      (λ f. inr (rw f tt))

  set_in_later : (b : Block) (i : ℕ) (w : List ℕ) (j : ℕ) (r : List ℕ) → n + 1 ≤ j → Later (n + 1) (set_in b w i j r)
  set_in_later b i w j r h = cond_both (takes b w) (set_to w j r) (bad (LeftOutAt (spot i))) (Later (n + 1)) (λ _. set_to_later (n + 1) w j r h) (λ _. tt)

  pub setting_state : (b : Block) (i : ℕ) (u : List ℕ) → i + length u ≡ n → State Any (setting b) n x i u
  setting_state b i u e =
      gap_state n x Any (λ j r. and_then (name Gap j r) (λ w j2 r2. set_in b w j j2 r2)) (λ t p. record { first = keyed b t; rests = keyed_gap b t; reads = keyed_reads b t })
      (λ j c v q h. name_state n x Any Gap (λ k w j2 r2. set_in b w k j2 r2) (λ k t p. record { ending = keyed b t; ends = keyed_reads b t k }) (set_in_at b) (λ k w j2 v2 q2 _. set_in_state b k w j2 v2 q2) (set_in_later b) j (c ∷ v) q (guard Gap c v (λ t. h (eqb-true c 36 t)))) i u e
