-- Lists, blocks and statements of two texts that begin alike.
use Rattle.std.proofs.Common.{◌≡◌, ℕ, zero, suc, ◌+◌, ◌<◌, ◌≤◌, Bool, true, false, cond, ◌&&◌, ◌||◌, eqb, List, [], ◌∷◌, ◌++◌, length, Some, None, Option, sym, refl, ap, subst, inl, inr, ⊎_elim, arith, length-append}
use Rattle.std.proofs.lemmas.Bool.{cond_both, cases_Bool, eqb-true}
use Rattle.byteclass.specs.Words.{word_of}
use Rattle.byteclass.specs.declared.words.Word.{Word}
use Rattle.byteclass.specs.declared.words.Word.TheVariants.{Rule, Pool, Build, LeftOut, Plain}
use Rattle.cursor.specs.Scan.{Out, ok, bad, and_then, spot, name, spaces, gap, comment, byte, scan, value, stops, walk, path, any_path, next_path, needed, first_path, bar, pair, indented, flush, lead}
use Rattle.cursor.specs.declared.place.Fault.TheVariants.{Syntax, LeftOut as LeftOutAt}
use Rattle.cursor.specs.declared.place.Opens.TheVariants.{Nothing, Gap}
use Rattle.cursor.specs.declared.lines.Lead.{Lead}
use Rattle.cursor.specs.declared.lines.Lead.TheVariants.{Ends, Blank, Remark, Flush, Indented}
use Rattle.cursor.proofs.Moves.{Moves, next_path_moves}
use Rattle.parts.specs.Many.{Turn, stop, more, turn, turn_of, many, repeat, each}
use Rattle.parts.specs.Parts.{Entry, Outs, Ins, paths, some_paths, list_if, open_after, last_list, outputs, inputs, set_to, takes, setting, block_line, block_turn, block, between, skip_turn, skipped}
use Rattle.parts.specs.declared.kinds.Block.{Block}
use Rattle.parts.specs.declared.kinds.Block.TheVariants.{Rule as RuleBlock, Pool as PoolBlock, Build as BuildBlock}
use Rattle.parts.proofs.Many.{turned, each_moves}
use Rattle.parts.proofs.Moves.{block_turn_moves, skip_turn_moves}
use Rattle.text.specs.Text.{Head, Work, declared, edge, by_word, statement, at_start, next, statements}
use Rattle.text.proofs.Moves.{next_statement_moves}
use Rattle.text.proofs.Sound.{name_36}
use Rattle.text.proofs.Later.{Later, then_later, gap_later, inputs_after, name_later, byte_later, value_later, any_path_later, next_path_later, needed_later, bar_later, pair_later, indented_later, lead_later, turn_later, many_later, each_later, paths_later, list_if_later, last_list_later, set_to_later, block_line_later, block_later, tail_later, inputs_later, by_word_later, skip_turn_later, at_start_later, next_later}
use Rattle.text.proofs.Near.{Near, fault_then, later_near, then_near, ok_near, two, byte_near, comment_near, spaces_near, name_near}
use Rattle.text.proofs.NearScan.{Edge, near_edge, then_edge, two_edge, gap_near, scan_dollar_late, walk_dollar_late, value_near, path_near}

-- what follows a gap, right after a `$` where the texts part, is late
name_dollar : (n j : ℕ) (x : List ℕ) → j + 1 ≡ n → Later n (name Gap j (36 ∷ x))
name_dollar n j x e = rw name_36 (omega arith)

byte_dollar : (n k j : ℕ) (x : List ℕ) → j + 1 ≡ n → Later n (byte k Gap j (36 ∷ x))
byte_dollar n k j x e = cond_both (eqb 36 k) (ok tt (j + 1) x) (bad (Syntax (spot (j + 1)))) (Later n) (λ _. omega arith) (λ _. omega arith)

value_dollar : (n j : ℕ) (x : List ℕ) → j + 1 ≡ n → Later n (value j (36 ∷ x))
value_dollar n j x e = then_later n (scan j (36 ∷ x)) _ (scan_dollar_late n j 36 x refl (omega arith)) (λ _ k r h. h)

any_path_dollar : (n j : ℕ) (x : List ℕ) → j + 1 ≡ n → Later n (any_path j (36 ∷ x))
any_path_dollar n j x e =
    then_later n (path j (36 ∷ x)) _ (then_later n (walk false j (36 ∷ x)) _ (walk_dollar_late n false j 36 x refl (omega arith)) (λ _ k r h. h)) (λ p k r h. h)

abbrev Unmarked : Bool → Type 0
Unmarked m = m ≡ false

pub bar_else : (i b : ℕ) (s : List ℕ) → eqb b 124 ≡ false → ok false i (b ∷ s) ≡ bar i (b ∷ s)
bar_else i b [] f = rw f
bar_else i b (c ∷ s) f = rw f

pub pair_else : (k i b : ℕ) (s : List ℕ) → eqb b 124 ≡ false → ok false i (b ∷ s) ≡ pair k i (b ∷ s)
pair_else k i b [] f = refl
pair_else k i b (c ∷ s) f = rw f

-- what follows the name m of a variable: its parts from the last to the first
abbrev pub closed : List ℕ → List ℕ → ℕ → List ℕ → Out Entry
closed m w j r = and_then (byte 10 Nothing j r) (λ _ j5 r5. ok (record { name = m; value = w }) j5 r5)

abbrev pub valued : List ℕ → ℕ → List ℕ → Out Entry
valued m j r = and_then (value j r) (λ w j4 r4. closed m w j4 r4)

abbrev pub assigned : List ℕ → ℕ → List ℕ → Out Entry
assigned m j r = and_then (gap j r) (λ _ j3 r3. valued m j3 r3)

abbrev pub signed : List ℕ → ℕ → List ℕ → Out Entry
signed m j r = and_then (byte 61 Gap j r) (λ _ j2 r2. assigned m j2 r2)

-- what follows the name m of a rule or pool: its block, with the line's end before it
abbrev pub head_last : Block → List ℕ → ℕ → List ℕ → Out Head
head_last b m j r = and_then (block b j r) (λ ls j5 r5. ok (record { name = m; lines = ls }) j5 r5)

abbrev pub head_line : Block → List ℕ → ℕ → List ℕ → Out Head
head_line b m j r = and_then (byte 10 Gap j r) (λ _ j4 r4. head_last b m j4 r4)

module _ (n : ℕ) (x y : List ℕ) where
  bar_cut : (i b : ℕ) (s : List ℕ) (q : Out Bool) → b ≡ 124 → i + 1 ≡ n → s ≡ x → Edge 124 Unmarked n x y (bar i (b ∷ s)) q
  bar_cut i b [] q p e w = rw p (inl (inl (omega arith)))
  bar_cut i b (c ∷ s) q p e w =
      rw p (cond_both (eqb c 124 || eqb c 64) (ok false i (124 ∷ c ∷ s)) (ok true (i + 1) (c ∷ s)) (λ o. Edge 124 Unmarked n x y o q)
      (λ _. inl (inr (e, ap (λ z. 124 ∷ z) w, refl))) (λ _. inl (inl (omega arith))))

  pub bar_near : (i : ℕ) (u : List ℕ) → i + length u ≡ n → Edge 124 Unmarked n x y (bar i (u ++ x)) (bar i (u ++ y))
  bar_near i [] e = near_edge 124 n x y Unmarked (bar i x) (bar i y) (later_near n x y (bar i x) (bar i y) (bar_later n i x (omega arith)))
  bar_near i (b ∷ []) e =
      ⊎_elim
      (λ t. bar_cut i b x (bar i (b ∷ y)) (eqb-true b 124 t) (omega arith) refl)
      (λ f. subst (λ o. Edge 124 Unmarked n x y o (bar i (b ∷ y))) (bar_else i b x f)
      (subst (λ o. Edge 124 Unmarked n x y (ok false i (b ∷ x)) o) (bar_else i b y f) (near_edge 124 n x y Unmarked (ok false i (b ∷ x)) (ok false i (b ∷ y)) (ok_near n x y false i (b ∷ []) e))))
      (cases_Bool (eqb b 124))
  bar_near i (b ∷ c ∷ u) e =
      two_edge 124 n x y Unmarked (eqb b 124) _ _ _ _
      (λ _. two_edge 124 n x y Unmarked (eqb c 124 || eqb c 64) _ _ _ _
      (λ _. near_edge 124 n x y Unmarked (ok false i (b ∷ c ∷ u ++ x)) (ok false i (b ∷ c ∷ u ++ y)) (ok_near n x y false i (b ∷ c ∷ u) e))
      (λ _. near_edge 124 n x y Unmarked (ok true (i + 1) (c ∷ u ++ x)) (ok true (i + 1) (c ∷ u ++ y)) (ok_near n x y true (i + 1) (c ∷ u) (omega arith))))
      (λ _. near_edge 124 n x y Unmarked (ok false i (b ∷ c ∷ u ++ x)) (ok false i (b ∷ c ∷ u ++ y)) (ok_near n x y false i (b ∷ c ∷ u) e))

  pair_cut : (k i b : ℕ) (s : List ℕ) (q : Out Bool) → b ≡ 124 → i + 1 ≡ n → s ≡ x → Edge 124 Unmarked n x y (pair k i (b ∷ s)) q
  pair_cut k i b [] q p e w = rw p (inl (inr (e, ap (λ z. 124 ∷ z) w, refl)))
  pair_cut k i b (c ∷ s) q p e w =
      rw p (cond_both (eqb c k) (ok true (i + 2) s) (ok false i (124 ∷ c ∷ s)) (λ o. Edge 124 Unmarked n x y o q)
      (λ _. inl (inl (omega arith))) (λ _. inl (inr (e, ap (λ z. 124 ∷ z) w, refl))))

  pub pair_near : (k i : ℕ) (u : List ℕ) → i + length u ≡ n → Edge 124 Unmarked n x y (pair k i (u ++ x)) (pair k i (u ++ y))
  pair_near k i [] e = near_edge 124 n x y Unmarked (pair k i x) (pair k i y) (later_near n x y (pair k i x) (pair k i y) (pair_later n k i x (omega arith)))
  pair_near k i (b ∷ []) e =
      ⊎_elim
      (λ t. pair_cut k i b x (pair k i (b ∷ y)) (eqb-true b 124 t) (omega arith) refl)
      (λ f. subst (λ o. Edge 124 Unmarked n x y o (pair k i (b ∷ y))) (pair_else k i b x f)
      (subst (λ o. Edge 124 Unmarked n x y (ok false i (b ∷ x)) o) (pair_else k i b y f) (near_edge 124 n x y Unmarked (ok false i (b ∷ x)) (ok false i (b ∷ y)) (ok_near n x y false i (b ∷ []) e))))
      (cases_Bool (eqb b 124))
  pair_near k i (b ∷ c ∷ u) e =
      two_edge 124 n x y Unmarked (eqb b 124 && eqb c k) _ _ _ _
      (λ _. near_edge 124 n x y Unmarked (ok true (i + 2) (u ++ x)) (ok true (i + 2) (u ++ y)) (ok_near n x y true (i + 2) u (omega arith)))
      (λ _. near_edge 124 n x y Unmarked (ok false i (b ∷ c ∷ u ++ x)) (ok false i (b ∷ c ∷ u ++ y)) (ok_near n x y false i (b ∷ c ∷ u) e))

  any_path_near : (i : ℕ) (u : List ℕ) → i + length u ≡ n → 0 < length u → Near n x y (any_path i (u ++ x)) (any_path i (u ++ y))
  any_path_near i [] e l = absurd (omega arith)
  any_path_near i (b ∷ u) e l =
      two n x y (stops b) _ _ _ _ (λ _. ok_near n x y None i (b ∷ u) e)
      (λ _. then_near n x y (path i (b ∷ u ++ x)) (path i (b ∷ u ++ y)) _ (path_near n x y i (b ∷ u) e) (λ p j r h. h) (λ p j v q k. ok_near n x y (Some p) j v q))

  pub next_path_near : (i : ℕ) (u : List ℕ) → i + length u ≡ n → Near n x y (next_path i (u ++ x)) (next_path i (u ++ y))
  next_path_near i u e =
      then_edge 36 n x y _ (gap i (u ++ x)) (gap i (u ++ y)) _ (gap_near n x y i u e) (λ _ j r h. any_path_later n j r h) (λ _ j v q k. any_path_near j v q k) (λ _ j q _. any_path_dollar n j x q)

  needed_near : (o : Option (List ℕ)) (j : ℕ) (v : List ℕ) → j + length v ≡ n → Near n x y (needed o j (v ++ x)) (needed o j (v ++ y))
  needed_near None j v e = inr refl
  needed_near (Some p) j v e = ok_near n x y p j v e

  first_path_near : (i : ℕ) (u : List ℕ) → i + length u ≡ n → Near n x y (first_path i (u ++ x)) (first_path i (u ++ y))
  first_path_near i u e =
      then_near n x y (next_path i (u ++ x)) (next_path i (u ++ y)) needed (next_path_near i u e) (λ o j r h. needed_later n o j r h) (λ o j v q k. needed_near o j v q)

  module _ {E : Type 0} (f : ℕ → List ℕ → Out (Turn E)) (near : (i : ℕ) (u : List ℕ) → i + length u ≡ n → Near n x y (f i (u ++ x)) (f i (u ++ y))) (late : (i : ℕ) (s : List ℕ) → n ≤ i → Later n (f i s)) (moves : (i : ℕ) (s : List ℕ) → Moves turned i s (f i s)) where
    turn_near : (es : List E) (i : ℕ) (t : Turn E) (j : ℕ) (v : List ℕ) (g h : List E → Out (List E)) → j + length v ≡ n → i + turned t ≤ j → ((xs : List E) → i < j → Near n x y (g (es ++ xs)) (h (es ++ xs))) → Near n x y (turn t es j (v ++ x) g) (turn t es j (v ++ y) h)
    turn_near es i stop j v g h e l k = ok_near n x y es j v e
    turn_near es i (more xs) j v g h e l k = k xs (omega arith)

    step_near : (es : List E) (i : ℕ) (s : List ℕ) (o q : Out (Turn E)) (g h : ℕ → List ℕ → List E → Out (List E)) → Near n x y o q → Moves turned i s o → ((j : ℕ) (r : List ℕ) (fs : List E) → n ≤ j → Later n (g j r fs)) → ((j : ℕ) (v : List ℕ) (fs : List E) → j + length v ≡ n → i < j → Near n x y (g j (v ++ x) fs) (h j (v ++ y) fs)) → Near n x y (and_then o (λ t j r. turn t es j r (λ fs. g j r fs))) (and_then q (λ t j r. turn t es j r (λ fs. h j r fs)))
    step_near es i s (ok t j r) q g h w m k1 k2 =
        ⊎_elim (λ l. later_near n x y (turn t es j r (λ fs. g j r fs)) _ (turn_later n t es j r _ l (λ fs. k1 j r fs l)))
        (λ z. subst (λ p. Near n x y (turn t es j p (λ fs. g j p fs)) (and_then q (λ t2 j2 r2. turn t2 es j2 r2 (λ fs. h j2 r2 fs)))) (sym z.rest)
        (subst (λ p. Near n x y (turn t es j (z.left ++ x) (λ fs. g j (z.left ++ x) fs)) (and_then p (λ t2 j2 r2. turn t2 es j2 r2 (λ fs. h j2 r2 fs)))) (sym z.same)
        (turn_near es i t j z.left _ _ z.place m.past (λ xs l. k2 j z.left (es ++ xs) z.place l)))) w
    step_near es i s (bad e) q g h w m k1 k2 = fault_then n x y e q _ w

    many_near : (k k2 i : ℕ) (u : List ℕ) (es : List E) → length (u ++ x) < k → length (u ++ y) < k2 → i + length u ≡ n → Near n x y (many f k i (u ++ x) es) (many f k2 i (u ++ y) es)
    many_near zero k2 i u es l m e = absurd (omega arith)
    many_near (suc k) zero i u es l m e = absurd (omega arith)
    many_near (suc k) (suc k2) i u es l m e =
        step_near es i (u ++ x) (f i (u ++ x)) (f i (u ++ y)) (λ j r fs. many f k j r fs) (λ j r fs. many f k2 j r fs) (near i u e) (moves i (u ++ x))
        (λ j r fs h. many_later n f late k j r fs h)
        (λ j v fs p q. many_near k k2 j v fs (omega (arith, length-append u x, length-append v x)) (omega (arith, length-append u y, length-append v y)) p)

    pub repeat_near : (i : ℕ) (u : List ℕ) (es : List E) → i + length u ≡ n → Near n x y (repeat f es i (u ++ x)) (repeat f es i (u ++ y))
    unfolding repeat
    repeat_near i u es e = many_near (suc (length (u ++ x))) (suc (length (u ++ y))) i u es (omega arith) (omega arith) e

  each_near : {E : Type 0} (f : ℕ → List ℕ → Out (Option E)) → ((i : ℕ) (u : List ℕ) → i + length u ≡ n → Near n x y (f i (u ++ x)) (f i (u ++ y))) → (i : ℕ) (u : List ℕ) → i + length u ≡ n → Near n x y (each f i (u ++ x)) (each f i (u ++ y))
  each_near f near i u e = then_near n x y (f i (u ++ x)) (f i (u ++ y)) _ (near i u e) (λ o j r h. h) (λ o j v q k. ok_near n x y (turn_of o) j v q)

  pub paths_near : (ps : List (List ℕ)) (i : ℕ) (u : List ℕ) → i + length u ≡ n → Near n x y (paths ps i (u ++ x)) (paths ps i (u ++ y))
  paths_near ps i u e = repeat_near (each next_path) (each_near next_path next_path_near) (each_later n next_path (next_path_later n)) (each_moves next_path next_path_moves) i u ps e

  some_paths_near : (i : ℕ) (u : List ℕ) → i + length u ≡ n → Near n x y (some_paths i (u ++ x)) (some_paths i (u ++ y))
  some_paths_near i u e =
      then_near n x y (first_path i (u ++ x)) (first_path i (u ++ y)) _ (first_path_near i u e) (λ p j r h. paths_later n (p ∷ []) j r h) (λ p j v q k. paths_near (p ∷ []) j v q)

  list_if_near : (m : Bool) (i : ℕ) (u : List ℕ) → i + length u ≡ n → Near n x y (list_if m i (u ++ x)) (list_if m i (u ++ y))
  list_if_near true i u e = paths_near [] i u e
  list_if_near false i u e = ok_near n x y [] i u e

  last_list_near : (k : ℕ) (m : Bool) (i : ℕ) (u : List ℕ) → i + length u ≡ n → Near n x y (last_list k m i (u ++ x)) (last_list k m i (u ++ y))
  last_list_near k m i u e =
      then_near n x y (list_if m i (u ++ x)) (list_if m i (u ++ y)) _ (list_if_near m i u e)
      (λ ps j r h. then_later n (byte k (open_after m) j r) _ (byte_later n k (open_after m) j r h) (λ _ j2 r2 h2. h2))
      (λ ps j v q l. then_near n x y (byte k (open_after m) j (v ++ x)) (byte k (open_after m) j (v ++ y)) _ (byte_near n x y k (open_after m) j v q) (λ _ j2 r2 h2. h2) (λ _ j2 v2 q2 l2. ok_near n x y ps j2 v2 q2))

  -- with no mark, a `|` right where the texts part is late
  last_bar : (k : ℕ) (m : Bool) (j : ℕ) → m ≡ false → eqb 124 k ≡ false → j + 1 ≡ n → Later n (last_list k m j (124 ∷ x))
  last_bar k m j p f e = rw (p, f) (omega arith)

  outputs_near : (i : ℕ) (u : List ℕ) → i + length u ≡ n → Near n x y (outputs i (u ++ x)) (outputs i (u ++ y))
  outputs_near i u e =
      then_near n x y (some_paths i (u ++ x)) (some_paths i (u ++ y)) _ (some_paths_near i u e)
      (λ es j r h. then_later n (bar j r) _ (bar_later n j r h) (λ m j2 r2 h2. then_later n (last_list 58 m j2 r2) _ (last_list_later n 58 m j2 r2 h2) (λ is j3 r3 h3. h3)))
      (λ es j v q l. then_edge 124 n x y Unmarked (bar j (v ++ x)) (bar j (v ++ y)) _ (bar_near j v q)
      (λ m j2 r2 h2. then_later n (last_list 58 m j2 r2) _ (last_list_later n 58 m j2 r2 h2) (λ is j3 r3 h3. h3))
      (λ m j2 v2 q2 l2. then_near n x y (last_list 58 m j2 (v2 ++ x)) (last_list 58 m j2 (v2 ++ y)) _ (last_list_near 58 m j2 v2 q2) (λ is j3 r3 h3. h3) (λ is j3 v3 q3 l3. ok_near n x y _ j3 v3 q3))
      (λ m j2 q2 p. then_later n (last_list 58 m j2 (124 ∷ x)) _ (last_bar 58 m j2 p refl q2) (λ is j3 r3 h3. h3)))

  -- a mark of two bytes whose first stands right where the texts part
  pair_either : {A : Type 0} (k j : ℕ) (s : List ℕ) (f : Bool → ℕ → List ℕ → Out A) → j + 1 ≡ n → s ≡ x → Later n (f false j (124 ∷ x)) → ((r : List ℕ) → Later n (f true (j + 2) r)) → Later n (and_then (pair k j (124 ∷ s)) f)
  pair_either k j [] f e w h g = subst (λ z. Later n (f false j (124 ∷ z))) (sym w) h
  pair_either k j (c ∷ s) f e w h g =
      cond_both (eqb c k) (ok true (j + 2) s) (ok false j (124 ∷ c ∷ s)) (λ o. Later n (and_then o f)) (λ _. g s) (λ _. subst (λ z. Later n (f false j (124 ∷ z))) (sym w) h)

  tail_bar : (es : List (List ℕ)) (m : Bool) (j : ℕ) → m ≡ false → j + 1 ≡ n → Later n (inputs_after es m j (124 ∷ x))
  tail_bar es m j p e =
      rw p (pair_either 124 j x _ e refl
      (pair_either 64 j x _ e refl (omega arith)
      (λ r. then_later n (last_list 10 true (j + 2) r) _ (last_list_later n 10 true (j + 2) r (omega arith)) (λ vs j7 r7 h7. h7)))
      (λ r. then_later n (list_if true (j + 2) r) _ (list_if_later n true (j + 2) r (omega arith)) (λ os j5 r5 h5.
      then_later n (pair 64 j5 r5) _ (pair_later n 64 j5 r5 h5) (λ l j6 r6 h6.
      then_later n (last_list 10 l j6 r6) _ (last_list_later n 10 l j6 r6 h6) (λ vs j7 r7 h7. h7)))))

  last_part : (es is os : List (List ℕ)) (l : Bool) (j : ℕ) (v : List ℕ) → j + length v ≡ n → Near {A = Ins} n x y (and_then (last_list 10 l j (v ++ x)) (λ vs j7 r7. ok (record { explicit = es; implicit = is; order_only = os; validations = vs }) j7 r7)) (and_then (last_list 10 l j (v ++ y)) (λ vs j7 r7. ok (record { explicit = es; implicit = is; order_only = os; validations = vs }) j7 r7))
  last_part es is os l j v q = then_near n x y (last_list 10 l j (v ++ x)) (last_list 10 l j (v ++ y)) _ (last_list_near 10 l j v q) (λ vs j7 r7 h7. h7) (λ vs j7 v7 q7 l7. ok_near n x y _ j7 v7 q7)

  tail_near : (es : List (List ℕ)) (m : Bool) (i : ℕ) (u : List ℕ) → i + length u ≡ n → Near n x y (inputs_after es m i (u ++ x)) (inputs_after es m i (u ++ y))
  tail_near es m i u e =
      then_near n x y (list_if m i (u ++ x)) (list_if m i (u ++ y)) _ (list_if_near m i u e)
      (λ is j3 r3 h3. then_later n (pair 124 j3 r3) _ (pair_later n 124 j3 r3 h3) (λ o j4 r4 h4.
      then_later n (list_if o j4 r4) _ (list_if_later n o j4 r4 h4) (λ os j5 r5 h5.
      then_later n (pair 64 j5 r5) _ (pair_later n 64 j5 r5 h5) (λ p j6 r6 h6.
      then_later n (last_list 10 p j6 r6) _ (last_list_later n 10 p j6 r6 h6) (λ vs j7 r7 h7. h7)))))
      (λ is j3 v3 q3 l3.
      then_edge 124 n x y Unmarked (pair 124 j3 (v3 ++ x)) (pair 124 j3 (v3 ++ y)) _ (pair_near 124 j3 v3 q3)
      (λ o j4 r4 h4. then_later n (list_if o j4 r4) _ (list_if_later n o j4 r4 h4) (λ os j5 r5 h5.
      then_later n (pair 64 j5 r5) _ (pair_later n 64 j5 r5 h5) (λ p j6 r6 h6.
      then_later n (last_list 10 p j6 r6) _ (last_list_later n 10 p j6 r6 h6) (λ vs j7 r7 h7. h7))))
      (λ o j4 v4 q4 l4.
      then_near n x y (list_if o j4 (v4 ++ x)) (list_if o j4 (v4 ++ y)) _ (list_if_near o j4 v4 q4)
      (λ os j5 r5 h5. then_later n (pair 64 j5 r5) _ (pair_later n 64 j5 r5 h5) (λ p j6 r6 h6.
      then_later n (last_list 10 p j6 r6) _ (last_list_later n 10 p j6 r6 h6) (λ vs j7 r7 h7. h7)))
      (λ os j5 v5 q5 l5.
      then_edge 124 n x y Unmarked (pair 64 j5 (v5 ++ x)) (pair 64 j5 (v5 ++ y)) _ (pair_near 64 j5 v5 q5)
      (λ p j6 r6 h6. then_later n (last_list 10 p j6 r6) _ (last_list_later n 10 p j6 r6 h6) (λ vs j7 r7 h7. h7))
      (λ p j6 v6 q6 l6. last_part es is os p j6 v6 q6)
      (λ p j6 q6 w6. then_later n (last_list 10 p j6 (124 ∷ x)) _ (last_bar 10 p j6 w6 refl q6) (λ vs j7 r7 h7. h7))))
      (λ o j4 q4 w4.
      rw w4 (pair_either 64 j4 x _ q4 refl (omega arith)
      (λ r. then_later n (last_list 10 true (j4 + 2) r) _ (last_list_later n 10 true (j4 + 2) r (omega arith)) (λ vs j7 r7 h7. h7)))))

  inputs_near : (i : ℕ) (u : List ℕ) → i + length u ≡ n → Near n x y (inputs i (u ++ x)) (inputs i (u ++ y))
  inputs_near i u e =
      then_near n x y (paths [] i (u ++ x)) (paths [] i (u ++ y)) _ (paths_near [] i u e)
      (λ es j r h. then_later n (bar j r) _ (bar_later n j r h) (λ m j2 r2 h2. tail_later n es m j2 r2 h2))
      (λ es j v q l. then_edge 124 n x y Unmarked (bar j (v ++ x)) (bar j (v ++ y)) _ (bar_near j v q)
      (λ m j2 r2 h2. tail_later n es m j2 r2 h2) (λ m j2 v2 q2 l2. tail_near es m j2 v2 q2) (λ m j2 q2 p. tail_bar es m j2 p q2))

  -- a gap and what follows it, which a `$` right where the texts part makes late
  gap_then : {B : Type 0} (i : ℕ) (u : List ℕ) (f : ℕ → List ℕ → Out B) → i + length u ≡ n → ((j : ℕ) (r : List ℕ) → n ≤ j → Later n (f j r)) → ((j : ℕ) (v : List ℕ) → j + length v ≡ n → Near n x y (f j (v ++ x)) (f j (v ++ y))) → ((j : ℕ) → j + 1 ≡ n → Later n (f j (36 ∷ x))) → Near n x y (and_then (gap i (u ++ x)) (λ _ j r. f j r)) (and_then (gap i (u ++ y)) (λ _ j r. f j r))
  gap_then i u f e k1 k2 k3 =
      then_edge 36 n x y _ (gap i (u ++ x)) (gap i (u ++ y)) (λ _ j r. f j r) (gap_near n x y i u e) (λ _ j r h. k1 j r h) (λ _ j v q l. k2 j v q) (λ _ j q _. k3 j q)

  -- one reading after another, in both texts
  seq : {A B : Type 0} (g : ℕ → List ℕ → Out A) (f : A → ℕ → List ℕ → Out B) (i : ℕ) (u : List ℕ) → Near n x y (g i (u ++ x)) (g i (u ++ y)) → ((a : A) (j : ℕ) (r : List ℕ) → n ≤ j → Later n (f a j r)) → ((a : A) (j : ℕ) (v : List ℕ) → j + length v ≡ n → Near n x y (f a j (v ++ x)) (f a j (v ++ y))) → Near n x y (and_then (g i (u ++ x)) f) (and_then (g i (u ++ y)) f)
  seq g f i u h k1 k2 = then_near n x y (g i (u ++ x)) (g i (u ++ y)) f h k1 (λ a j v q l. k2 a j v q)

  pub closed_later : (m w : List ℕ) (j : ℕ) (r : List ℕ) → n ≤ j → Later n (closed m w j r)
  closed_later m w j r h = then_later n (byte 10 Nothing j r) _ (byte_later n 10 Nothing j r h) (λ _ j5 r5 h5. h5)

  pub valued_later : (m : List ℕ) (j : ℕ) (r : List ℕ) → n ≤ j → Later n (valued m j r)
  valued_later m j r h = then_later n (value j r) (λ w j4 r4. closed m w j4 r4) (value_later n j r h) (λ w j4 r4 h4. closed_later m w j4 r4 h4)

  pub assigned_later : (m : List ℕ) (j : ℕ) (r : List ℕ) → n ≤ j → Later n (assigned m j r)
  assigned_later m j r h = then_later n (gap j r) (λ _ j3 r3. valued m j3 r3) (gap_later n j r h) (λ _ j3 r3 h3. valued_later m j3 r3 h3)

  pub signed_later : (m : List ℕ) (j : ℕ) (r : List ℕ) → n ≤ j → Later n (signed m j r)
  signed_later m j r h = then_later n (byte 61 Gap j r) (λ _ j2 r2. assigned m j2 r2) (byte_later n 61 Gap j r h) (λ _ j2 r2 h2. assigned_later m j2 r2 h2)

  valued_near : (m : List ℕ) (j : ℕ) (v : List ℕ) → j + length v ≡ n → Near n x y (valued m j (v ++ x)) (valued m j (v ++ y))
  valued_near m j v q =
      seq value (λ w j4 r4. closed m w j4 r4) j v (value_near n x y j v q) (λ w j4 r4 h4. closed_later m w j4 r4 h4)
      (λ w j4 v4 q4. seq (byte 10 Nothing) _ j4 v4 (byte_near n x y 10 Nothing j4 v4 q4) (λ _ j5 r5 h5. h5) (λ _ j5 v5 q5. ok_near n x y _ j5 v5 q5))

  assigned_near : (m : List ℕ) (j : ℕ) (v : List ℕ) → j + length v ≡ n → Near n x y (assigned m j (v ++ x)) (assigned m j (v ++ y))
  assigned_near m j v q =
      gap_then j v (valued m) q (λ j3 r3 h3. valued_later m j3 r3 h3) (λ j3 v3 q3. valued_near m j3 v3 q3)
      (λ j3 q3. then_later n (value j3 (36 ∷ x)) (λ w j4 r4. closed m w j4 r4) (value_dollar n j3 x q3) (λ w j4 r4 h4. closed_later m w j4 r4 h4))

  set_to_near : (m : List ℕ) (i : ℕ) (u : List ℕ) → i + length u ≡ n → Near n x y (set_to m i (u ++ x)) (set_to m i (u ++ y))
  set_to_near m i u e =
      gap_then i u (signed m) e (λ j r h. signed_later m j r h)
      (λ j v q. seq (byte 61 Gap) (λ _ j2 r2. assigned m j2 r2) j v (byte_near n x y 61 Gap j v q) (λ _ j2 r2 h2. assigned_later m j2 r2 h2) (λ _ j2 v2 q2. assigned_near m j2 v2 q2))
      (λ j q. then_later n (byte 61 Gap j (36 ∷ x)) (λ _ j2 r2. assigned m j2 r2) (byte_dollar n 61 j x q) (λ _ j2 r2 h2. assigned_later m j2 r2 h2))

  -- a name after a gap, and what follows it
  gap_name : {B : Type 0} (i : ℕ) (u : List ℕ) (f : List ℕ → ℕ → ℕ → List ℕ → Out B) → i + length u ≡ n → ((m : List ℕ) (k j : ℕ) (r : List ℕ) → n ≤ j → Later n (f m k j r)) → ((m : List ℕ) (k j : ℕ) (v : List ℕ) → j + length v ≡ n → Near n x y (f m k j (v ++ x)) (f m k j (v ++ y))) → Near n x y (and_then (gap i (u ++ x)) (λ _ j1 r1. and_then (name Gap j1 r1) (λ m j2 r2. f m j1 j2 r2))) (and_then (gap i (u ++ y)) (λ _ j1 r1. and_then (name Gap j1 r1) (λ m j2 r2. f m j1 j2 r2)))
  gap_name i u f e k1 k2 =
      gap_then i u (λ j1 r1. and_then (name Gap j1 r1) (λ m j2 r2. f m j1 j2 r2)) e
      (λ j r h. then_later n (name Gap j r) _ (name_later n Gap j r h) (λ m j2 r2 h2. k1 m j j2 r2 h2))
      (λ j v q. seq (name Gap) _ j v (name_near n x y Gap j v q) (λ m j2 r2 h2. k1 m j j2 r2 h2) (λ m j2 v2 q2. k2 m j j2 v2 q2))
      (λ j q. then_later n (name Gap j (36 ∷ x)) _ (name_dollar n j x q) (λ m j2 r2 h2. k1 m j j2 r2 h2))

  setting_near : (b : Block) (i : ℕ) (u : List ℕ) → i + length u ≡ n → Near n x y (setting b i (u ++ x)) (setting b i (u ++ y))
  setting_near b i u e =
      gap_name i u (λ m k j r. cond (takes b m) (set_to m j r) (bad (LeftOutAt (spot k)))) e
      (λ m k j r h. cond_both (takes b m) (set_to m j r) (bad (LeftOutAt (spot k))) (Later n) (λ _. set_to_later n m j r h) (λ _. tt))
      (λ m k j v q. two n x y (takes b m) _ _ _ _ (λ _. set_to_near m j v q) (λ _. tt))

  remark_near : (i : ℕ) (u : List ℕ) → i + length u ≡ n → Near n x y (and_then (comment i (u ++ x)) (λ _ j r. ok Remark j r)) (and_then (comment i (u ++ y)) (λ _ j r. ok Remark j r))
  remark_near i u e = seq comment _ i u (comment_near n x y i u e) (λ _ j r h. h) (λ _ j v q. ok_near n x y Remark j v q)

  indented_near : (i : ℕ) (u : List ℕ) → i + length u ≡ n → Near n x y (indented i (u ++ x)) (indented i (u ++ y))
  indented_near i [] e = later_near n x y (indented i x) (indented i y) (indented_later n i x (omega arith))
  indented_near i (b ∷ u) e =
      two n x y (eqb b 10) _ _ _ _ (λ _. ok_near n x y Blank (i + 1) u (omega arith))
      (λ _. two n x y (eqb b 35) _ _ _ _ (λ _. remark_near i (b ∷ u) e) (λ _. ok_near n x y Indented i (b ∷ u) e))

  flush_near : (i b : ℕ) (u : List ℕ) → i + length (b ∷ u) ≡ n → Near n x y (flush i (b ∷ u ++ x)) (flush i (b ∷ u ++ y))
  flush_near i b u e =
      two n x y (eqb b 10) _ _ _ _ (λ _. ok_near n x y Blank (i + 1) u (omega arith))
      (λ _. two n x y (eqb b 35) _ _ _ _ (λ _. remark_near i (b ∷ u) e) (λ _. ok_near n x y Flush i (b ∷ u) e))

  lead_near : (i : ℕ) (u : List ℕ) → i + length u ≡ n → Near n x y (lead i (u ++ x)) (lead i (u ++ y))
  lead_near i [] e = later_near n x y (lead i x) (lead i y) (lead_later n i x (omega arith))
  lead_near i (b ∷ u) e =
      two n x y (eqb b 32) _ _ _ _
      (λ _. seq spaces _ i (b ∷ u) (spaces_near n x y i (b ∷ u) e) (λ _ j r h. indented_later n j r h) (λ _ j v q. indented_near j v q))
      (λ _. flush_near i b u e)

  block_line_near : (b : Block) (d : Lead) (i : ℕ) (u : List ℕ) → i + length u ≡ n → Near n x y (block_line b d i (u ++ x)) (block_line b d i (u ++ y))
  block_line_near b Ends i u e = ok_near n x y stop i u e
  block_line_near b Blank i u e = ok_near n x y stop i u e
  block_line_near b Flush i u e = ok_near n x y stop i u e
  block_line_near b Remark i u e = ok_near n x y (more []) i u e
  block_line_near b Indented i u e = seq (setting b) _ i u (setting_near b i u e) (λ w j r h. h) (λ w j v q. ok_near n x y (more (w ∷ [])) j v q)

  block_near : (b : Block) (i : ℕ) (u : List ℕ) → i + length u ≡ n → Near n x y (block b i (u ++ x)) (block b i (u ++ y))
  block_near b i u e =
      repeat_near (block_turn b)
      (λ j v q. seq lead _ j v (lead_near j v q) (λ d k r h. block_line_later n b d k r h) (λ d k w p. block_line_near b d k w p))
      (λ j r h. then_later n (lead j r) _ (lead_later n j r h) (λ d k t l. block_line_later n b d k t l)) (block_turn_moves b) i u [] e

  pub head_last_later : (b : Block) (m : List ℕ) (j : ℕ) (r : List ℕ) → n ≤ j → Later n (head_last b m j r)
  head_last_later b m j r h = then_later n (block b j r) _ (block_later n b j r h) (λ ls j5 r5 h5. h5)

  pub head_line_later : (b : Block) (m : List ℕ) (j : ℕ) (r : List ℕ) → n ≤ j → Later n (head_line b m j r)
  head_line_later b m j r h = then_later n (byte 10 Gap j r) (λ _ j4 r4. head_last b m j4 r4) (byte_later n 10 Gap j r h) (λ _ j4 r4 h4. head_last_later b m j4 r4 h4)

  head_line_near : (b : Block) (m : List ℕ) (j : ℕ) (v : List ℕ) → j + length v ≡ n → Near n x y (head_line b m j (v ++ x)) (head_line b m j (v ++ y))
  head_line_near b m j v q =
      seq (byte 10 Gap) (λ _ j4 r4. head_last b m j4 r4) j v (byte_near n x y 10 Gap j v q) (λ _ j4 r4 h4. head_last_later b m j4 r4 h4)
      (λ _ j4 v4 q4. seq (block b) _ j4 v4 (block_near b j4 v4 q4) (λ ls j5 r5 h5. h5) (λ ls j5 v5 q5. ok_near n x y _ j5 v5 q5))

  declared_near : (b : Block) (i : ℕ) (u : List ℕ) → i + length u ≡ n → Near n x y (declared b i (u ++ x)) (declared b i (u ++ y))
  declared_near b i u e =
      gap_name i u (λ m k j r. and_then (gap j r) (λ _ j3 r3. head_line b m j3 r3)) e
      (λ m k j r h. then_later n (gap j r) (λ _ j3 r3. head_line b m j3 r3) (gap_later n j r h) (λ _ j3 r3 h3. head_line_later b m j3 r3 h3))
      (λ m k j v q. gap_then j v (head_line b m) q (λ j3 r3 h3. head_line_later b m j3 r3 h3) (λ j3 v3 q3. head_line_near b m j3 v3 q3)
      (λ j3 q3. then_later n (byte 10 Gap j3 (36 ∷ x)) (λ _ j4 r4. head_last b m j4 r4) (byte_dollar n 10 j3 x q3) (λ _ j4 r4 h4. head_last_later b m j4 r4 h4)))

  edge_near : (i : ℕ) (u : List ℕ) → i + length u ≡ n → Near n x y (edge i (u ++ x)) (edge i (u ++ y))
  edge_near i u e =
      seq outputs _ i u (outputs_near i u e)
      (λ os j1 r1 h1. then_later n (gap j1 r1) _ (gap_later n j1 r1 h1) (λ _ j2 r2 h2. then_later n (name Gap j2 r2) _ (name_later n Gap j2 r2 h2) (λ w j3 r3 h3. after os w j3 r3 h3)))
      (λ os j1 v1 q1. gap_name j1 v1 _ q1 (λ m k j r h. after os m j r h)
      (λ m k j v q. seq inputs _ j v (inputs_near j v q) (λ is j4 r4 h4. last os m is j4 r4 h4)
      (λ is j4 v4 q4. seq (block BuildBlock) _ j4 v4 (block_near BuildBlock j4 v4 q4) (λ ls j5 r5 h5. h5) (λ ls j5 v5 q5. ok_near n x y _ j5 v5 q5))))
    where
      last : (os : Outs) (m : List ℕ) (is : Ins) (j : ℕ) (r : List ℕ) → n ≤ j → Later {A = Work} n (and_then (block BuildBlock j r) (λ ls j5 r5. ok (record { outs = os; rule = m; ins = is; lines = ls }) j5 r5))
      last os m is j r h = then_later n (block BuildBlock j r) _ (block_later n BuildBlock j r h) (λ ls j5 r5 h5. h5)

      after : (os : Outs) (m : List ℕ) (j : ℕ) (r : List ℕ) → n ≤ j → Later {A = Work} n (and_then (inputs j r) (λ is j4 r4. and_then (block BuildBlock j4 r4) (λ ls j5 r5. ok (record { outs = os; rule = m; ins = is; lines = ls }) j5 r5)))
      after os m j r h = then_later n (inputs j r) _ (inputs_later n j r h) (λ is j4 r4 h4. last os m is j4 r4 h4)

  by_word_near : (w : Word) (m : List ℕ) (k i : ℕ) (u : List ℕ) → i + length u ≡ n → Near n x y (by_word w m k i (u ++ x)) (by_word w m k i (u ++ y))
  by_word_near Plain m k i u e = seq (set_to m) _ i u (set_to_near m i u e) (λ _ j r h. h) (λ _ j v q. ok_near n x y _ j v q)
  by_word_near Rule m k i u e = seq (declared RuleBlock) _ i u (declared_near RuleBlock i u e) (λ _ j r h. h) (λ _ j v q. ok_near n x y _ j v q)
  by_word_near Pool m k i u e = seq (declared PoolBlock) _ i u (declared_near PoolBlock i u e) (λ _ j r h. h) (λ _ j v q. ok_near n x y _ j v q)
  by_word_near Build m k i u e = seq edge _ i u (edge_near i u e) (λ _ j r h. h) (λ _ j v q. ok_near n x y _ j v q)
  by_word_near LeftOut m k i u e = tt

  statement_near : (i : ℕ) (u : List ℕ) → i + length u ≡ n → Near n x y (statement i (u ++ x)) (statement i (u ++ y))
  statement_near i u e = seq (name Nothing) _ i u (name_near n x y Nothing i u e) (λ m j r h. by_word_later n (word_of m) m i j r h) (λ m j v q. by_word_near (word_of m) m i j v q)

  between_near : (d : Lead) (i : ℕ) (u : List ℕ) → i + length u ≡ n → Near n x y (between d i (u ++ x)) (between d i (u ++ y))
  between_near Ends i u e = ok_near n x y stop i u e
  between_near Flush i u e = ok_near n x y stop i u e
  between_near Blank i u e = ok_near n x y (more []) i u e
  between_near Remark i u e = ok_near n x y (more []) i u e
  between_near Indented i u e = inr refl

  skip_turn_near : (i : ℕ) (u : List ℕ) → i + length u ≡ n → Near n x y (skip_turn i (u ++ x)) (skip_turn i (u ++ y))
  skip_turn_near i u e = seq lead between i u (lead_near i u e) (λ d j r h. between_late d j r h) (λ d j v q. between_near d j v q)
    where
      between_late : (d : Lead) (j : ℕ) (r : List ℕ) → n ≤ j → Later n (between d j r)
      between_late Ends j r h = h
      between_late Flush j r h = h
      between_late Blank j r h = h
      between_late Remark j r h = h
      between_late Indented j r h = h

  at_start_near : (i : ℕ) (u : List ℕ) → i + length u ≡ n → Near n x y (at_start i (u ++ x)) (at_start i (u ++ y))
  at_start_near i [] e = later_near n x y (at_start i x) (at_start i y) (at_start_later n i x (omega arith))
  at_start_near i (b ∷ u) e = seq statement _ i (b ∷ u) (statement_near i (b ∷ u) e) (λ _ j r h. h) (λ _ j v q. ok_near n x y _ j v q)

  next_near : (i : ℕ) (u : List ℕ) → i + length u ≡ n → Near n x y (next i (u ++ x)) (next i (u ++ y))
  unfolding next
  next_near i u e =
      seq skipped _ i u (repeat_near skip_turn skip_turn_near (skip_turn_later n) skip_turn_moves i u [] e) (λ _ j r h. at_start_later n j r h) (λ _ j v q. at_start_near j v q)

  pub statements_near : (i : ℕ) (u : List ℕ) → i + length u ≡ n → Near n x y (statements i (u ++ x)) (statements i (u ++ y))
  statements_near i u e =
      repeat_near (each next) (each_near next next_near) (each_later n next (next_later n)) (each_moves next next_statement_moves) i u [] e
