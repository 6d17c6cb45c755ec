-- A reading that begins at or after n neither ends nor finds a byte at fault before n.
use Rattle.std.proofs.Common.{ℕ, zero, suc, ◌+◌, ◌≤◌, Bool, true, false, cond, ◌&&◌, ◌||◌, eqb, List, [], ◌∷◌, ◌++◌, length, Some, None, Option, arith}
use Rattle.std.proofs.lemmas.Bool.{cond_both}
use Rattle.byteclass.specs.Words.{word_of}
use Rattle.byteclass.specs.declared.words.Word.{Word}
use Rattle.byteclass.specs.declared.words.Word.TheVariants.{Rule, Pool, Build, LeftOut, Plain}
use Rattle.cursor.specs.Scan.{Out, ok, bad, and_then, spot, opens, lack, name_len, name_of, name, spaces, gap, comment, byte, scan, value, escaped, stops, walk, path, any_path, next_path, needed, first_path, bar, pair, indented, flush, lead}
use Rattle.cursor.specs.declared.place.Fault.{Fault}
use Rattle.cursor.specs.declared.place.Fault.TheVariants.{TooLong, Banned, Syntax, Dollar, LeftOut as LeftOutAt}
use Rattle.cursor.specs.declared.place.Opens.{Opens}
use Rattle.cursor.specs.declared.place.Opens.TheVariants.{Nothing, Gap}
use Rattle.cursor.specs.declared.lines.Lead.{Lead}
use Rattle.cursor.specs.declared.lines.Lead.TheVariants.{Ends, Blank, Remark, Flush, Indented}
use Rattle.parts.specs.Many.{Turn, stop, more, turn, many, repeat, each}
use Rattle.parts.specs.Parts.{Ins, paths, some_paths, list_if, open_after, last_list, outputs, inputs, set_to, takes, setting, block_line, block_turn, block, between, skip_turn, skipped}
use Rattle.parts.specs.declared.kinds.Block.{Block}
use Rattle.parts.specs.declared.kinds.Block.TheVariants.{Rule as RuleBlock, Pool as PoolBlock, Build as BuildBlock}
use Rattle.text.specs.Text.{declared, edge, by_word, statement, at_start, next}

-- a fault of the grammar is not before n
abbrev pub LateFault : ℕ → Fault → Type 0
LateFault n TooLong = Unit {0}
LateFault n (Banned p) = Unit {0}
LateFault n (Syntax p) = n ≤ p.byte
LateFault n (Dollar p) = Unit {0}
LateFault n (LeftOutAt p) = Unit {0}

abbrev pub Later : {A : Type 0} → ℕ → Out A → Type 0
Later n (ok a j r) = n ≤ j
Later n (bad f) = LateFault n f

pub then_later : {A B : Type 0} (n : ℕ) (o : Out A) (f : A → ℕ → List ℕ → Out B) → Later n o → ((a : A) (j : ℕ) (r : List ℕ) → n ≤ j → Later n (f a j r)) → Later n (and_then o f)
then_later n (ok a j r) f h k = k a j r h
then_later n (bad e) f h k = h

both : {A : Type 0} (n : ℕ) (t : Bool) (x y : Out A) → Later n x → Later n y → Later n (cond t x y)
both n t x y h k = cond_both t x y (Later n) (λ _. h) (λ _. k)

fault_both : (n : ℕ) (t : Bool) (x y : Fault) → LateFault n x → LateFault n y → LateFault n (cond t x y)
fault_both n t x y h k = cond_both t x y (LateFault n) (λ _. h) (λ _. k)

-- the inputs after the explicit ones, es, and the mark m
abbrev pub inputs_after : List (List ℕ) → Bool → ℕ → List ℕ → Out Ins
inputs_after es m i s =
    and_then (list_if m i s) (λ is j3 r3.
    and_then (pair 124 j3 r3) (λ n j4 r4.
    and_then (list_if n j4 r4) (λ os j5 r5.
    and_then (pair 64 j5 r5) (λ l j6 r6.
    and_then (last_list 10 l j6 r6) (λ vs j7 r7. ok (record { explicit = es; implicit = is; order_only = os; validations = vs }) j7 r7)))))

module _ (n : ℕ) where
  pub spaces_later : (i : ℕ) (s : List ℕ) → n ≤ i → Later n (spaces i s)
  spaces_later i [] l = l
  spaces_later i (b ∷ s) l = both n (eqb b 32) _ _ (spaces_later (i + 1) s (omega arith)) l

  pub gap_later : (i : ℕ) (s : List ℕ) → n ≤ i → Later n (gap i s)
  gap_later i [] l = l
  gap_later i (b ∷ []) l = both n (eqb b 32) (ok tt (i + 1) []) _ (omega arith) l
  gap_later i (b ∷ c ∷ s) l = both n (eqb b 32) _ _ (gap_later (i + 1) (c ∷ s) (omega arith)) (both n (eqb b 36 && eqb c 10) _ _ (gap_later (i + 2) s (omega arith)) l)

  pub comment_later : (i : ℕ) (s : List ℕ) → n ≤ i → Later n (comment i s)
  comment_later i [] l = l
  comment_later i (b ∷ s) l = both n (eqb b 10) (ok tt (i + 1) s) _ (omega arith) (comment_later (i + 1) s (omega arith))

  pub lack_later : (o : Opens) (i : ℕ) (s : List ℕ) → n ≤ i → LateFault n (lack o i s)
  lack_later o i [] l = l
  lack_later o i (b ∷ s) l = fault_both n (opens o b) (Syntax (spot (i + 1))) (Syntax (spot i)) (omega arith) l

  name_of_later : (o : Opens) (k i : ℕ) (s : List ℕ) → n ≤ i → Later n (name_of o k i s)
  name_of_later o zero i s l = lack_later o i s l
  name_of_later o (suc k) i s l = omega arith

  pub name_later : (o : Opens) (i : ℕ) (s : List ℕ) → n ≤ i → Later n (name o i s)
  name_later o i s l = name_of_later o (name_len s) i s l

  pub byte_later : (k : ℕ) (o : Opens) (i : ℕ) (s : List ℕ) → n ≤ i → Later n (byte k o i s)
  byte_later k o i [] l = l
  byte_later k o i (b ∷ s) l = both n (eqb b k) (ok tt (i + 1) s) (bad (lack o i (b ∷ s))) (omega arith) (lack_later o i (b ∷ s) l)

  pub scan_later : (i : ℕ) (s : List ℕ) → n ≤ i → Later n (scan i s)
  scan_later i [] l = l
  scan_later i (b ∷ []) l = both n (eqb b 10) _ _ l (both n (eqb b 36) (bad (Dollar (spot i))) (bad (Syntax (spot (i + 1)))) tt (omega arith))
  scan_later i (b ∷ c ∷ s) l =
      both n (eqb b 10) _ _ l
      (both n (eqb b 36) _ _ (both n (escaped (c ∷ s)) _ (bad (Dollar (spot i))) (scan_later (i + 2) s (omega arith)) tt) (scan_later (i + 1) (c ∷ s) (omega arith)))

  pub value_later : (i : ℕ) (s : List ℕ) → n ≤ i → Later n (value i s)
  value_later i s l = then_later n (scan i s) _ (scan_later i s l) (λ _ j r h. h)

  pub walk_later : (w : Bool) (i : ℕ) (s : List ℕ) → n ≤ i → Later n (walk w i s)
  walk_later w i [] l = l
  walk_later w i (b ∷ []) l =
      both n (w && eqb b 32) (bad (Syntax (spot (i + 1)))) _ (omega arith)
      (both n (stops b) _ _ l (both n (eqb b 36) (bad (Dollar (spot i))) (bad (Syntax (spot (i + 1)))) tt (omega arith)))
  walk_later w i (b ∷ c ∷ s) l =
      both n (w && eqb b 32) _ _ (walk_later true (i + 1) (c ∷ s) (omega arith))
      (both n (stops b) _ _ l
      (both n (eqb b 36) _ _ (both n (escaped (c ∷ s)) _ (bad (Dollar (spot i))) (walk_later (eqb c 10) (i + 2) s (omega arith)) tt) (walk_later false (i + 1) (c ∷ s) (omega arith))))

  pub any_path_later : (i : ℕ) (s : List ℕ) → n ≤ i → Later n (any_path i s)
  any_path_later i [] l = l
  any_path_later i (b ∷ s) l =
      both n (stops b) _ _ l
      (then_later n (path i (b ∷ s)) _ (then_later n (walk false i (b ∷ s)) _ (walk_later false i (b ∷ s) l) (λ _ j r h. h)) (λ p j r h. h))

  pub next_path_later : (i : ℕ) (s : List ℕ) → n ≤ i → Later n (next_path i s)
  next_path_later i s l = then_later n (gap i s) _ (gap_later i s l) (λ _ j r h. any_path_later j r h)

  pub needed_later : (o : Option (List ℕ)) (i : ℕ) (s : List ℕ) → n ≤ i → Later n (needed o i s)
  needed_later None i s l = l
  needed_later (Some p) i s l = l

  pub first_path_later : (i : ℕ) (s : List ℕ) → n ≤ i → Later n (first_path i s)
  first_path_later i s l = then_later n (next_path i s) needed (next_path_later i s l) (λ o j r h. needed_later o j r h)

  pub bar_later : (i : ℕ) (s : List ℕ) → n ≤ i → Later n (bar i s)
  bar_later i [] l = l
  bar_later i (b ∷ []) l = both n (eqb b 124) (ok true (i + 1) []) _ (omega arith) l
  bar_later i (b ∷ c ∷ s) l = both n (eqb b 124) _ _ (both n (eqb c 124 || eqb c 64) _ (ok true (i + 1) (c ∷ s)) l (omega arith)) l

  pub pair_later : (k i : ℕ) (s : List ℕ) → n ≤ i → Later n (pair k i s)
  pair_later k i [] l = l
  pair_later k i (b ∷ []) l = l
  pair_later k i (b ∷ c ∷ s) l = both n (eqb b 124 && eqb c k) (ok true (i + 2) s) _ (omega arith) l

  remark_later : (i : ℕ) (s : List ℕ) → n ≤ i → Later n (and_then (comment i s) (λ _ j r. ok Remark j r))
  remark_later i s l = then_later n (comment i s) _ (comment_later i s l) (λ _ j r h. h)

  pub indented_later : (i : ℕ) (s : List ℕ) → n ≤ i → Later n (indented i s)
  indented_later i [] l = l
  indented_later i (b ∷ s) l = both n (eqb b 10) (ok Blank (i + 1) s) _ (omega arith) (both n (eqb b 35) _ _ (remark_later i (b ∷ s) l) l)

  pub flush_later : (i : ℕ) (s : List ℕ) → n ≤ i → Later n (flush i s)
  flush_later i [] l = l
  flush_later i (b ∷ s) l = both n (eqb b 10) (ok Blank (i + 1) s) _ (omega arith) (both n (eqb b 35) _ _ (remark_later i (b ∷ s) l) l)

  pub lead_later : (i : ℕ) (s : List ℕ) → n ≤ i → Later n (lead i s)
  lead_later i [] l = l
  lead_later i (b ∷ s) l =
      both n (eqb b 32) _ _ (then_later n (spaces i (b ∷ s)) _ (spaces_later i (b ∷ s) l) (λ _ j r h. indented_later j r h)) (flush_later i (b ∷ s) l)

  pub turn_later : {E : Type 0} (t : Turn E) (es : List E) (j : ℕ) (r : List ℕ) (k : List E → Out (List E)) → n ≤ j → ((fs : List E) → Later n (k fs)) → Later n (turn t es j r k)
  turn_later stop es j r k l h = l
  turn_later (more xs) es j r k l h = h (es ++ xs)

  pub many_later : {E : Type 0} (f : ℕ → List ℕ → Out (Turn E)) → ((i : ℕ) (s : List ℕ) → n ≤ i → Later n (f i s)) → (k i : ℕ) (s : List ℕ) (es : List E) → n ≤ i → Later n (many f k i s es)
  many_later f h zero i s es l = l
  many_later f h (suc k) i s es l = then_later n (f i s) _ (h i s l) (λ t j r m. turn_later t es j r _ m (λ fs. many_later f h k j r fs m))

  pub repeat_later : {E : Type 0} (f : ℕ → List ℕ → Out (Turn E)) → ((i : ℕ) (s : List ℕ) → n ≤ i → Later n (f i s)) → (es : List E) (i : ℕ) (s : List ℕ) → n ≤ i → Later n (repeat f es i s)
  unfolding repeat
  repeat_later f h es i s l = many_later f h (suc (length s)) i s es l

  pub each_later : {E : Type 0} (f : ℕ → List ℕ → Out (Option E)) → ((i : ℕ) (s : List ℕ) → n ≤ i → Later n (f i s)) → (i : ℕ) (s : List ℕ) → n ≤ i → Later n (each f i s)
  each_later f h i s l = then_later n (f i s) _ (h i s l) (λ o j r m. m)

  pub paths_later : (ps : List (List ℕ)) (i : ℕ) (s : List ℕ) → n ≤ i → Later n (paths ps i s)
  paths_later ps i s l = repeat_later (each next_path) (each_later next_path next_path_later) ps i s l

  pub list_if_later : (m : Bool) (i : ℕ) (s : List ℕ) → n ≤ i → Later n (list_if m i s)
  list_if_later true i s l = paths_later [] i s l
  list_if_later false i s l = l

  pub last_list_later : (k : ℕ) (m : Bool) (i : ℕ) (s : List ℕ) → n ≤ i → Later n (last_list k m i s)
  last_list_later k m i s l = then_later n (list_if m i s) _ (list_if_later m i s l) (λ ps j r h. then_later n (byte k (open_after m) j r) _ (byte_later k (open_after m) j r h) (λ _ j2 r2 h2. h2))

  pub set_to_later : (v : List ℕ) (i : ℕ) (s : List ℕ) → n ≤ i → Later n (set_to v i s)
  set_to_later v i s l =
      then_later n (gap i s) _ (gap_later i s l) (λ _ j1 r1 h1.
      then_later n (byte 61 Gap j1 r1) _ (byte_later 61 Gap j1 r1 h1) (λ _ j2 r2 h2.
      then_later n (gap j2 r2) _ (gap_later j2 r2 h2) (λ _ j3 r3 h3.
      then_later n (value j3 r3) _ (value_later j3 r3 h3) (λ w j4 r4 h4.
      then_later n (byte 10 Nothing j4 r4) _ (byte_later 10 Nothing j4 r4 h4) (λ _ j5 r5 h5. h5)))))

  pub setting_later : (b : Block) (i : ℕ) (s : List ℕ) → n ≤ i → Later n (setting b i s)
  setting_later b i s l =
      then_later n (gap i s) _ (gap_later i s l) (λ _ j1 r1 h1.
      then_later n (name Gap j1 r1) _ (name_later Gap j1 r1 h1) (λ w j2 r2 h2.
      both n (takes b w) _ (bad (LeftOutAt (spot j1))) (set_to_later w j2 r2 h2) tt))

  pub block_line_later : (b : Block) (l : Lead) (i : ℕ) (s : List ℕ) → n ≤ i → Later n (block_line b l i s)
  block_line_later b Ends i s l = l
  block_line_later b Blank i s l = l
  block_line_later b Flush i s l = l
  block_line_later b Remark i s l = l
  block_line_later b Indented i s l = then_later n (setting b i s) _ (setting_later b i s l) (λ e j r h. h)

  pub block_later : (b : Block) (i : ℕ) (s : List ℕ) → n ≤ i → Later n (block b i s)
  block_later b i s l =
      repeat_later (block_turn b) (λ j t m. then_later n (lead j t) _ (lead_later j t m) (λ d k r h. block_line_later b d k r h)) [] i s l

  pub some_paths_later : (i : ℕ) (s : List ℕ) → n ≤ i → Later n (some_paths i s)
  some_paths_later i s l = then_later n (first_path i s) _ (first_path_later i s l) (λ p j r h. paths_later (p ∷ []) j r h)

  pub outputs_later : (i : ℕ) (s : List ℕ) → n ≤ i → Later n (outputs i s)
  outputs_later i s l =
      then_later n (some_paths i s) _ (some_paths_later i s l) (λ es j1 r1 h1.
      then_later n (bar j1 r1) _ (bar_later j1 r1 h1) (λ m j2 r2 h2.
      then_later n (last_list 58 m j2 r2) _ (last_list_later 58 m j2 r2 h2) (λ is j3 r3 h3. h3)))

  pub tail_later : (es : List (List ℕ)) (m : Bool) (i : ℕ) (s : List ℕ) → n ≤ i → Later n (inputs_after es m i s)
  tail_later es m i s l =
      then_later n (list_if m i s) _ (list_if_later m i s l) (λ is j3 r3 h3.
      then_later n (pair 124 j3 r3) _ (pair_later 124 j3 r3 h3) (λ o j4 r4 h4.
      then_later n (list_if o j4 r4) _ (list_if_later o j4 r4 h4) (λ os j5 r5 h5.
      then_later n (pair 64 j5 r5) _ (pair_later 64 j5 r5 h5) (λ p j6 r6 h6.
      then_later n (last_list 10 p j6 r6) _ (last_list_later 10 p j6 r6 h6) (λ vs j7 r7 h7. h7)))))

  pub inputs_later : (i : ℕ) (s : List ℕ) → n ≤ i → Later n (inputs i s)
  inputs_later i s l =
      then_later n (paths [] i s) _ (paths_later [] i s l) (λ es j1 r1 h1.
      then_later n (bar j1 r1) _ (bar_later j1 r1 h1) (λ m j2 r2 h2. tail_later es m j2 r2 h2))

  pub declared_later : (b : Block) (i : ℕ) (s : List ℕ) → n ≤ i → Later n (declared b i s)
  declared_later b i s l =
      then_later n (gap i s) _ (gap_later i s l) (λ _ j1 r1 h1.
      then_later n (name Gap j1 r1) _ (name_later Gap j1 r1 h1) (λ w j2 r2 h2.
      then_later n (gap j2 r2) _ (gap_later j2 r2 h2) (λ _ j3 r3 h3.
      then_later n (byte 10 Gap j3 r3) _ (byte_later 10 Gap j3 r3 h3) (λ _ j4 r4 h4.
      then_later n (block b j4 r4) _ (block_later b j4 r4 h4) (λ ls j5 r5 h5. h5)))))

  pub edge_later : (i : ℕ) (s : List ℕ) → n ≤ i → Later n (edge i s)
  edge_later i s l =
      then_later n (outputs i s) _ (outputs_later i s l) (λ os j1 r1 h1.
      then_later n (gap j1 r1) _ (gap_later j1 r1 h1) (λ _ j2 r2 h2.
      then_later n (name Gap j2 r2) _ (name_later Gap j2 r2 h2) (λ w j3 r3 h3.
      then_later n (inputs j3 r3) _ (inputs_later j3 r3 h3) (λ is j4 r4 h4.
      then_later n (block BuildBlock j4 r4) _ (block_later BuildBlock j4 r4 h4) (λ ls j5 r5 h5. h5)))))

  pub by_word_later : (w : Word) (m : List ℕ) (i j : ℕ) (r : List ℕ) → n ≤ j → Later n (by_word w m i j r)
  by_word_later Plain m i j r l = then_later n (set_to m j r) _ (set_to_later m j r l) (λ _ k t h. h)
  by_word_later Rule m i j r l = then_later n (declared RuleBlock j r) _ (declared_later RuleBlock j r l) (λ _ k t h. h)
  by_word_later Pool m i j r l = then_later n (declared PoolBlock j r) _ (declared_later PoolBlock j r l) (λ _ k t h. h)
  by_word_later Build m i j r l = then_later n (edge j r) _ (edge_later j r l) (λ _ k t h. h)
  by_word_later LeftOut m i j r l = tt

  pub statement_later : (i : ℕ) (s : List ℕ) → n ≤ i → Later n (statement i s)
  statement_later i s l = then_later n (name Nothing i s) _ (name_later Nothing i s l) (λ m j r h. by_word_later (word_of m) m i j r h)

  between_later : (d : Lead) (i : ℕ) (s : List ℕ) → n ≤ i → Later n (between d i s)
  between_later Ends i s l = l
  between_later Flush i s l = l
  between_later Blank i s l = l
  between_later Remark i s l = l
  between_later Indented i s l = l

  pub skip_turn_later : (i : ℕ) (s : List ℕ) → n ≤ i → Later n (skip_turn i s)
  skip_turn_later i s l = then_later n (lead i s) between (lead_later i s l) (λ d j r h. between_later d j r h)

  pub at_start_later : (i : ℕ) (s : List ℕ) → n ≤ i → Later n (at_start i s)
  at_start_later i [] l = l
  at_start_later i (b ∷ s) l = then_later n (statement i (b ∷ s)) _ (statement_later i (b ∷ s) l) (λ _ j r h. h)

  pub next_later : (i : ℕ) (s : List ℕ) → n ≤ i → Later n (next i s)
  unfolding next
  next_later i s l =
      then_later n (skipped i s) _ (repeat_later skip_turn skip_turn_later [] i s l) (λ _ j r h. at_start_later j r h)
