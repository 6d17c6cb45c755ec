-- A reading finds no fault of the grammar past the end of its bytes, which is the place n.
use Rattle.std.proofs.Common.{◌≡◌, ℕ, zero, suc, ◌+◌, ◌≤◌, Bool, true, false, cond, ◌&&◌, ◌||◌, eqb, List, [], ◌∷◌, ◌++◌, length, Some, None, Option, arith, length-drop}
use Rattle.cursor.proofs.Steps.{name_within}
use Rattle.std.proofs.lemmas.Bool.{cond_both}
use Rattle.byteclass.specs.Words.{word_of}
use Rattle.byteclass.specs.declared.words.Word.{Word}
use Rattle.byteclass.specs.declared.words.Word.TheVariants.{Rule, Pool, Build, LeftOut, Plain}
use Rattle.cursor.specs.Scan.{Out, ok, bad, and_then, spot, opens, lack, name_len, name_of, name, spaces, gap, comment, byte, scan, value, escaped, stops, walk, path, any_path, next_path, needed, first_path, bar, pair, indented, flush, lead}
use Rattle.cursor.specs.declared.place.Fault.{Fault}
use Rattle.cursor.specs.declared.place.Fault.TheVariants.{TooLong, Banned, Syntax, Dollar, LeftOut as LeftOutAt}
use Rattle.cursor.specs.declared.place.Opens.{Opens}
use Rattle.cursor.specs.declared.place.Opens.TheVariants.{Nothing, Gap}
use Rattle.cursor.specs.declared.lines.Lead.{Lead}
use Rattle.cursor.specs.declared.lines.Lead.TheVariants.{Ends, Blank, Remark, Flush, Indented}
use Rattle.parts.specs.Many.{Turn, stop, more, turn, many, repeat, each}
use Rattle.parts.specs.Parts.{paths, some_paths, list_if, open_after, last_list, outputs, inputs, set_to, takes, setting, block_line, block_turn, block, between, skip_turn, skipped}
use Rattle.parts.specs.declared.kinds.Block.{Block}
use Rattle.parts.specs.declared.kinds.Block.TheVariants.{Rule as RuleBlock, Pool as PoolBlock, Build as BuildBlock}
use Rattle.text.specs.Text.{declared, edge, by_word, statement, at_start, next, statements}
use Rattle.text.proofs.Later.{inputs_after}

-- a fault of the grammar is not after n
abbrev pub WithinFault : ℕ → Fault → Type 0
WithinFault n TooLong = Unit {0}
WithinFault n (Banned p) = Unit {0}
WithinFault n (Syntax p) = p.byte ≤ n
WithinFault n (Dollar p) = Unit {0}
WithinFault n (LeftOutAt p) = Unit {0}

abbrev pub Within : {A : Type 0} → ℕ → Out A → Type 0
Within n (ok a j r) = j + length r ≡ n
Within n (bad f) = WithinFault n f

pub then_within : {A B : Type 0} (n : ℕ) (o : Out A) (f : A → ℕ → List ℕ → Out B) → Within n o → ((a : A) (j : ℕ) (r : List ℕ) → j + length r ≡ n → Within n (f a j r)) → Within n (and_then o f)
then_within n (ok a j r) f h k = k a j r h
then_within n (bad e) f h k = h

both : {A : Type 0} (n : ℕ) (t : Bool) (x y : Out A) → Within n x → Within n y → Within n (cond t x y)
both n t x y h k = cond_both t x y (Within n) (λ _. h) (λ _. k)

fault_both : (n : ℕ) (t : Bool) (x y : Fault) → WithinFault n x → WithinFault n y → WithinFault n (cond t x y)
fault_both n t x y h k = cond_both t x y (WithinFault n) (λ _. h) (λ _. k)

module _ (n : ℕ) where
  pub spaces_within : (i : ℕ) (s : List ℕ) → i + length s ≡ n → Within n (spaces i s)
  spaces_within i [] l = l
  spaces_within i (b ∷ s) l = both n (eqb b 32) _ _ (spaces_within (i + 1) s (omega arith)) l

  pub gap_within : (i : ℕ) (s : List ℕ) → i + length s ≡ n → Within n (gap i s)
  gap_within i [] l = l
  gap_within i (b ∷ []) l = both n (eqb b 32) (ok tt (i + 1) []) _ (omega arith) l
  gap_within i (b ∷ c ∷ s) l = both n (eqb b 32) _ _ (gap_within (i + 1) (c ∷ s) (omega arith)) (both n (eqb b 36 && eqb c 10) _ _ (gap_within (i + 2) s (omega arith)) l)

  pub comment_within : (i : ℕ) (s : List ℕ) → i + length s ≡ n → Within n (comment i s)
  comment_within i [] l = omega arith
  comment_within i (b ∷ s) l = both n (eqb b 10) (ok tt (i + 1) s) _ (omega arith) (comment_within (i + 1) s (omega arith))

  pub lack_within : (o : Opens) (i : ℕ) (s : List ℕ) → i + length s ≡ n → WithinFault n (lack o i s)
  lack_within o i [] l = omega arith
  lack_within o i (b ∷ s) l = fault_both n (opens o b) (Syntax (spot (i + 1))) (Syntax (spot i)) (omega arith) (omega arith)

  name_of_within : (o : Opens) (k i : ℕ) (s : List ℕ) → k ≤ length s → i + length s ≡ n → Within n (name_of o k i s)
  name_of_within o zero i s m l = lack_within o i s l
  name_of_within o (suc k) i s m l = omega (arith, length-drop (suc k) s)

  pub names_within : (o : Opens) (i : ℕ) (s : List ℕ) → i + length s ≡ n → Within n (name o i s)
  names_within o i s l = name_of_within o (name_len s) i s (name_within s) l

  pub byte_within : (k : ℕ) (o : Opens) (i : ℕ) (s : List ℕ) → i + length s ≡ n → Within n (byte k o i s)
  byte_within k o i [] l = omega arith
  byte_within k o i (b ∷ s) l = both n (eqb b k) (ok tt (i + 1) s) (bad (lack o i (b ∷ s))) (omega arith) (lack_within o i (b ∷ s) l)

  pub scan_within : (i : ℕ) (s : List ℕ) → i + length s ≡ n → Within n (scan i s)
  scan_within i [] l = omega arith
  scan_within i (b ∷ []) l = both n (eqb b 10) _ _ l (both n (eqb b 36) (bad (Dollar (spot i))) (bad (Syntax (spot (i + 1)))) tt (omega arith))
  scan_within i (b ∷ c ∷ s) l =
      both n (eqb b 10) _ _ l
      (both n (eqb b 36) _ _ (both n (escaped (c ∷ s)) _ (bad (Dollar (spot i))) (scan_within (i + 2) s (omega arith)) tt) (scan_within (i + 1) (c ∷ s) (omega arith)))

  pub value_within : (i : ℕ) (s : List ℕ) → i + length s ≡ n → Within n (value i s)
  value_within i s l = then_within n (scan i s) _ (scan_within i s l) (λ _ j r h. h)

  pub walk_within : (w : Bool) (i : ℕ) (s : List ℕ) → i + length s ≡ n → Within n (walk w i s)
  walk_within w i [] l = omega arith
  walk_within w i (b ∷ []) l =
      both n (w && eqb b 32) (bad (Syntax (spot (i + 1)))) _ (omega arith)
      (both n (stops b) _ _ l (both n (eqb b 36) (bad (Dollar (spot i))) (bad (Syntax (spot (i + 1)))) tt (omega arith)))
  walk_within w i (b ∷ c ∷ s) l =
      both n (w && eqb b 32) _ _ (walk_within true (i + 1) (c ∷ s) (omega arith))
      (both n (stops b) _ _ l
      (both n (eqb b 36) _ _ (both n (escaped (c ∷ s)) _ (bad (Dollar (spot i))) (walk_within (eqb c 10) (i + 2) s (omega arith)) tt) (walk_within false (i + 1) (c ∷ s) (omega arith))))

  pub any_path_within : (i : ℕ) (s : List ℕ) → i + length s ≡ n → Within n (any_path i s)
  any_path_within i [] l = l
  any_path_within i (b ∷ s) l =
      both n (stops b) _ _ l
      (then_within n (path i (b ∷ s)) _ (then_within n (walk false i (b ∷ s)) _ (walk_within false i (b ∷ s) l) (λ _ j r h. h)) (λ p j r h. h))

  pub next_path_within : (i : ℕ) (s : List ℕ) → i + length s ≡ n → Within n (next_path i s)
  next_path_within i s l = then_within n (gap i s) _ (gap_within i s l) (λ _ j r h. any_path_within j r h)

  pub needed_within : (o : Option (List ℕ)) (i : ℕ) (s : List ℕ) → i + length s ≡ n → Within n (needed o i s)
  needed_within None i s l = omega arith
  needed_within (Some p) i s l = l

  pub first_path_within : (i : ℕ) (s : List ℕ) → i + length s ≡ n → Within n (first_path i s)
  first_path_within i s l = then_within n (next_path i s) needed (next_path_within i s l) (λ o j r h. needed_within o j r h)

  pub bar_within : (i : ℕ) (s : List ℕ) → i + length s ≡ n → Within n (bar i s)
  bar_within i [] l = l
  bar_within i (b ∷ []) l = both n (eqb b 124) (ok true (i + 1) []) _ (omega arith) l
  bar_within i (b ∷ c ∷ s) l = both n (eqb b 124) _ _ (both n (eqb c 124 || eqb c 64) _ (ok true (i + 1) (c ∷ s)) l (omega arith)) l

  pub pair_within : (k i : ℕ) (s : List ℕ) → i + length s ≡ n → Within n (pair k i s)
  pair_within k i [] l = l
  pair_within k i (b ∷ []) l = l
  pair_within k i (b ∷ c ∷ s) l = both n (eqb b 124 && eqb c k) (ok true (i + 2) s) _ (omega arith) l

  remark_within : (i : ℕ) (s : List ℕ) → i + length s ≡ n → Within n (and_then (comment i s) (λ _ j r. ok Remark j r))
  remark_within i s l = then_within n (comment i s) _ (comment_within i s l) (λ _ j r h. h)

  pub indented_within : (i : ℕ) (s : List ℕ) → i + length s ≡ n → Within n (indented i s)
  indented_within i [] l = omega arith
  indented_within i (b ∷ s) l = both n (eqb b 10) (ok Blank (i + 1) s) _ (omega arith) (both n (eqb b 35) _ _ (remark_within i (b ∷ s) l) l)

  pub flush_within : (i : ℕ) (s : List ℕ) → i + length s ≡ n → Within n (flush i s)
  flush_within i [] l = l
  flush_within i (b ∷ s) l = both n (eqb b 10) (ok Blank (i + 1) s) _ (omega arith) (both n (eqb b 35) _ _ (remark_within i (b ∷ s) l) l)

  pub lead_within : (i : ℕ) (s : List ℕ) → i + length s ≡ n → Within n (lead i s)
  lead_within i [] l = l
  lead_within i (b ∷ s) l =
      both n (eqb b 32) _ _ (then_within n (spaces i (b ∷ s)) _ (spaces_within i (b ∷ s) l) (λ _ j r h. indented_within j r h)) (flush_within i (b ∷ s) l)

  pub turn_within : {E : Type 0} (t : Turn E) (es : List E) (j : ℕ) (r : List ℕ) (k : List E → Out (List E)) → j + length r ≡ n → ((fs : List E) → Within n (k fs)) → Within n (turn t es j r k)
  turn_within stop es j r k l h = l
  turn_within (more xs) es j r k l h = h (es ++ xs)

  pub many_within : {E : Type 0} (f : ℕ → List ℕ → Out (Turn E)) → ((i : ℕ) (s : List ℕ) → i + length s ≡ n → Within n (f i s)) → (k i : ℕ) (s : List ℕ) (es : List E) → i + length s ≡ n → Within n (many f k i s es)
  many_within f h zero i s es l = l
  many_within f h (suc k) i s es l = then_within n (f i s) _ (h i s l) (λ t j r m. turn_within t es j r _ m (λ fs. many_within f h k j r fs m))

  pub repeat_within : {E : Type 0} (f : ℕ → List ℕ → Out (Turn E)) → ((i : ℕ) (s : List ℕ) → i + length s ≡ n → Within n (f i s)) → (es : List E) (i : ℕ) (s : List ℕ) → i + length s ≡ n → Within n (repeat f es i s)
  unfolding repeat
  repeat_within f h es i s l = many_within f h (suc (length s)) i s es l

  pub each_within : {E : Type 0} (f : ℕ → List ℕ → Out (Option E)) → ((i : ℕ) (s : List ℕ) → i + length s ≡ n → Within n (f i s)) → (i : ℕ) (s : List ℕ) → i + length s ≡ n → Within n (each f i s)
  each_within f h i s l = then_within n (f i s) _ (h i s l) (λ o j r m. m)

  pub paths_within : (ps : List (List ℕ)) (i : ℕ) (s : List ℕ) → i + length s ≡ n → Within n (paths ps i s)
  paths_within ps i s l = repeat_within (each next_path) (each_within next_path next_path_within) ps i s l

  pub list_if_within : (m : Bool) (i : ℕ) (s : List ℕ) → i + length s ≡ n → Within n (list_if m i s)
  list_if_within true i s l = paths_within [] i s l
  list_if_within false i s l = l

  pub last_list_within : (k : ℕ) (m : Bool) (i : ℕ) (s : List ℕ) → i + length s ≡ n → Within n (last_list k m i s)
  last_list_within k m i s l = then_within n (list_if m i s) _ (list_if_within m i s l) (λ ps j r h. then_within n (byte k (open_after m) j r) _ (byte_within k (open_after m) j r h) (λ _ j2 r2 h2. h2))

  pub set_to_within : (v : List ℕ) (i : ℕ) (s : List ℕ) → i + length s ≡ n → Within n (set_to v i s)
  set_to_within v i s l =
      then_within n (gap i s) _ (gap_within i s l) (λ _ j1 r1 h1.
      then_within n (byte 61 Gap j1 r1) _ (byte_within 61 Gap j1 r1 h1) (λ _ j2 r2 h2.
      then_within n (gap j2 r2) _ (gap_within j2 r2 h2) (λ _ j3 r3 h3.
      then_within n (value j3 r3) _ (value_within j3 r3 h3) (λ w j4 r4 h4.
      then_within n (byte 10 Nothing j4 r4) _ (byte_within 10 Nothing j4 r4 h4) (λ _ j5 r5 h5. h5)))))

  pub setting_within : (b : Block) (i : ℕ) (s : List ℕ) → i + length s ≡ n → Within n (setting b i s)
  setting_within b i s l =
      then_within n (gap i s) _ (gap_within i s l) (λ _ j1 r1 h1.
      then_within n (name Gap j1 r1) _ (names_within Gap j1 r1 h1) (λ w j2 r2 h2.
      both n (takes b w) _ (bad (LeftOutAt (spot j1))) (set_to_within w j2 r2 h2) tt))

  pub block_line_within : (b : Block) (l : Lead) (i : ℕ) (s : List ℕ) → i + length s ≡ n → Within n (block_line b l i s)
  block_line_within b Ends i s l = l
  block_line_within b Blank i s l = l
  block_line_within b Flush i s l = l
  block_line_within b Remark i s l = l
  block_line_within b Indented i s l = then_within n (setting b i s) _ (setting_within b i s l) (λ e j r h. h)

  pub block_within : (b : Block) (i : ℕ) (s : List ℕ) → i + length s ≡ n → Within n (block b i s)
  block_within b i s l =
      repeat_within (block_turn b) (λ j t m. then_within n (lead j t) _ (lead_within j t m) (λ d k r h. block_line_within b d k r h)) [] i s l

  pub some_paths_within : (i : ℕ) (s : List ℕ) → i + length s ≡ n → Within n (some_paths i s)
  some_paths_within i s l = then_within n (first_path i s) _ (first_path_within i s l) (λ p j r h. paths_within (p ∷ []) j r h)

  pub outputs_within : (i : ℕ) (s : List ℕ) → i + length s ≡ n → Within n (outputs i s)
  outputs_within i s l =
      then_within n (some_paths i s) _ (some_paths_within i s l) (λ es j1 r1 h1.
      then_within n (bar j1 r1) _ (bar_within j1 r1 h1) (λ m j2 r2 h2.
      then_within n (last_list 58 m j2 r2) _ (last_list_within 58 m j2 r2 h2) (λ is j3 r3 h3. h3)))

  pub tail_within : (es : List (List ℕ)) (m : Bool) (i : ℕ) (s : List ℕ) → i + length s ≡ n → Within n (inputs_after es m i s)
  tail_within es m i s l =
      then_within n (list_if m i s) _ (list_if_within m i s l) (λ is j3 r3 h3.
      then_within n (pair 124 j3 r3) _ (pair_within 124 j3 r3 h3) (λ o j4 r4 h4.
      then_within n (list_if o j4 r4) _ (list_if_within o j4 r4 h4) (λ os j5 r5 h5.
      then_within n (pair 64 j5 r5) _ (pair_within 64 j5 r5 h5) (λ p j6 r6 h6.
      then_within n (last_list 10 p j6 r6) _ (last_list_within 10 p j6 r6 h6) (λ vs j7 r7 h7. h7)))))

  pub inputs_within : (i : ℕ) (s : List ℕ) → i + length s ≡ n → Within n (inputs i s)
  inputs_within i s l =
      then_within n (paths [] i s) _ (paths_within [] i s l) (λ es j1 r1 h1.
      then_within n (bar j1 r1) _ (bar_within j1 r1 h1) (λ m j2 r2 h2. tail_within es m j2 r2 h2))

  pub declared_within : (b : Block) (i : ℕ) (s : List ℕ) → i + length s ≡ n → Within n (declared b i s)
  declared_within b i s l =
      then_within n (gap i s) _ (gap_within i s l) (λ _ j1 r1 h1.
      then_within n (name Gap j1 r1) _ (names_within Gap j1 r1 h1) (λ w j2 r2 h2.
      then_within n (gap j2 r2) _ (gap_within j2 r2 h2) (λ _ j3 r3 h3.
      then_within n (byte 10 Gap j3 r3) _ (byte_within 10 Gap j3 r3 h3) (λ _ j4 r4 h4.
      then_within n (block b j4 r4) _ (block_within b j4 r4 h4) (λ ls j5 r5 h5. h5)))))

  pub edge_within : (i : ℕ) (s : List ℕ) → i + length s ≡ n → Within n (edge i s)
  edge_within i s l =
      then_within n (outputs i s) _ (outputs_within i s l) (λ os j1 r1 h1.
      then_within n (gap j1 r1) _ (gap_within j1 r1 h1) (λ _ j2 r2 h2.
      then_within n (name Gap j2 r2) _ (names_within Gap j2 r2 h2) (λ w j3 r3 h3.
      then_within n (inputs j3 r3) _ (inputs_within j3 r3 h3) (λ is j4 r4 h4.
      then_within n (block BuildBlock j4 r4) _ (block_within BuildBlock j4 r4 h4) (λ ls j5 r5 h5. h5)))))

  pub by_word_within : (w : Word) (m : List ℕ) (i j : ℕ) (r : List ℕ) → j + length r ≡ n → Within n (by_word w m i j r)
  by_word_within Plain m i j r l = then_within n (set_to m j r) _ (set_to_within m j r l) (λ _ k t h. h)
  by_word_within Rule m i j r l = then_within n (declared RuleBlock j r) _ (declared_within RuleBlock j r l) (λ _ k t h. h)
  by_word_within Pool m i j r l = then_within n (declared PoolBlock j r) _ (declared_within PoolBlock j r l) (λ _ k t h. h)
  by_word_within Build m i j r l = then_within n (edge j r) _ (edge_within j r l) (λ _ k t h. h)
  by_word_within LeftOut m i j r l = tt

  pub statement_within : (i : ℕ) (s : List ℕ) → i + length s ≡ n → Within n (statement i s)
  statement_within i s l = then_within n (name Nothing i s) _ (names_within Nothing i s l) (λ m j r h. by_word_within (word_of m) m i j r h)

  between_within : (d : Lead) (i : ℕ) (s : List ℕ) → i + length s ≡ n → Within n (between d i s)
  between_within Ends i s l = l
  between_within Flush i s l = l
  between_within Blank i s l = l
  between_within Remark i s l = l
  between_within Indented i s l = omega arith

  pub skip_turn_within : (i : ℕ) (s : List ℕ) → i + length s ≡ n → Within n (skip_turn i s)
  skip_turn_within i s l = then_within n (lead i s) between (lead_within i s l) (λ d j r h. between_within d j r h)

  pub at_start_within : (i : ℕ) (s : List ℕ) → i + length s ≡ n → Within n (at_start i s)
  at_start_within i [] l = l
  at_start_within i (b ∷ s) l = then_within n (statement i (b ∷ s)) _ (statement_within i (b ∷ s) l) (λ _ j r h. h)

  pub next_within : (i : ℕ) (s : List ℕ) → i + length s ≡ n → Within n (next i s)
  unfolding next
  next_within i s l =
      then_within n (skipped i s) _ (repeat_within skip_turn skip_turn_within [] i s l) (λ _ j r h. at_start_within j r h)

  pub statements_within : (i : ℕ) (s : List ℕ) → i + length s ≡ n → Within n (statements i s)
  statements_within i s l = repeat_within (each next) (each_within next next_within) [] i s l
