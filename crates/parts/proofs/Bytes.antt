-- The parts of statements consist of bytes of what is read: what holds of each byte there holds of each byte in every name, value and path.
use Rattle.std.proofs.Common.{ℕ, zero, suc, Bool, true, false, List, [], ◌∷◌, ◌++◌, length, Some, None, Option}
use Rattle.std.specs.List.{AllByRecursion as All}
use Rattle.std.proofs.ByRecursion.{All-append}
use Rattle.cursor.specs.Scan.{Out, bad, gap, byte, name, value, next_path, first_path, bar, pair, lead}
use Rattle.cursor.specs.declared.place.Opens.TheVariants.{Gap, Nothing}
use Rattle.cursor.specs.declared.lines.Lead.{Lead}
use Rattle.cursor.specs.declared.lines.Lead.TheVariants.{Ends, Blank, Remark, Flush, Indented}
use Rattle.cursor.proofs.Bytes.{Free, AllSome, Keeps, then_keeps, either_keeps, gap_bytes, byte_bytes, name_bytes, value_bytes, next_path_bytes, first_path_bytes, bar_bytes, pair_bytes, lead_bytes}
use Rattle.parts.specs.declared.kinds.Block.{Block}
use Rattle.parts.specs.Many.{Turn, stop, more, turn, turn_of, many, repeat, each}
use Rattle.parts.specs.Parts.{Entry, Outs, Ins, paths, some_paths, list_if, open_after, last_list, outputs, inputs, set_to, takes, setting, block_line, block_turn, block, between, skip_turn, skipped}

-- Q holds of each element that a reading adds
abbrev pub AllTurn : {E : Type 0} → (E → Type 0) → Turn E → Type 0
AllTurn Q stop = Unit {0}
AllTurn Q (more xs) = All Q xs

module _ (P : ℕ → Type 0) where
  -- P holds of each byte of a name and its value
  pub record AllEntry (e : Entry) : Type 0 where
    pub name : All P e.name
    pub value : All P e.value

  -- P holds of each byte of the outputs
  pub record AllOuts (o : Outs) : Type 0 where
    pub explicit : All (All P) o.explicit
    pub implicit : All (All P) o.implicit

  -- P holds of each byte of the inputs
  pub record AllIns (o : Ins) : Type 0 where
    pub explicit : All (All P) o.explicit
    pub implicit : All (All P) o.implicit
    pub order_only : All (All P) o.order_only
    pub validations : All (All P) o.validations

  module _ {E : Type 0} (Q : E → Type 0) where
    turn_bytes : (t : Turn E) (es : List E) (j : ℕ) (r : List ℕ) (k : List E → Out (List E)) → AllTurn Q t → All Q es → All P r → ((fs : List E) → All Q fs → Keeps P (All Q) (k fs)) → Keeps P (All Q) (turn t es j r k)
    turn_bytes stop es j r k u g h m = (g, h)
    turn_bytes (more xs) es j r k u g h m = m (es ++ xs) (All-append Q es xs g u)

    many_bytes : (f : ℕ → List ℕ → Out (Turn E)) → ((i : ℕ) (s : List ℕ) → All P s → Keeps P (AllTurn Q) (f i s)) → (n i : ℕ) (s : List ℕ) (es : List E) → All Q es → All P s → Keeps P (All Q) (many f n i s es)
    many_bytes f keeps zero i s es g h = (g, h)
    many_bytes f keeps (suc n) i s es g h =
        then_keeps P (AllTurn Q) (All Q) (f i s) _ (keeps i s h) (λ t j r u k.
        turn_bytes t es j r _ u g k (λ fs w. many_bytes f keeps n j r fs w k))

    pub repeat_bytes : (f : ℕ → List ℕ → Out (Turn E)) → ((i : ℕ) (s : List ℕ) → All P s → Keeps P (AllTurn Q) (f i s)) → (es : List E) (i : ℕ) (s : List ℕ) → All Q es → All P s → Keeps P (All Q) (repeat f es i s)
    unfolding repeat
    repeat_bytes f keeps es i s g h = many_bytes f keeps (suc (length s)) i s es g h

    turn_of_bytes : (o : Option E) → AllSome Q o → AllTurn Q (turn_of o)
    turn_of_bytes None u = tt
    turn_of_bytes (Some x) u = (u, tt)

    pub each_bytes : (f : ℕ → List ℕ → Out (Option E)) → ((i : ℕ) (s : List ℕ) → All P s → Keeps P (AllSome Q) (f i s)) → (i : ℕ) (s : List ℕ) → All P s → Keeps P (AllTurn Q) (each f i s)
    each_bytes f keeps i s h = then_keeps P (AllSome Q) (AllTurn Q) (f i s) _ (keeps i s h) (λ o j r u k. (turn_of_bytes o u, k))

  paths_bytes : (ps : List (List ℕ)) (i : ℕ) (s : List ℕ) → All (All P) ps → All P s → Keeps P (All (All P)) (paths ps i s)
  paths_bytes ps i s g h = repeat_bytes (All P) (each next_path) (each_bytes (All P) next_path (next_path_bytes P)) ps i s g h

  some_paths_bytes : (i : ℕ) (s : List ℕ) → All P s → Keeps P (All (All P)) (some_paths i s)
  some_paths_bytes i s h =
      then_keeps P (All P) (All (All P)) (first_path i s) _ (first_path_bytes P i s h) (λ p j r u k. paths_bytes (p ∷ []) j r (u, tt) k)

  list_if_bytes : (m : Bool) (i : ℕ) (s : List ℕ) → All P s → Keeps P (All (All P)) (list_if m i s)
  list_if_bytes true i s h = paths_bytes [] i s tt h
  list_if_bytes false i s h = (tt, h)

  last_list_bytes : (k : ℕ) (m : Bool) (i : ℕ) (s : List ℕ) → All P s → Keeps P (All (All P)) (last_list k m i s)
  last_list_bytes k m i s h =
      then_keeps P (All (All P)) (All (All P)) (list_if m i s) _ (list_if_bytes m i s h) (λ ps j1 r1 u h1.
      then_keeps P Free (All (All P)) (byte k (open_after m) j1 r1) _ (byte_bytes P k (open_after m) j1 r1 h1) (λ _ j2 r2 _ h2. (u, h2)))

  pub outputs_bytes : (i : ℕ) (s : List ℕ) → All P s → Keeps P AllOuts (outputs i s)
  outputs_bytes i s h =
      then_keeps P (All (All P)) AllOuts (some_paths i s) _ (some_paths_bytes i s h) (λ es j1 r1 u1 h1.
      then_keeps P Free AllOuts (bar j1 r1) _ (bar_bytes P j1 r1 h1) (λ m j2 r2 _ h2.
      then_keeps P (All (All P)) AllOuts (last_list 58 m j2 r2) _ (last_list_bytes 58 m j2 r2 h2) (λ is j3 r3 u3 h3.
      (record { explicit = u1; implicit = u3 }, h3))))

  pub inputs_bytes : (i : ℕ) (s : List ℕ) → All P s → Keeps P AllIns (inputs i s)
  inputs_bytes i s h =
      then_keeps P (All (All P)) AllIns (paths [] i s) _ (paths_bytes [] i s tt h) (λ es j1 r1 u1 h1.
      then_keeps P Free AllIns (bar j1 r1) _ (bar_bytes P j1 r1 h1) (λ m j2 r2 _ h2.
      then_keeps P (All (All P)) AllIns (list_if m j2 r2) _ (list_if_bytes m j2 r2 h2) (λ is j3 r3 u3 h3.
      then_keeps P Free AllIns (pair 124 j3 r3) _ (pair_bytes P 124 j3 r3 h3) (λ n j4 r4 _ h4.
      then_keeps P (All (All P)) AllIns (list_if n j4 r4) _ (list_if_bytes n j4 r4 h4) (λ os j5 r5 u5 h5.
      then_keeps P Free AllIns (pair 64 j5 r5) _ (pair_bytes P 64 j5 r5 h5) (λ l j6 r6 _ h6.
      then_keeps P (All (All P)) AllIns (last_list 10 l j6 r6) _ (last_list_bytes 10 l j6 r6 h6) (λ vs j7 r7 u7 h7.
      (record { explicit = u1; implicit = u3; order_only = u5; validations = u7 }, h7))))))))

  pub set_to_bytes : (n : List ℕ) (i : ℕ) (s : List ℕ) → All P n → All P s → Keeps P AllEntry (set_to n i s)
  set_to_bytes n i s u h =
      then_keeps P Free AllEntry (gap i s) _ (gap_bytes P i s h) (λ _ j1 r1 _ h1.
      then_keeps P Free AllEntry (byte 61 Gap j1 r1) _ (byte_bytes P 61 Gap j1 r1 h1) (λ _ j2 r2 _ h2.
      then_keeps P Free AllEntry (gap j2 r2) _ (gap_bytes P j2 r2 h2) (λ _ j3 r3 _ h3.
      then_keeps P (All P) AllEntry (value j3 r3) _ (value_bytes P j3 r3 h3) (λ v j4 r4 u4 h4.
      then_keeps P Free AllEntry (byte 10 Nothing j4 r4) _ (byte_bytes P 10 Nothing j4 r4 h4) (λ _ j5 r5 _ h5.
      (record { name = u; value = u4 }, h5))))))

  setting_bytes : (b : Block) (i : ℕ) (s : List ℕ) → All P s → Keeps P AllEntry (setting b i s)
  setting_bytes b i s h =
      then_keeps P Free AllEntry (gap i s) _ (gap_bytes P i s h) (λ _ j1 r1 _ h1.
      then_keeps P (All P) AllEntry (name Gap j1 r1) _ (name_bytes P Gap j1 r1 h1) (λ n j2 r2 u2 h2.
      either_keeps P AllEntry (takes b n) (set_to n j2 r2) (bad _) (set_to_bytes n j2 r2 u2 h2) tt))

  block_line_bytes : (b : Block) (l : Lead) (i : ℕ) (s : List ℕ) → All P s → Keeps P (AllTurn AllEntry) (block_line b l i s)
  block_line_bytes b Ends i s h = (tt, h)
  block_line_bytes b Blank i s h = (tt, h)
  block_line_bytes b Flush i s h = (tt, h)
  block_line_bytes b Remark i s h = (tt, h)
  block_line_bytes b Indented i s h =
      then_keeps P AllEntry (AllTurn AllEntry) (setting b i s) _ (setting_bytes b i s h) (λ e j r u k. ((u, tt), k))

  block_turn_bytes : (b : Block) (i : ℕ) (s : List ℕ) → All P s → Keeps P (AllTurn AllEntry) (block_turn b i s)
  block_turn_bytes b i s h =
      then_keeps P Free (AllTurn AllEntry) (lead i s) _ (lead_bytes P i s h) (λ l j r _ k. block_line_bytes b l j r k)

  pub block_bytes : (b : Block) (i : ℕ) (s : List ℕ) → All P s → Keeps P (All AllEntry) (block b i s)
  block_bytes b i s h = repeat_bytes AllEntry (block_turn b) (block_turn_bytes b) [] i s tt h

  between_bytes : (l : Lead) (i : ℕ) (s : List ℕ) → All P s → Keeps P (AllTurn Free) (between l i s)
  between_bytes Ends i s h = (tt, h)
  between_bytes Blank i s h = (tt, h)
  between_bytes Flush i s h = (tt, h)
  between_bytes Remark i s h = (tt, h)
  between_bytes Indented i s h = tt

  skip_turn_bytes : (i : ℕ) (s : List ℕ) → All P s → Keeps P (AllTurn Free) (skip_turn i s)
  skip_turn_bytes i s h =
      then_keeps P Free (AllTurn Free) (lead i s) between (lead_bytes P i s h) (λ l j r _ k. between_bytes l j r k)

  pub skipped_bytes : (i : ℕ) (s : List ℕ) → All P s → Keeps P (All Free) (skipped i s)
  skipped_bytes i s h = repeat_bytes Free skip_turn skip_turn_bytes [] i s tt h
