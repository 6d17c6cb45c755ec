-- How far the parts of statements go.
use Rattle.std.proofs.Common.{ℕ, suc, Bool, true, false, List, [], ◌∷◌, length, arith}
use Rattle.std.proofs.lemmas.Bool.{cond_both}
use Rattle.cursor.specs.Scan.{Out, bad, gap, byte, name, value, next_path, first_path, bar, pair, lead}
use Rattle.cursor.specs.declared.place.Opens.TheVariants.{Gap, Nothing}
use Rattle.cursor.specs.declared.lines.Lead.{Lead}
use Rattle.cursor.specs.declared.lines.Lead.TheVariants.{Ends, Blank, Remark, Flush, Indented}
use Rattle.cursor.proofs.Moves.{Ahead, Moves, here_ahead, moves_on, then_moves, next_moves, ahead_less, line_led, gap_moves, byte_moves, name_moves, value_moves, next_path_moves, first_path_moves, bar_moves, pair_moves, lead_moves}
use Rattle.parts.specs.declared.kinds.Block.{Block}
use Rattle.parts.specs.Many.{Turn, repeat, each}
use Rattle.parts.specs.Parts.{paths, some_paths, list_if, open_after, last_list, outputs, inputs, set_to, takes, setting, block_line, block_turn, block, between, skip_turn, skipped}
use Rattle.parts.proofs.Many.{turned, many_moves, each_moves}

pub repeat_moves : {E : Type 0} (f : ℕ → List ℕ → Out (Turn E)) → ((i : ℕ) (s : List ℕ) → Moves turned i s (f i s)) → (es : List E) (i : ℕ) (s : List ℕ) → Moves (λ _. 0) i s (repeat f es i s)
unfolding repeat
repeat_moves f moves es i s = many_moves f moves (suc (length s)) i s es

pub paths_moves : (ps : List (List ℕ)) (i : ℕ) (s : List ℕ) → Moves (λ _. 0) i s (paths ps i s)
paths_moves ps i s = repeat_moves (each next_path) (each_moves next_path next_path_moves) ps i s

pub some_paths_moves : (i : ℕ) (s : List ℕ) → Moves (λ _. 1) i s (some_paths i s)
some_paths_moves i s =
    then_moves (λ _. 1) (λ _. 1) i s (first_path i s) _ (first_path_moves i s) (λ p j r h.
    moves_on 1 (λ _. 0) (λ _. 1) i s j r (paths (p ∷ []) j r) h (paths_moves (p ∷ []) j r) (λ _. omega arith))

pub list_if_moves : (m : Bool) (i : ℕ) (s : List ℕ) → Moves (λ _. 0) i s (list_if m i s)
list_if_moves true i s = paths_moves [] i s
list_if_moves false i s = here_ahead i s

pub last_list_moves : (k : ℕ) (m : Bool) (i : ℕ) (s : List ℕ) → Moves (λ _. 1) i s (last_list k m i s)
last_list_moves k m i s =
    then_moves (λ _. 0) (λ _. 1) i s (list_if m i s) _ (list_if_moves m i s) (λ ps j1 r1 h1.
    next_moves 0 (λ _. 1) (λ _. 1) i s j1 r1 (byte k (open_after m) j1 r1) _ h1 (byte_moves k (open_after m) j1 r1) (λ _ j2 r2 h2.
    ahead_less _ 1 i s j2 r2 h2 (omega arith)))

pub outputs_moves : (i : ℕ) (s : List ℕ) → Moves (λ _. 1) i s (outputs i s)
outputs_moves i s =
    then_moves (λ _. 1) (λ _. 1) i s (some_paths i s) _ (some_paths_moves i s) (λ es j1 r1 h1.
    next_moves 1 (λ _. 0) (λ _. 1) i s j1 r1 (bar j1 r1) _ h1 (bar_moves j1 r1) (λ m j2 r2 h2.
    next_moves _ (λ _. 1) (λ _. 1) i s j2 r2 (last_list 58 m j2 r2) _ h2 (last_list_moves 58 m j2 r2) (λ is j3 r3 h3.
    ahead_less _ 1 i s j3 r3 h3 (omega arith))))

pub inputs_moves : (i : ℕ) (s : List ℕ) → Moves (λ _. 1) i s (inputs i s)
inputs_moves i s =
    then_moves (λ _. 0) (λ _. 1) i s (paths [] i s) _ (paths_moves [] i s) (λ es j1 r1 h1.
    next_moves 0 (λ _. 0) (λ _. 1) i s j1 r1 (bar j1 r1) _ h1 (bar_moves j1 r1) (λ m j2 r2 h2.
    next_moves _ (λ _. 0) (λ _. 1) i s j2 r2 (list_if m j2 r2) _ h2 (list_if_moves m j2 r2) (λ is j3 r3 h3.
    next_moves _ (λ _. 0) (λ _. 1) i s j3 r3 (pair 124 j3 r3) _ h3 (pair_moves 124 j3 r3) (λ n j4 r4 h4.
    next_moves _ (λ _. 0) (λ _. 1) i s j4 r4 (list_if n j4 r4) _ h4 (list_if_moves n j4 r4) (λ os j5 r5 h5.
    next_moves _ (λ _. 0) (λ _. 1) i s j5 r5 (pair 64 j5 r5) _ h5 (pair_moves 64 j5 r5) (λ l j6 r6 h6.
    next_moves _ (λ _. 1) (λ _. 1) i s j6 r6 (last_list 10 l j6 r6) _ h6 (last_list_moves 10 l j6 r6) (λ vs j7 r7 h7.
    ahead_less _ 1 i s j7 r7 h7 (omega arith))))))))

pub set_to_moves : (n : List ℕ) (i : ℕ) (s : List ℕ) → Moves (λ _. 0) i s (set_to n i s)
set_to_moves n i s =
    then_moves (λ _. 0) (λ _. 0) i s (gap i s) _ (gap_moves i s) (λ _ j1 r1 h1.
    next_moves 0 (λ _. 1) (λ _. 0) i s j1 r1 (byte 61 Gap j1 r1) _ h1 (byte_moves 61 Gap j1 r1) (λ _ j2 r2 h2.
    next_moves _ (λ _. 0) (λ _. 0) i s j2 r2 (gap j2 r2) _ h2 (gap_moves j2 r2) (λ _ j3 r3 h3.
    next_moves _ (λ _. 0) (λ _. 0) i s j3 r3 (value j3 r3) _ h3 (value_moves j3 r3) (λ v j4 r4 h4.
    next_moves _ (λ _. 1) (λ _. 0) i s j4 r4 (byte 10 Nothing j4 r4) _ h4 (byte_moves 10 Nothing j4 r4) (λ _ j5 r5 h5.
    ahead_less _ 0 i s j5 r5 h5 (omega arith))))))

pub setting_moves : (b : Block) (i : ℕ) (s : List ℕ) → Moves (λ _. 1) i s (setting b i s)
setting_moves b i s =
    then_moves (λ _. 0) (λ _. 1) i s (gap i s) _ (gap_moves i s) (λ _ j1 r1 h1.
    next_moves 0 (λ _. 1) (λ _. 1) i s j1 r1 (name Gap j1 r1) _ h1 (name_moves Gap j1 r1) (λ n j2 r2 h2.
    cond_both (takes b n) (set_to n j2 r2) (bad _) (Moves (λ _. 1) i s)
    (λ _. moves_on _ (λ _. 0) (λ _. 1) i s j2 r2 (set_to n j2 r2) h2 (set_to_moves n j2 r2) (λ _. omega arith)) (λ _. tt)))

pub block_line_moves : (b : Block) (i : ℕ) (s : List ℕ) (l : Lead) (j : ℕ) (r : List ℕ) → Ahead (line_led l) i s j r → Moves turned i s (block_line b l j r)
block_line_moves b i s Ends j r h = h
block_line_moves b i s Blank j r h = ahead_less _ 0 i s j r h (omega arith)
block_line_moves b i s Flush j r h = h
block_line_moves b i s Remark j r h = h
block_line_moves b i s Indented j r h =
    next_moves 0 (λ _. 1) turned i s j r (setting b j r) _ h (setting_moves b j r) (λ e j2 r2 h2. ahead_less _ 1 i s j2 r2 h2 (omega arith))

pub block_turn_moves : (b : Block) (i : ℕ) (s : List ℕ) → Moves turned i s (block_turn b i s)
block_turn_moves b i s = then_moves line_led turned i s (lead i s) _ (lead_moves i s) (λ l j r h. block_line_moves b i s l j r h)

pub block_moves : (b : Block) (i : ℕ) (s : List ℕ) → Moves (λ _. 0) i s (block b i s)
block_moves b i s = repeat_moves (block_turn b) (block_turn_moves b) [] i s

between_moves : (i : ℕ) (s : List ℕ) (l : Lead) (j : ℕ) (r : List ℕ) → Ahead (line_led l) i s j r → Moves turned i s (between l j r)
between_moves i s Ends j r h = h
between_moves i s Blank j r h = h
between_moves i s Flush j r h = h
between_moves i s Remark j r h = h
between_moves i s Indented j r h = tt

pub skip_turn_moves : (i : ℕ) (s : List ℕ) → Moves turned i s (skip_turn i s)
skip_turn_moves i s = then_moves line_led turned i s (lead i s) between (lead_moves i s) (λ l j r h. between_moves i s l j r h)

pub skipped_moves : (i : ℕ) (s : List ℕ) → Moves (λ _. 0) i s (skipped i s)
skipped_moves i s = repeat_moves skip_turn skip_turn_moves [] i s
