-- How far statements go.
use Rattle.std.proofs.Common.{ℕ, List, [], ◌∷◌, arith}
use Rattle.byteclass.specs.Words.{word_of}
use Rattle.byteclass.specs.declared.words.Word.{Word}
use Rattle.byteclass.specs.declared.words.Word.TheVariants.{Rule, Pool, Build, LeftOut, Plain}
use Rattle.cursor.specs.Scan.{gap, byte, name}
use Rattle.cursor.specs.declared.place.Opens.TheVariants.{Gap, Nothing}
use Rattle.cursor.proofs.Moves.{Moves, here_ahead, moves_on, then_moves, next_moves, ahead_less, some, gap_moves, byte_moves, name_moves}
use Rattle.parts.specs.Parts.{outputs, inputs, set_to, block, skipped}
use Rattle.parts.specs.declared.kinds.Block.{Block}
use Rattle.parts.specs.declared.kinds.Block.TheVariants.{Rule as RuleBlock, Pool as PoolBlock, Build as BuildBlock}
use Rattle.parts.proofs.Moves.{outputs_moves, inputs_moves, set_to_moves, block_moves, skipped_moves}
use Rattle.text.specs.Text.{declared, edge, by_word, statement, at_start, next}

declared_moves : (b : Block) (i : ℕ) (s : List ℕ) → Moves (λ _. 0) i s (declared b i s)
declared_moves b i s =
    then_moves (λ _. 0) (λ _. 0) i s (gap i s) _ (gap_moves i s) (λ _ j1 r1 h1.
    next_moves 0 (λ _. 1) (λ _. 0) i s j1 r1 (name Gap j1 r1) _ h1 (name_moves Gap j1 r1) (λ n j2 r2 h2.
    next_moves _ (λ _. 0) (λ _. 0) i s j2 r2 (gap j2 r2) _ h2 (gap_moves j2 r2) (λ _ j3 r3 h3.
    next_moves _ (λ _. 1) (λ _. 0) i s j3 r3 (byte 10 Gap j3 r3) _ h3 (byte_moves 10 Gap j3 r3) (λ _ j4 r4 h4.
    next_moves _ (λ _. 0) (λ _. 0) i s j4 r4 (block b j4 r4) _ h4 (block_moves b j4 r4) (λ ls j5 r5 h5.
    ahead_less _ 0 i s j5 r5 h5 (omega arith))))))

edge_moves : (i : ℕ) (s : List ℕ) → Moves (λ _. 0) i s (edge i s)
edge_moves i s =
    then_moves (λ _. 1) (λ _. 0) i s (outputs i s) _ (outputs_moves i s) (λ os j1 r1 h1.
    next_moves 1 (λ _. 0) (λ _. 0) i s j1 r1 (gap j1 r1) _ h1 (gap_moves j1 r1) (λ _ j2 r2 h2.
    next_moves _ (λ _. 1) (λ _. 0) i s j2 r2 (name Gap j2 r2) _ h2 (name_moves Gap j2 r2) (λ n j3 r3 h3.
    next_moves _ (λ _. 1) (λ _. 0) i s j3 r3 (inputs j3 r3) _ h3 (inputs_moves j3 r3) (λ is j4 r4 h4.
    next_moves _ (λ _. 0) (λ _. 0) i s j4 r4 (block BuildBlock j4 r4) _ h4 (block_moves BuildBlock j4 r4) (λ ls j5 r5 h5.
    ahead_less _ 0 i s j5 r5 h5 (omega arith))))))

by_word_moves : (w : Word) (n : List ℕ) (i j : ℕ) (r : List ℕ) → Moves (λ _. 0) j r (by_word w n i j r)
by_word_moves Plain n i j r = then_moves (λ _. 0) (λ _. 0) j r (set_to n j r) _ (set_to_moves n j r) (λ _ k t h. h)
by_word_moves Rule n i j r = then_moves (λ _. 0) (λ _. 0) j r (declared RuleBlock j r) _ (declared_moves RuleBlock j r) (λ _ k t h. h)
by_word_moves Pool n i j r = then_moves (λ _. 0) (λ _. 0) j r (declared PoolBlock j r) _ (declared_moves PoolBlock j r) (λ _ k t h. h)
by_word_moves Build n i j r = then_moves (λ _. 0) (λ _. 0) j r (edge j r) _ (edge_moves j r) (λ _ k t h. h)
by_word_moves LeftOut n i j r = tt

pub statement_moves : (i : ℕ) (s : List ℕ) → Moves (λ _. 1) i s (statement i s)
statement_moves i s =
    then_moves (λ _. 1) (λ _. 1) i s (name Nothing i s) _ (name_moves Nothing i s) (λ n j r h.
    moves_on 1 (λ _. 0) (λ _. 1) i s j r (by_word (word_of n) n i j r) h (by_word_moves (word_of n) n i j r) (λ _. omega arith))

pub at_start_moves : (i : ℕ) (s : List ℕ) → Moves some i s (at_start i s)
at_start_moves i [] = here_ahead i []
at_start_moves i (b ∷ s) = then_moves (λ _. 1) some i (b ∷ s) (statement i (b ∷ s)) _ (statement_moves i (b ∷ s)) (λ _ j r h. h)

pub next_statement_moves : (i : ℕ) (s : List ℕ) → Moves some i s (next i s)
unfolding next
next_statement_moves i s =
    then_moves (λ _. 0) some i s (skipped i s) _ (skipped_moves i s)
    (λ _ j r h. moves_on 0 some some i s j r (at_start j r) h (at_start_moves j r) (λ _. omega arith))
