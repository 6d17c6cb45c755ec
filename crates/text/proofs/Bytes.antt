-- Statements consist of bytes of the manifest: what holds of each byte there holds of each byte in every name, value and path.
use Rattle.std.proofs.Common.{◌≡◌, ℕ, true, List, [], ◌∷◌, None, sym, refl, ap, ◌∙◌}
use Rattle.std.specs.List.{AllByRecursion as All}
use Rattle.std.proofs.ByRecursion.{All-from_get_or}
use Rattle.std.proofs.lemmas.Bool.{false≢true}
use Rattle.byteclass.specs.Class.{class, banned_byte}
use Rattle.byteclass.specs.Words.{word_of}
use Rattle.byteclass.specs.declared.words.Word.{Word}
use Rattle.byteclass.specs.declared.words.Word.TheVariants.{Rule, Pool, Build, LeftOut, Plain}
use Rattle.cursor.specs.Scan.{gap, byte, name}
use Rattle.cursor.specs.declared.place.Opens.TheVariants.{Gap, Nothing}
use Rattle.cursor.proofs.Bytes.{Free, AllSome, Keeps, then_keeps, gap_bytes, byte_bytes, name_bytes}
use Rattle.parts.specs.Parts.{outputs, inputs, set_to, block, skipped}
use Rattle.parts.specs.declared.kinds.Block.{Block}
use Rattle.parts.specs.declared.kinds.Block.TheVariants.{Rule as RuleBlock, Pool as PoolBlock, Build as BuildBlock}
use Rattle.parts.proofs.Bytes.{AllEntry, AllOuts, AllIns, outputs_bytes, inputs_bytes, set_to_bytes, block_bytes, skipped_bytes}
use Rattle.text.specs.Text.{Head, Work, Said, variable, rule, pool, build, Stated, declared, edge, by_word, statement, at_start, next, checked}
use Rattle.text.proofs.Law.{passed}

module _ (P : ℕ → Type 0) where
  -- P holds of each byte of a rule or a pool
  pub record AllHead (d : Head) : Type 0 where
    pub name : All P d.name
    pub lines : All (AllEntry P) d.lines

  -- P holds of each byte of a build statement
  pub record AllWork (e : Work) : Type 0 where
    pub outs : AllOuts P e.outs
    pub rule : All P e.rule
    pub ins : AllIns P e.ins
    pub lines : All (AllEntry P) e.lines

  -- P holds of each byte of what a statement says
  abbrev pub AllSaid : Said → Type 0
  AllSaid (variable e) = AllEntry P e
  AllSaid (rule d) = AllHead d
  AllSaid (pool d) = AllHead d
  AllSaid (build e) = AllWork e

  -- P holds of each byte of a statement
  abbrev pub AllStated : Stated → Type 0
  AllStated x = AllSaid x.says

  declared_bytes : (b : Block) (i : ℕ) (s : List ℕ) → All P s → Keeps P AllHead (declared b i s)
  declared_bytes b i s h =
      then_keeps P Free AllHead (gap i s) _ (gap_bytes P i s h) (λ _ j1 r1 _ h1.
      then_keeps P (All P) AllHead (name Gap j1 r1) _ (name_bytes P Gap j1 r1 h1) (λ n j2 r2 u2 h2.
      then_keeps P Free AllHead (gap j2 r2) _ (gap_bytes P j2 r2 h2) (λ _ j3 r3 _ h3.
      then_keeps P Free AllHead (byte 10 Gap j3 r3) _ (byte_bytes P 10 Gap j3 r3 h3) (λ _ j4 r4 _ h4.
      then_keeps P (All (AllEntry P)) AllHead (block b j4 r4) _ (block_bytes P b j4 r4 h4) (λ ls j5 r5 u5 h5.
      (record { name = u2; lines = u5 }, h5))))))

  edge_bytes : (i : ℕ) (s : List ℕ) → All P s → Keeps P AllWork (edge i s)
  edge_bytes i s h =
      then_keeps P (AllOuts P) AllWork (outputs i s) _ (outputs_bytes P i s h) (λ os j1 r1 u1 h1.
      then_keeps P Free AllWork (gap j1 r1) _ (gap_bytes P j1 r1 h1) (λ _ j2 r2 _ h2.
      then_keeps P (All P) AllWork (name Gap j2 r2) _ (name_bytes P Gap j2 r2 h2) (λ n j3 r3 u3 h3.
      then_keeps P (AllIns P) AllWork (inputs j3 r3) _ (inputs_bytes P j3 r3 h3) (λ is j4 r4 u4 h4.
      then_keeps P (All (AllEntry P)) AllWork (block BuildBlock j4 r4) _ (block_bytes P BuildBlock j4 r4 h4) (λ ls j5 r5 u5 h5.
      (record { outs = u1; rule = u3; ins = u4; lines = u5 }, h5))))))

  by_word_bytes : (w : Word) (n : List ℕ) (i j : ℕ) (r : List ℕ) → All P n → All P r → Keeps P AllSaid (by_word w n i j r)
  by_word_bytes Plain n i j r u h = then_keeps P (AllEntry P) AllSaid (set_to n j r) _ (set_to_bytes P n j r u h) (λ _ k t v g. (v, g))
  by_word_bytes Rule n i j r u h = then_keeps P AllHead AllSaid (declared RuleBlock j r) _ (declared_bytes RuleBlock j r h) (λ _ k t v g. (v, g))
  by_word_bytes Pool n i j r u h = then_keeps P AllHead AllSaid (declared PoolBlock j r) _ (declared_bytes PoolBlock j r h) (λ _ k t v g. (v, g))
  by_word_bytes Build n i j r u h = then_keeps P AllWork AllSaid (edge j r) _ (edge_bytes j r h) (λ _ k t v g. (v, g))
  by_word_bytes LeftOut n i j r u h = tt

  statement_bytes : (i : ℕ) (s : List ℕ) → All P s → Keeps P AllSaid (statement i s)
  statement_bytes i s h =
      then_keeps P (All P) AllSaid (name Nothing i s) _ (name_bytes P Nothing i s h) (λ n j r u g. by_word_bytes (word_of n) n i j r u g)

  at_start_bytes : (i : ℕ) (s : List ℕ) → All P s → Keeps P (AllSome AllStated) (at_start i s)
  at_start_bytes i [] h = (tt, h)
  at_start_bytes i (b ∷ s) h =
      then_keeps P AllSaid (AllSome AllStated) (statement i (b ∷ s)) _ (statement_bytes i (b ∷ s) h) (λ _ j r u g. (u, g))

  pub next_bytes : (i : ℕ) (s : List ℕ) → All P s → Keeps P (AllSome AllStated) (next i s)
  unfolding next
  next_bytes i s h =
      then_keeps P (All Free) (AllSome AllStated) (skipped i s) _ (skipped_bytes P i s h) (λ _ j r _ g. at_start_bytes j r g)

banned_0 : banned_byte 0 ≡ true
unfolding class
banned_0 = refl

-- a text that passes the first checks has no byte 0
pub checked_none : (s : List ℕ) → checked s ≡ None → All (λ b. b ≡ 0 → ⊥) s
checked_none s e =
    All-from_get_or (λ b. b ≡ 0 → ⊥) s 0 (λ k l z. false≢true (sym ((passed s e).clean k l) ∙ (ap banned_byte z ∙ banned_0)))
