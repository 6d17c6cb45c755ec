-- Lists, blocks and statements that are read are of the grammar.
use Rattle.std.proofs.Common.{◌≡◌, ℕ, zero, suc, ◌+◌, ◌-◌, ◌<◌, Bool, true, false, ◌&&◌, ◌||◌, eqb, ◌⊎◌, List, [], ◌∷◌, ◌++◌, length, get_or, Some, None, Option, sym, refl, ap, ◌∙◌, subst, ⊎_elim, append_assoc, append-nil, arith}
use Rattle.std.proofs.lemmas.Bool.{eqb-true, eqb-false, eq-eqb, and_parts, and_from, false≢true}
use Rattle.std.proofs.lemmas.Bool.Decides.{nat_tests}
use Rattle.byteclass.specs.Words.{word_of}
use Rattle.byteclass.specs.declared.words.Word.{Word}
use Rattle.byteclass.specs.declared.words.Word.TheVariants.{Rule, Pool, Build, LeftOut, Plain}
use Rattle.cursor.specs.Scan.{Out, ok, bad, and_then, up_to, name, spaces, gap, comment, byte, value, stops, path, any_path, next_path, needed, first_path, bar, pair, indented, flush, lead}
use Rattle.cursor.specs.declared.place.Opens.TheVariants.{Nothing, Gap as GapOpen}
use Rattle.cursor.specs.declared.lines.Lead.{Lead}
use Rattle.cursor.specs.declared.lines.Lead.TheVariants.{Ends, Blank as BlankLead, Remark as RemarkLead, Flush as FlushLead, Indented}
use Rattle.cursor.proofs.Moves.{Ahead, Moves, next_path_moves}
use Rattle.parts.specs.Many.{Turn, stop, more, turn, turn_of, many, repeat, each}
use Rattle.parts.specs.Parts.{Entry, paths, some_paths, list_if, open_after, last_list, outputs, inputs, set_to, takes, setting, block_line, block_turn, block, between, skip_turn, skipped}
use Rattle.parts.specs.declared.kinds.Block.{Block}
use Rattle.parts.specs.declared.kinds.Block.TheVariants.{Rule as RuleBlock, Pool as PoolBlock, Build as BuildBlock}
use Rattle.parts.proofs.Many.{turned, each_moves}
use Rattle.parts.proofs.Moves.{block_turn_moves, skip_turn_moves, skipped_moves}
use Rattle.text.specs.Text.{variable, Stated, declared, edge, by_word, statement, at_start, next, statements}
use Rattle.text.specs.Grammar.{Spaces, Gap, Comment, Name, Value, Run, OnePath, NoPath, Paths, Bar, Pair, Section, Outputs, Inputs, SetTo, Setting, Blank, Remark, Flush, Indent, BlockLine, BlockEnd, Lines, Heading, Working, Says, Idle, Between, OneStatement, NoStatement, Statements}
use Rattle.text.proofs.Moves.{next_statement_moves}
use Rattle.text.proofs.Sound.{Sound, sound_more, then_sound, by, spaces_sound, gap_sound, comment_sound, IsByte, byte_sound, Named, name_sound, Valued, value_sound, Pathed, path_sound}

-- with how far the reading went
pub then_both : {A B : Type 0} (P : A → List ℕ → Type 0) (w : A → ℕ) (Q : B → List ℕ → Type 0) (i : ℕ) (s : List ℕ) (o : Out A) (f : A → ℕ → List ℕ → Out B) → Sound P o → Moves w i s o → ((a : A) (j : ℕ) (r : List ℕ) → P a r → Ahead (w a) i s j r → Sound Q (f a j r)) → Sound Q (and_then o f)
then_both P w Q i s (ok a j r) f h m k = k a j r h m
then_both P w Q i s (bad e) f h m k = tt

-- repeated readings are a run
module _ {E : Type 0} (f : ℕ → List ℕ → Out (Turn E)) (Item : List ℕ → List E → List ℕ → Type 0) (End : List ℕ → List ℕ → Type 0) where
  abbrev pub Step : List ℕ → Turn E → List ℕ → Type 0
  Step s stop r = End s r
  Step s (more xs) r = Item s xs r

  pub record Ran (s : List ℕ) (es ys : List E) (r : List ℕ) : Type 0 where
    pub items : List E
    pub all : ys ≡ es ++ items
    pub run : Run Item End s items r

  module _ (n : ℕ) (sound : (i : ℕ) (s : List ℕ) → i + length s ≡ n → Sound (Step s) (f i s)) (moves : (i : ℕ) (s : List ℕ) → Moves turned i s (f i s)) where
    turn_sound : (s : List ℕ) (es : List E) (t : Turn E) (j : ℕ) (r : List ℕ) (k : List E → Out (List E)) → Step s t r → ((xs : List E) → t ≡ more xs → Sound (Ran r (es ++ xs)) (k (es ++ xs))) → Sound (Ran s es) (turn t es j r k)
    turn_sound s es stop j r k h g = record { items = []; all = sym (append-nil es); run = Run.end h }
    turn_sound s es (more xs) j r k h g =
        sound_more (Ran r (es ++ xs)) (Ran s es) (k (es ++ xs)) (g xs refl)
        (λ ys u w. record { items = xs ++ w.items; all = w.all ∙ append_assoc es xs w.items; run = Run.item h w.run })

    shorter : (i : ℕ) (s : List ℕ) (t : Turn E) (j : ℕ) (r : List ℕ) (xs : List E) → t ≡ more xs → Ahead (turned t) i s j r → length r < length s
    shorter i s t j r xs e h = let g = subst (λ x. Ahead (turned x) i s j r) e h in omega (arith, g.place, g.past)

    pub many_sound : (k i : ℕ) (s : List ℕ) (es : List E) → length s < k → i + length s ≡ n → Sound (Ran s es) (many f k i s es)
    many_sound zero i s es l e = absurd (omega arith)
    many_sound (suc k) i s es l e =
        then_both (Step s) turned (Ran s es) i s (f i s) _ (sound i s e) (moves i s) (λ t j r h m.
        turn_sound s es t j r (λ fs. many f k j r fs) h (λ xs q. many_sound k j r (es ++ xs) (omega (arith, shorter i s t j r xs q m)) (omega (arith, m.place))))

    pub repeat_sound : (i : ℕ) (s : List ℕ) (es : List E) → i + length s ≡ n → Sound (Ran s es) (repeat f es i s)
    unfolding repeat
    repeat_sound i s es e = many_sound (suc (length s)) i s es (omega arith) e

    pub run_sound : (i : ℕ) (s : List ℕ) → i + length s ≡ n → Sound (Run Item End s) (repeat f [] i s)
    run_sound i s e = sound_more (Ran s []) (Run Item End s) (repeat f [] i s) (repeat_sound i s [] e) (λ ys r w. subst (λ x. Run Item End s x r) (sym w.all) w.run)

-- the next path of a list, or none
abbrev NextPath : List ℕ → Option (List ℕ) → List ℕ → Type 0
NextPath s None r = NoPath s r
NextPath s (Some p) r = OnePath s (p ∷ []) r

any_path_sound : (s : List ℕ) (j : ℕ) (t : List ℕ) → Gap s t → Sound (NextPath s) (any_path j t)
any_path_sound s j [] g = NoPath.over g refl
any_path_sound s j (b ∷ t) g =
    by (NextPath s) (stops b) _ _ (λ e. NoPath.over g e)
    (λ n. then_sound (Pathed (b ∷ t)) (NextPath s) (path j (b ∷ t)) _ (path_sound j (b ∷ t)) (λ p k u h.
    subst (λ x. OnePath s (x ∷ []) u) (sym h.text) (OnePath.path g n h.is)))

next_path_sound : (i : ℕ) (s : List ℕ) → Sound (NextPath s) (next_path i s)
next_path_sound i s = then_sound (λ _ t. Gap s t) (NextPath s) (gap i s) _ (gap_sound i s) (λ _ j t g. any_path_sound s j t g)

path_turn : (s : List ℕ) (o : Option (List ℕ)) (r : List ℕ) → NextPath s o r → Step (each next_path) OnePath NoPath s (turn_of o) r
path_turn s None r h = h
path_turn s (Some p) r h = h

each_path_sound : (i : ℕ) (s : List ℕ) → Sound (Step (each next_path) OnePath NoPath s) (each next_path i s)
each_path_sound i s = then_sound (NextPath s) _ (next_path i s) _ (next_path_sound i s) (λ o j r h. path_turn s o r h)

pub paths_sound : (i : ℕ) (s : List ℕ) (ps : List (List ℕ)) → Sound (Ran (each next_path) OnePath NoPath s ps) (paths ps i s)
paths_sound i s ps = repeat_sound (each next_path) OnePath NoPath (i + length s) (λ j t _. each_path_sound j t) (each_moves next_path next_path_moves) i s ps refl

pub list_sound : (i : ℕ) (s : List ℕ) → Sound (Paths s) (paths [] i s)
list_sound i s = run_sound (each next_path) OnePath NoPath (i + length s) (λ j t _. each_path_sound j t) (each_moves next_path next_path_moves) i s refl

-- a list with a first path
pub record SomePaths (s : List ℕ) (ys : List (List ℕ)) (r : List ℕ) : Type 0 where
  pub head : List ℕ
  pub tail : List (List ℕ)
  pub all : ys ≡ head ∷ tail
  pub run : Paths s (head ∷ tail) r

needed_sound : (s : List ℕ) (o : Option (List ℕ)) (j : ℕ) (r : List ℕ) → NextPath s o r → Sound (λ p t. OnePath s (p ∷ []) t) (needed o j r)
needed_sound s None j r h = tt
needed_sound s (Some p) j r h = h

some_paths_sound : (i : ℕ) (s : List ℕ) → Sound (SomePaths s) (some_paths i s)
some_paths_sound i s =
    then_sound (λ p t. OnePath s (p ∷ []) t) (SomePaths s) (first_path i s) _
    (then_sound (NextPath s) (λ p t. OnePath s (p ∷ []) t) (next_path i s) needed (next_path_sound i s) (λ o j r h. needed_sound s o j r h))
    (λ p j t h. sound_more (Ran (each next_path) OnePath NoPath t (p ∷ [])) (SomePaths s) (paths (p ∷ []) j t) (paths_sound j t (p ∷ []))
    (λ ys r w. record { head = p; tail = w.items; all = w.all; run = Run.item h w.run }))

-- the mark stands here and is passed, or it does not
abbrev pub Marked : (List ℕ → List ℕ → Type 0) → List ℕ → Bool → List ℕ → Type 0
Marked Mark s true r = Mark s r
Marked Mark s false r = (s ≡ r) × ((t : List ℕ) → Mark s t → ⊥)

-- what a mark says of the first bytes
record BarFront (s : List ℕ) : Type 0 where
  first : get_or s 0 0 ≡ 124
  second : get_or s 1 0 ≡ 124 → ⊥
  third : get_or s 1 0 ≡ 64 → ⊥

bar_front : {s t : List ℕ} → Bar s t → BarFront s
bar_front (Bar.bar p n m) = record { first = p; second = n; third = m }

record PairFront (k : ℕ) (s : List ℕ) : Type 0 where
  first : get_or s 0 0 ≡ 124
  second : get_or s 1 0 ≡ k
  long : 1 < length s

pair_front : {k : ℕ} {s t : List ℕ} → Pair k s t → PairFront k s
pair_front (Pair.pair p q) = record { first = p; second = q; long = omega arith }

bar_sound : (i : ℕ) (s : List ℕ) → Sound (Marked Bar s) (bar i s)
bar_sound i [] = (refl, λ t h. let w = bar_front h in omega (arith, w.first))
bar_sound i (b ∷ []) =
    by (Marked Bar (b ∷ [])) (eqb b 124) _ _ (λ t. Bar.bar (eqb-true b 124 t) (λ q. omega arith) (λ q. omega arith))
    (λ n. (refl, λ t h. eqb-false b 124 n (bar_front h).first))
bar_sound i (b ∷ c ∷ s) =
    by (Marked Bar (b ∷ c ∷ s)) (eqb b 124) _ _
    (λ t.
    by (Marked Bar (b ∷ c ∷ s)) (eqb c 124 || eqb c 64) _ _
    (λ u. (refl, λ x h. let w : (c ≡ 124) ⊎ (c ≡ 64) = grind (arith, nat_tests) in ⊎_elim (bar_front h).second (bar_front h).third w))
    (λ n. Bar.bar (eqb-true b 124 t)
    (λ q. let p : c ≡ 124 = q in let u : (eqb c 124 || eqb c 64) ≡ true = rw p in false≢true (sym n ∙ u))
    (λ q. let p : c ≡ 64 = q in let u : (eqb c 124 || eqb c 64) ≡ true = rw p in false≢true (sym n ∙ u))))
    (λ n. (refl, λ t h. eqb-false b 124 n (bar_front h).first))

pair_sound : (k i : ℕ) (s : List ℕ) → Sound (Marked (Pair k) s) (pair k i s)
pair_sound k i [] = (refl, λ t h. let w = pair_front h in omega (arith, w.long))
pair_sound k i (b ∷ []) = (refl, λ t h. let w = pair_front h in omega (arith, w.long))
pair_sound k i (b ∷ c ∷ s) =
    by (Marked (Pair k) (b ∷ c ∷ s)) (eqb b 124 && eqb c k) _ _
    (λ t. let u = and_parts (eqb b 124) (eqb c k) t in Pair.pair (eqb-true b 124 u.0) (eqb-true c k u.1))
    (λ n. (refl, λ t h. let w = pair_front h in false≢true (sym n ∙ and_from (eqb b 124) (eqb c k) (eq-eqb b 124 w.first) (eq-eqb c k w.second))))

section_sound : (Mark : List ℕ → List ℕ → Type 0) (s : List ℕ) (m : Bool) (j : ℕ) (t : List ℕ) → Marked Mark s m t → Sound (Section Mark s) (list_if m j t)
section_sound Mark s true j t h = sound_more (Paths t) (Section Mark s) (paths [] j t) (list_sound j t) (λ ps r w. Section.some h w)
section_sound Mark s false j t h = subst (Section Mark s []) h.0 (Section.none h.1)

-- a section, and the byte k after it
record Closed (k : ℕ) (Mark : List ℕ → List ℕ → Type 0) (s : List ℕ) (ps : List (List ℕ)) (r : List ℕ) : Type 0 where
  head : ℕ
  is : head ≡ k
  run : Section Mark s ps (head ∷ r)

last_sound : (k : ℕ) (Mark : List ℕ → List ℕ → Type 0) (s : List ℕ) (m : Bool) (j : ℕ) (t : List ℕ) → Marked Mark s m t → Sound (Closed k Mark s) (last_list k m j t)
last_sound k Mark s m j t h =
    then_sound (Section Mark s) (Closed k Mark s) (list_if m j t) _ (section_sound Mark s m j t h) (λ ps j1 r1 h1.
    then_sound (λ _ r. IsByte k r1 r) (Closed k Mark s) (byte k (open_after m) j1 r1) _ (byte_sound k (open_after m) j1 r1) (λ _ j2 r2 h2.
    record { head = h2.head; is = h2.is; run = subst (Section Mark s ps) h2.cut h1 }))

pub outputs_sound : (i : ℕ) (s : List ℕ) → Sound (Outputs s) (outputs i s)
outputs_sound i s =
    then_sound (SomePaths s) (Outputs s) (some_paths i s) _ (some_paths_sound i s) (λ es j1 r1 h1.
    then_sound (Marked Bar r1) (Outputs s) (bar j1 r1) _ (bar_sound j1 r1) (λ m j2 r2 h2.
    then_sound (Closed 58 Bar r1) (Outputs s) (last_list 58 m j2 r2) _ (last_sound 58 Bar r1 m j2 r2 h2) (λ is j3 r3 h3.
    subst (λ x. Outputs s (record { explicit = x; implicit = is }) r3) (sym h1.all) (Outputs.outputs h1.run h3.run h3.is))))

pub inputs_sound : (i : ℕ) (s : List ℕ) → Sound (Inputs s) (inputs i s)
inputs_sound i s =
    then_sound (Paths s) (Inputs s) (paths [] i s) _ (list_sound i s) (λ es j1 r1 h1.
    then_sound (Marked Bar r1) (Inputs s) (bar j1 r1) _ (bar_sound j1 r1) (λ m j2 r2 h2.
    then_sound (Section Bar r1) (Inputs s) (list_if m j2 r2) _ (section_sound Bar r1 m j2 r2 h2) (λ is j3 r3 h3.
    then_sound (Marked (Pair 124) r3) (Inputs s) (pair 124 j3 r3) _ (pair_sound 124 j3 r3) (λ n j4 r4 h4.
    then_sound (Section (Pair 124) r3) (Inputs s) (list_if n j4 r4) _ (section_sound (Pair 124) r3 n j4 r4 h4) (λ os j5 r5 h5.
    then_sound (Marked (Pair 64) r5) (Inputs s) (pair 64 j5 r5) _ (pair_sound 64 j5 r5) (λ l j6 r6 h6.
    then_sound (Closed 10 (Pair 64) r5) (Inputs s) (last_list 10 l j6 r6) _ (last_sound 10 (Pair 64) r5 l j6 r6 h6) (λ vs j7 r7 h7.
    Inputs.inputs h1 h3 h5 h7.run h7.is)))))))

-- a variable that is set, under its name
record IsSet (n s : List ℕ) (e : Entry) (r : List ℕ) : Type 0 where
  to : List ℕ
  is : SetTo s to r
  all : e ≡ record { name = n; value = to }

set_to_sound : (n : List ℕ) (i : ℕ) (s : List ℕ) → Sound (IsSet n s) (set_to n i s)
set_to_sound n i s =
    then_sound (λ _ r. Gap s r) (IsSet n s) (gap i s) _ (gap_sound i s) (λ _ j1 r1 h1.
    then_sound (λ _ r. IsByte 61 r1 r) (IsSet n s) (byte 61 GapOpen j1 r1) _ (byte_sound 61 GapOpen j1 r1) (λ _ j2 r2 h2.
    then_sound (λ _ r. Gap r2 r) (IsSet n s) (gap j2 r2) _ (gap_sound j2 r2) (λ _ j3 r3 h3.
    then_sound (Valued r3) (IsSet n s) (value j3 r3) _ (value_sound j3 r3) (λ v j4 r4 h4.
    then_sound (λ _ r. IsByte 10 r4 r) (IsSet n s) (byte 10 Nothing j4 r4) _ (byte_sound 10 Nothing j4 r4) (λ _ j5 r5 h5.
    record {
      to = up_to r3 (h5.head ∷ r5);
      is = SetTo.set_to (subst (Gap s) h2.cut h1) h2.is h3 (subst (Value r3) h5.cut h4.is) h5.is;
      all = ap (λ x. record { name = n; value = x }) (h4.text ∙ ap (up_to r3) h5.cut);
    })))))

pub setting_sound : (b : Block) (i : ℕ) (s : List ℕ) → Sound (Setting b s) (setting b i s)
setting_sound b i s =
    then_sound (λ _ r. Gap s r) (Setting b s) (gap i s) _ (gap_sound i s) (λ _ j1 r1 h1.
    then_sound (Named r1) (Setting b s) (name GapOpen j1 r1) _ (name_sound GapOpen j1 r1) (λ n j2 r2 h2.
    by (Setting b s) (takes b n) _ _
    (λ t. sound_more (IsSet n r2) (Setting b s) (set_to n j2 r2) (set_to_sound n j2 r2) (λ e r w.
    subst (λ x. Setting b s x r) (sym (w.all ∙ ap (λ x. record { name = x; value = w.to }) h2.text))
    (Setting.setting h1 h2.is (ap (takes b) (sym h2.text) ∙ t) w.is)))
    (λ _. tt)))

-- how a line begins
abbrev Led : List ℕ → Lead → List ℕ → Type 0
Led s Ends r = Flush s r
Led s FlushLead r = Flush s r
Led s BlankLead r = Blank s r
Led s RemarkLead r = Remark s r
Led s Indented r = Indent s r

remark_sound : (s : List ℕ) (j b : ℕ) (t : List ℕ) → Spaces s (b ∷ t) → b ≡ 35 → Sound (Led s) (and_then (comment j (b ∷ t)) (λ _ k r. ok RemarkLead k r))
remark_sound s j b t h e = then_sound (λ _ r. Comment (b ∷ t) r) (Led s) (comment j (b ∷ t)) _ (comment_sound j (b ∷ t)) (λ _ k r w. Remark.remark h e w)

indented_sound : (s : List ℕ) (j : ℕ) (t : List ℕ) → get_or s 0 0 ≡ 32 → Spaces s t → Sound (Led s) (indented j t)
indented_sound s j [] e h = tt
indented_sound s j (b ∷ t) e h =
    by (Led s) (eqb b 10) _ _ (λ u. Blank.blank h (eqb-true b 10 u))
    (λ n. by (Led s) (eqb b 35) _ _ (λ u. remark_sound s j b t h (eqb-true b 35 u))
    (λ m. Indent.indent e h (omega arith) (eqb-false b 10 n) (eqb-false b 35 m)))

flush_sound : (i : ℕ) (s : List ℕ) → (get_or s 0 0 ≡ 32 → ⊥) → Sound (Led s) (flush i s)
flush_sound i [] x = Flush.flush x (λ q. omega arith) (λ q. omega arith)
flush_sound i (b ∷ s) x =
    by (Led (b ∷ s)) (eqb b 10) _ _ (λ u. Blank.blank (Spaces.none x) (eqb-true b 10 u))
    (λ n. by (Led (b ∷ s)) (eqb b 35) _ _ (λ u. remark_sound (b ∷ s) i b s (Spaces.none x) (eqb-true b 35 u))
    (λ m. Flush.flush x (eqb-false b 10 n) (eqb-false b 35 m)))

pub lead_sound : (i : ℕ) (s : List ℕ) → Sound (Led s) (lead i s)
lead_sound i [] = Flush.flush (λ q. omega arith) (λ q. omega arith) (λ q. omega arith)
lead_sound i (b ∷ s) =
    by (Led (b ∷ s)) (eqb b 32) _ _
    (λ t. then_sound (λ _ r. Spaces (b ∷ s) r) (Led (b ∷ s)) (spaces i (b ∷ s)) _ (spaces_sound i (b ∷ s)) (λ _ j r h. indented_sound (b ∷ s) j r (eqb-true b 32 t) h))
    (λ n. flush_sound i (b ∷ s) (eqb-false b 32 n))

block_line_sound : (b : Block) (s : List ℕ) (l : Lead) (j : ℕ) (t : List ℕ) → Led s l t → Sound (Step (block_turn b) (BlockLine b) BlockEnd s) (block_line b l j t)
block_line_sound b s Ends j t h = BlockEnd.flush h
block_line_sound b s FlushLead j t h = BlockEnd.flush h
block_line_sound b s BlankLead j t h = BlockEnd.blank h
block_line_sound b s RemarkLead j t h = BlockLine.remark h
block_line_sound b s Indented j t h = then_sound (Setting b t) _ (setting b j t) _ (setting_sound b j t) (λ e k r w. BlockLine.sets h w)

pub lines_sound : (b : Block) (i : ℕ) (s : List ℕ) → Sound (Lines b s) (block b i s)
lines_sound b i s =
    run_sound (block_turn b) (BlockLine b) BlockEnd (i + length s)
    (λ j t _. then_sound (Led t) _ (lead j t) _ (lead_sound j t) (λ l k r h. block_line_sound b t l k r h)) (block_turn_moves b) i s refl

heading_sound : (b : Block) (i : ℕ) (s : List ℕ) → Sound (Heading b s) (declared b i s)
heading_sound b i s =
    then_sound (λ _ r. Gap s r) (Heading b s) (gap i s) _ (gap_sound i s) (λ _ j1 r1 h1.
    then_sound (Named r1) (Heading b s) (name GapOpen j1 r1) _ (name_sound GapOpen j1 r1) (λ n j2 r2 h2.
    then_sound (λ _ r. Gap r2 r) (Heading b s) (gap j2 r2) _ (gap_sound j2 r2) (λ _ j3 r3 h3.
    then_sound (λ _ r. IsByte 10 r3 r) (Heading b s) (byte 10 GapOpen j3 r3) _ (byte_sound 10 GapOpen j3 r3) (λ _ j4 r4 h4.
    then_sound (Lines b r4) (Heading b s) (block b j4 r4) _ (lines_sound b j4 r4) (λ ls j5 r5 h5.
    subst (λ x. Heading b s (record { name = x; lines = ls }) r5) (sym h2.text) (Heading.heading h1 h2.is (subst (Gap r2) h4.cut h3) h4.is h5))))))

working_sound : (i : ℕ) (s : List ℕ) → Sound (Working s) (edge i s)
working_sound i s =
    then_sound (Outputs s) (Working s) (outputs i s) _ (outputs_sound i s) (λ os j1 r1 h1.
    then_sound (λ _ r. Gap r1 r) (Working s) (gap j1 r1) _ (gap_sound j1 r1) (λ _ j2 r2 h2.
    then_sound (Named r2) (Working s) (name GapOpen j2 r2) _ (name_sound GapOpen j2 r2) (λ n j3 r3 h3.
    then_sound (Inputs r3) (Working s) (inputs j3 r3) _ (inputs_sound j3 r3) (λ is j4 r4 h4.
    then_sound (Lines BuildBlock r4) (Working s) (block BuildBlock j4 r4) _ (lines_sound BuildBlock j4 r4) (λ ls j5 r5 h5.
    subst (λ x. Working s (record { outs = os; rule = x; ins = is; lines = ls }) r5) (sym h3.text) (Working.working h1 h2 h3.is h4 h5))))))

word_sound : (s n q : List ℕ) (w : Word) (i j : ℕ) → Name s q → n ≡ up_to s q → word_of (up_to s q) ≡ w → Sound (Says s) (by_word w n i j q)
word_sound s n q Plain i j h e p =
    then_sound (IsSet n q) (Says s) (set_to n j q) _ (set_to_sound n j q) (λ x k r w.
    subst (λ y. Says s (variable y) r) (sym (w.all ∙ ap (λ z. record { name = z; value = w.to }) e)) (Says.is_variable h p w.is))
word_sound s n q Rule i j h e p = then_sound (Heading RuleBlock q) (Says s) (declared RuleBlock j q) _ (heading_sound RuleBlock j q) (λ x k r w. Says.is_rule h p w)
word_sound s n q Pool i j h e p = then_sound (Heading PoolBlock q) (Says s) (declared PoolBlock j q) _ (heading_sound PoolBlock j q) (λ x k r w. Says.is_pool h p w)
word_sound s n q Build i j h e p = then_sound (Working q) (Says s) (edge j q) _ (working_sound j q) (λ x k r w. Says.is_build h p w)
word_sound s n q LeftOut i j h e p = tt

pub statement_sound : (i : ℕ) (s : List ℕ) → Sound (Says s) (statement i s)
statement_sound i s =
    then_sound (Named s) (Says s) (name Nothing i s) _ (name_sound Nothing i s) (λ n j r h.
    word_sound s n r (word_of n) i j h.is h.text (ap word_of (sym h.text)))

idle_sound : (s : List ℕ) (l : Lead) (j : ℕ) (t : List ℕ) → Led s l t → Sound (Step skip_turn Idle Flush s) (between l j t)
idle_sound s Ends j t h = h
idle_sound s FlushLead j t h = h
idle_sound s BlankLead j t h = Idle.blank h
idle_sound s RemarkLead j t h = Idle.remark h
idle_sound s Indented j t h = tt

pub between_sound : (i : ℕ) (s : List ℕ) → Sound (Between s) (skipped i s)
between_sound i s =
    run_sound skip_turn Idle Flush (i + length s)
    (λ j t _. then_sound (Led t) _ (lead j t) between (lead_sound j t) (λ l k r h. idle_sound t l k r h)) skip_turn_moves i s refl

-- the next statement of n bytes, or none
abbrev NextOne : ℕ → List ℕ → Option Stated → List ℕ → Type 0
NextOne n s None r = NoStatement s r
NextOne n s (Some x) r = OneStatement n s (x ∷ []) r

at_start_sound : (n : ℕ) (s : List ℕ) (us : List (Unit {0})) (j : ℕ) (t : List ℕ) → Between s us t → j + length t ≡ n → Sound (NextOne n s) (at_start j t)
at_start_sound n s us j [] h e = NoStatement.over h refl
at_start_sound n s us j (b ∷ t) h e =
    then_sound (Says (b ∷ t)) (NextOne n s) (statement j (b ∷ t)) _ (statement_sound j (b ∷ t)) (λ x k r w.
    let p : j ≡ n - length (b ∷ t) = omega arith in
    subst (λ y. OneStatement n s (record { place = y; says = x } ∷ []) r) (sym p) (OneStatement.statement h w))

next_sound : (n i : ℕ) (s : List ℕ) → i + length s ≡ n → Sound (NextOne n s) (next i s)
unfolding next
next_sound n i s e =
    then_both (Between s) (λ _. 0) (NextOne n s) i s (skipped i s) _ (between_sound i s) (skipped_moves i s) (λ us j t h m.
    at_start_sound n s us j t h (omega (arith, m.place)))

statement_turn : (n : ℕ) (s : List ℕ) (o : Option Stated) (r : List ℕ) → NextOne n s o r → Step (each next) (OneStatement n) NoStatement s (turn_of o) r
statement_turn n s None r h = h
statement_turn n s (Some x) r h = h

pub statements_sound : (n i : ℕ) (s : List ℕ) → i + length s ≡ n → Sound (Statements n s) (statements i s)
statements_sound n i s e =
    run_sound (each next) (OneStatement n) NoStatement n
    (λ j t p. then_sound (NextOne n t) _ (next j t) _ (next_sound n j t p) (λ o k r h. statement_turn n t o r h)) (each_moves next next_statement_moves) i s e
