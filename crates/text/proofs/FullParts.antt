-- Lists, blocks and statements of the grammar are read.
use Rattle.std.proofs.Common.{◌≡◌, ℕ, zero, suc, ◌+◌, ◌-◌, ◌<◌, Bool, true, false, ◌&&◌, ◌||◌, eqb, List, [], ◌∷◌, ◌++◌, length, get_or, Some, None, sym, refl, ap, ◌∙◌, subst, append_assoc, append-nil, arith}
use Rattle.std.proofs.lemmas.Bool.{cond_both, eqb-true, eqb-false, eq-eqb, ne_eqb, and_parts, and_from, false≢true}
use Rattle.byteclass.specs.Words.{word_of}
use Rattle.cursor.specs.Scan.{Out, ok, bad, and_then, up_to, name, spaces, gap, comment, byte, value, stops, path, any_path, next_path, needed, first_path, bar, pair, indented, flush, lead}
use Rattle.cursor.specs.declared.place.Opens.TheVariants.{Nothing, Gap as GapOpen}
use Rattle.cursor.specs.declared.lines.Lead.{Lead}
use Rattle.cursor.specs.declared.lines.Lead.TheVariants.{Ends, Blank as BlankLead, Remark as RemarkLead, Flush as FlushLead, Indented}
use Rattle.cursor.proofs.Moves.{Ahead, Moves, next_path_moves}
use Rattle.parts.specs.Many.{Turn, stop, more, many, repeat, each}
use Rattle.parts.specs.Parts.{Entry, Outs, Ins, paths, some_paths, list_if, open_after, last_list, outputs, inputs, set_to, setting, block_line, block_turn, block, between, skip_turn, skipped}
use Rattle.parts.specs.declared.kinds.Block.{Block}
use Rattle.parts.specs.declared.kinds.Block.TheVariants.{Rule as RuleBlock, Pool as PoolBlock, Build as BuildBlock}
use Rattle.parts.proofs.Many.{turned, each_moves}
use Rattle.parts.proofs.Moves.{block_turn_moves, skip_turn_moves, skipped_moves}
use Rattle.text.specs.Text.{Head, Work, Said, variable, rule, pool, build, Stated, declared, edge, by_word, statement, at_start, next, statements}
use Rattle.text.specs.Grammar.{Spaces, Comment, Name, Run, OnePath, NoPath, Paths, Bar, Pair, Section, Outputs, Inputs, SetTo, Setting, Blank, Remark, Flush, Indent, BlockLine, BlockEnd, Lines, Heading, Working, Says, Idle, Between, OneStatement, NoStatement, Statements}
use Rattle.text.proofs.Moves.{next_statement_moves}
use Rattle.text.proofs.Full.{Reads, then_reads, spaces_full, gap_full, comment_full, byte_full, name_full, value_full, path_full}

-- with how far the reading went
then_far : {A B : Type 0} (a : A) (r : List ℕ) (w : A → ℕ) (Q : Out B → Type 0) (i : ℕ) (s : List ℕ) (o : Out A) (f : A → ℕ → List ℕ → Out B) → Reads a r o → Moves w i s o → ((j : ℕ) → Ahead (w a) i s j r → Q (f a j r)) → Q (and_then o f)
then_far a r w Q i s (ok b j t) f h m k =
    subst (λ x. Q (f x j t)) (sym h.0)
    (subst (λ y. Q (f a j y)) (sym h.1) (k j (subst (λ y. Ahead (w a) i s j y) h.1 (subst (λ x. Ahead (w x) i s j t) h.0 m))))
then_far a r w Q i s (bad e) f h m k = absurd h

-- a run is read by repeated readings
module _ {E : Type 0} (f : ℕ → List ℕ → Out (Turn E)) (Item : List ℕ → List E → List ℕ → Type 0) (End : List ℕ → List ℕ → Type 0) (n : ℕ) (last : (s r : List ℕ) → End s r → (i : ℕ) → i + length s ≡ n → Reads stop r (f i s)) (one : (s r : List ℕ) (xs : List E) → Item s xs r → (i : ℕ) → i + length s ≡ n → Reads (more xs) r (f i s)) (moves : (i : ℕ) (s : List ℕ) → Moves turned i s (f i s)) where
  many_full : {s r : List ℕ} {xs : List E} → Run Item End s xs r → (k i : ℕ) (es : List E) → length s < k → i + length s ≡ n → Reads (es ++ xs) r (many f k i s es)
  many_full h zero i es l e = absurd (omega arith)
  many_full {s = s} {r = r} (Run.end h) (suc k) i es l e =
      then_reads stop r (Reads (es ++ []) r) (f i s) _ (last s r h i e) (λ j. (sym (append-nil es), refl))
  many_full {s = s} {r = r} (Run.item {t = t} {xs = xs} {ys = ys} h g) (suc k) i es l e =
      then_far (more xs) t turned (Reads (es ++ (xs ++ ys)) r) i s (f i s) _ (one s t xs h i e) (moves i s)
      (λ j m. subst (λ z. Reads z r (many f k j t (es ++ xs))) (append_assoc es xs ys)
      (many_full {s = t} {r = r} {xs = ys} g k j (es ++ xs) (omega (arith, m.place, m.past)) (omega (arith, m.place))))

  pub repeat_full : {s r : List ℕ} {xs : List E} → Run Item End s xs r → (i : ℕ) (es : List E) → i + length s ≡ n → Reads (es ++ xs) r (repeat f es i s)
  unfolding repeat
  repeat_full {s = s} h i es e = many_full h (suc (length s)) i es (omega arith) e

next_none : {s r : List ℕ} → NoPath s r → (i : ℕ) → Reads None r (next_path i s)
next_none {s = s} {r = r} (NoPath.over g t) i = then_reads tt r (Reads None r) (gap i s) _ (gap_full g i) (λ j. here r t j)
  where
    here : (r : List ℕ) → stops (get_or r 0 32) ≡ true → (j : ℕ) → Reads None r (any_path j r)
    here [] t j = (refl, refl)
    here (b ∷ r) t j = rw t (refl, refl)

next_some : {s r p : List ℕ} {ps : List (List ℕ)} → OnePath s ps r → (i : ℕ) → ps ≡ p ∷ [] → Reads (Some p) r (next_path i s)
next_some {s = s} {r = r} {p = p} (OnePath.path {b = b} {t = t} g n h) i e =
    let q : up_to (b ∷ t) r ≡ p = cc in
    then_reads tt (b ∷ t) (Reads (Some p) r) (gap i s) _ (gap_full g i) (λ j.
    rw n (then_reads (up_to (b ∷ t) r) r (Reads (Some p) r) (path j (b ∷ t)) _ (path_full (b ∷ t) r h j) (λ k. (ap Some q, refl))))

each_none : {s r : List ℕ} → NoPath s r → (i : ℕ) → Reads stop r (each next_path i s)
each_none {s = s} {r = r} h i = then_reads None r (Reads stop r) (next_path i s) _ (next_none h i) (λ j. (refl, refl))

each_some : {s r : List ℕ} {ps : List (List ℕ)} → OnePath s ps r → (i : ℕ) → Reads (more ps) r (each next_path i s)
each_some {s = s} {r = r} (OnePath.path {b = b} {t = t} g n h) i =
    then_reads (Some (up_to (b ∷ t) r)) r (Reads (more (up_to (b ∷ t) r ∷ [])) r) (next_path i s) _ (next_some (OnePath.path g n h) i refl) (λ j. (refl, refl))

pub paths_full : {s r : List ℕ} {ps : List (List ℕ)} → Paths s ps r → (i : ℕ) (es : List (List ℕ)) → Reads (es ++ ps) r (paths es i s)
paths_full {s = s} h i es = repeat_full (each next_path) OnePath NoPath (i + length s) (λ u v g j _. each_none g j) (λ u v xs g j _. each_some g j) (each_moves next_path next_path_moves) h i es refl

some_paths_full : {s r : List ℕ} {qs : List (List ℕ)} → Paths s qs r → (p : List ℕ) (ps : List (List ℕ)) → qs ≡ p ∷ ps → (i : ℕ) → Reads qs r (some_paths i s)
some_paths_full (Run.end h) p ps e i = absurd (let z : ◌≡◌ {A = ℕ} 0 1 = cc in omega arith)
some_paths_full {s = s} {r = r} (Run.item {t = t} {ys = ys} (OnePath.path {b = b} {t = u} g n h) w) p ps e i =
    let q = up_to (b ∷ u) t in
    then_reads q t (Reads (q ∷ ys) r) (first_path i s) _
    (then_reads (Some q) t (Reads q t) (next_path i s) needed (next_some (OnePath.path g n h) i refl) (λ j. (refl, refl)))
    (λ j. paths_full w j (q ∷ []))

bar_full : {s r : List ℕ} → Bar s r → (i : ℕ) → Reads true r (bar i s)
bar_full (Bar.bar {b = b} {s = s} p n m) i = here s n m
  where
    here : (s : List ℕ) → (get_or s 0 0 ≡ 124 → ⊥) → (get_or s 0 0 ≡ 64 → ⊥) → Reads true s (bar i (b ∷ s))
    here [] n m = rw p (refl, refl)
    here (c ∷ s) n m = rw (p, ne_eqb c 124 n, ne_eqb c 64 m) (refl, refl)

no_bar : (s : List ℕ) → ((t : List ℕ) → Bar s t → ⊥) → (i : ℕ) → Reads false s (bar i s)
no_bar [] n i = (refl, refl)
no_bar (b ∷ []) n i =
    cond_both (eqb b 124) _ _ (Reads false (b ∷ [])) (λ t. absurd (n [] (Bar.bar (eqb-true b 124 t) (λ q. omega arith) (λ q. omega arith)))) (λ _. (refl, refl))
no_bar (b ∷ c ∷ s) n i =
    cond_both (eqb b 124) _ _ (Reads false (b ∷ c ∷ s))
    (λ t. cond_both (eqb c 124 || eqb c 64) _ _ (Reads false (b ∷ c ∷ s)) (λ _. (refl, refl))
    (λ f. absurd (n (c ∷ s) (Bar.bar (eqb-true b 124 t)
    (λ q. let p : c ≡ 124 = q in let u : (eqb c 124 || eqb c 64) ≡ true = rw p in false≢true (sym f ∙ u))
    (λ q. let p : c ≡ 64 = q in let u : (eqb c 124 || eqb c 64) ≡ true = rw p in false≢true (sym f ∙ u))))))
    (λ _. (refl, refl))

pair_full : {k : ℕ} {s r : List ℕ} → Pair k s r → (i : ℕ) → Reads true r (pair k i s)
pair_full {k = k} (Pair.pair {b = b} {c = c} p q) i = rw (and_from (eqb b 124) (eqb c k) (eq-eqb b 124 p) (eq-eqb c k q)) (refl, refl)

no_pair : (k : ℕ) (s : List ℕ) → ((t : List ℕ) → Pair k s t → ⊥) → (i : ℕ) → Reads false s (pair k i s)
no_pair k [] n i = (refl, refl)
no_pair k (b ∷ []) n i = (refl, refl)
no_pair k (b ∷ c ∷ s) n i =
    cond_both (eqb b 124 && eqb c k) _ _ (Reads false (b ∷ c ∷ s))
    (λ t. let u = and_parts (eqb b 124) (eqb c k) t in absurd (n s (Pair.pair (eqb-true b 124 u.0) (eqb-true c k u.1))))
    (λ _. (refl, refl))

-- a section is read by its mark and its list
record SectionRead (mark : ℕ → List ℕ → Out Bool) (s : List ℕ) (ps : List (List ℕ)) (r : List ℕ) : Type 0 where
  marked : Bool
  after : List ℕ
  first : (i : ℕ) → Reads marked after (mark i s)
  list : (i : ℕ) → Reads ps r (list_if marked i after)

module _ (Mark : List ℕ → List ℕ → Type 0) (mark : ℕ → List ℕ → Out Bool) (present : (s r : List ℕ) → Mark s r → (i : ℕ) → Reads true r (mark i s)) (missing : (s : List ℕ) → ((t : List ℕ) → Mark s t → ⊥) → (i : ℕ) → Reads false s (mark i s)) where
  section_full : {s r : List ℕ} {ps : List (List ℕ)} → Section Mark s ps r → SectionRead mark s ps r
  section_full {s = s} (Section.none n) = record { marked = false; after = s; first = missing s n; list = λ i. (refl, refl) }
  section_full {s = s} (Section.some {t = t} h g) = record { marked = true; after = t; first = present s t h; list = λ i. paths_full g i [] }

last_full : (mark : ℕ → List ℕ → Out Bool) (k b : ℕ) (s r : List ℕ) (ps : List (List ℕ)) (h : SectionRead mark s ps (b ∷ r)) → b ≡ k → (i : ℕ) → Reads ps r (last_list k h.marked i h.after)
last_full mark k b s r ps h e i =
    then_reads ps (b ∷ r) (Reads ps r) (list_if h.marked i h.after) _ (h.list i) (λ j.
    then_reads tt r (Reads ps r) (byte k (open_after h.marked) j (b ∷ r)) _ (byte_full k b (open_after h.marked) r j e) (λ j2. (refl, refl)))

pub outputs_full : {s r : List ℕ} {o : Outs} → Outputs s o r → (i : ℕ) → Reads o r (outputs i s)
outputs_full {s = s} {r = r} (Outputs.outputs {b = b} {t = t} {p = p} {ps = ps} {qs = qs} h g e) i =
    let o : Outs = record { explicit = p ∷ ps; implicit = qs } in
    let w = section_full Bar bar (λ x y z. bar_full z) no_bar g in
    then_reads (p ∷ ps) t (Reads o r) (some_paths i s) _ (some_paths_full h p ps refl i) (λ j1.
    then_reads w.marked w.after (Reads o r) (bar j1 t) _ (w.first j1) (λ j2.
    then_reads qs r (Reads o r) (last_list 58 w.marked j2 w.after) _ (last_full bar 58 b t r qs w e j2) (λ j3. (refl, refl))))

pub inputs_full : {s r : List ℕ} {o : Ins} → Inputs s o r → (i : ℕ) → Reads o r (inputs i s)
inputs_full {s = s} {r = r} (Inputs.inputs {b = b} {t = t} {u = u} {v = v} {es = es} {is = is} {os = os} {vs = vs} h1 h2 h3 h4 e) i =
    let o : Ins = record { explicit = es; implicit = is; order_only = os; validations = vs } in
    let w = section_full Bar bar (λ x y z. bar_full z) no_bar h2 in
    let x = section_full (Pair 124) (pair 124) (λ a c z. pair_full z) (no_pair 124) h3 in
    let y = section_full (Pair 64) (pair 64) (λ a c z. pair_full z) (no_pair 64) h4 in
    then_reads es t (Reads o r) (paths [] i s) _ (paths_full h1 i []) (λ j1.
    then_reads w.marked w.after (Reads o r) (bar j1 t) _ (w.first j1) (λ j2.
    then_reads is u (Reads o r) (list_if w.marked j2 w.after) _ (w.list j2) (λ j3.
    then_reads x.marked x.after (Reads o r) (pair 124 j3 u) _ (x.first j3) (λ j4.
    then_reads os v (Reads o r) (list_if x.marked j4 x.after) _ (x.list j4) (λ j5.
    then_reads y.marked y.after (Reads o r) (pair 64 j5 v) _ (y.first j5) (λ j6.
    then_reads vs r (Reads o r) (last_list 10 y.marked j6 y.after) _ (last_full (pair 64) 10 b v r vs y e j6) (λ j7. (refl, refl))))))))

set_to_full : {s v r : List ℕ} → SetTo s v r → (n : List ℕ) (i : ℕ) → Reads (record { name = n; value = v }) r (set_to n i s)
set_to_full {s = s} {r = r} (SetTo.set_to {b = b} {c = c} {p = p} {t = t} g e h v f) n i =
    let x : Entry = record { name = n; value = up_to t (c ∷ r) } in
    then_reads tt (b ∷ p) (Reads x r) (gap i s) _ (gap_full g i) (λ j1.
    then_reads tt p (Reads x r) (byte 61 GapOpen j1 (b ∷ p)) _ (byte_full 61 b GapOpen p j1 e) (λ j2.
    then_reads tt t (Reads x r) (gap j2 p) _ (gap_full h j2) (λ j3.
    then_reads (up_to t (c ∷ r)) (c ∷ r) (Reads x r) (value j3 t) _ (value_full t (c ∷ r) v j3) (λ j4.
    then_reads tt r (Reads x r) (byte 10 Nothing j4 (c ∷ r)) _ (byte_full 10 c Nothing r j4 f) (λ j5. (refl, refl))))))

setting_full : {k : Block} {s r : List ℕ} {e : Entry} → Setting k s e r → (i : ℕ) → Reads e r (setting k i s)
setting_full {k = k} {s = s} {r = r} (Setting.setting {p = p} {q = q} {v = v} g h t w) i =
    let x : Entry = record { name = up_to p q; value = v } in
    then_reads tt p (Reads x r) (gap i s) _ (gap_full g i) (λ j1.
    then_reads (up_to p q) q (Reads x r) (name GapOpen j1 p) _ (name_full p q h GapOpen j1) (λ j2.
    rw t (set_to_full w (up_to p q) j2)))

remark_full : (b : ℕ) (t r : List ℕ) → Comment (b ∷ t) r → (i : ℕ) → Reads RemarkLead r (and_then (comment i (b ∷ t)) (λ _ k u. ok RemarkLead k u))
remark_full b t r h i = then_reads tt r (Reads RemarkLead r) (comment i (b ∷ t)) _ (comment_full h i) (λ j. (refl, refl))

-- a line that begins with spaces, or does not
by_spaces : (s t : List ℕ) (l : Lead) (r : List ℕ) → Spaces s t → ((i : ℕ) → Reads l r (indented i t)) → ((i : ℕ) → s ≡ t → (get_or s 0 0 ≡ 32 → ⊥) → Reads l r (flush i s)) → 0 < length s → (i : ℕ) → Reads l r (lead i s)
by_spaces [] t l r h k m g i = absurd (omega arith)
by_spaces (b ∷ s) t l r h k m g i =
    cond_both (eqb b 32) _ _ (Reads l r)
    (λ e. then_reads tt t (Reads l r) (spaces i (b ∷ s)) _ (spaces_full h i) (λ j. k j))
    (λ n. m i (still h (eqb-false b 32 n)) (eqb-false b 32 n))
  where
    still : {s t : List ℕ} → Spaces s t → (get_or s 0 0 ≡ 32 → ⊥) → s ≡ t
    still (Spaces.none n) x = refl
    still (Spaces.space p h) x = absurd (x p)

spaces_some : {s t : List ℕ} → Spaces s t → 0 < length t → 0 < length s
spaces_some (Spaces.none n) l = l
spaces_some (Spaces.space p h) l = omega arith

blank_full : {s r : List ℕ} → Blank s r → (i : ℕ) → Reads BlankLead r (lead i s)
blank_full {s = s} {r = r} (Blank.blank {b = b} h e) i =
    by_spaces s (b ∷ r) BlankLead r h (λ j. rw e (refl, refl))
    (λ j q n. subst (λ x. Reads BlankLead r (flush j x)) (sym q) (rw e (refl, refl))) (spaces_some h (omega arith)) i

comment_line_full : {s r : List ℕ} → Remark s r → (i : ℕ) → Reads RemarkLead r (lead i s)
comment_line_full {s = s} {r = r} (Remark.remark {b = b} {t = t} h e c) i =
    by_spaces s (b ∷ t) RemarkLead r h (λ j. rw e (subst (λ x. Reads RemarkLead r (and_then (comment j (x ∷ t)) (λ _ k u. ok RemarkLead k u))) e (remark_full b t r c j)))
    (λ j q n. subst (λ x. Reads RemarkLead r (flush j x)) (sym q) (rw e (subst (λ x. Reads RemarkLead r (and_then (comment j (x ∷ t)) (λ _ k u. ok RemarkLead k u))) e (remark_full b t r c j)))) (spaces_some h (omega arith)) i

indent_full : {s r : List ℕ} → Indent s r → (i : ℕ) → Reads Indented r (lead i s)
indent_full {s = s} {r = r} (Indent.indent e h l n m) i =
    by_spaces s r Indented r h (λ j. here r l n m j) (λ j q x. absurd (x e)) (spaces_some h l) i
  where
    here : (r : List ℕ) → 0 < length r → (get_or r 0 0 ≡ 10 → ⊥) → (get_or r 0 0 ≡ 35 → ⊥) → (j : ℕ) → Reads Indented r (indented j r)
    here [] l n m j = absurd (omega arith)
    here (b ∷ r) l n m j = rw (ne_eqb b 10 n, ne_eqb b 35 m) (refl, refl)

-- the manifest's end, or a line in the first column
flush_lead : List ℕ → Lead
flush_lead [] = Ends
flush_lead (b ∷ s) = FlushLead

flush_full : {s r : List ℕ} → Flush s r → (i : ℕ) → Reads (flush_lead r) r (lead i s)
unfolding flush_lead
flush_full (Flush.flush {s = s} x n m) i = here s x n m
  where
    here : (s : List ℕ) → (get_or s 0 0 ≡ 32 → ⊥) → (get_or s 0 0 ≡ 10 → ⊥) → (get_or s 0 0 ≡ 35 → ⊥) → Reads (flush_lead s) s (lead i s)
    here [] x n m = (refl, refl)
    here (b ∷ s) x n m = rw (ne_eqb b 32 x, ne_eqb b 10 n, ne_eqb b 35 m) (refl, refl)

flush_ends : (b : Block) (r : List ℕ) (j : ℕ) → Reads stop r (block_line b (flush_lead r) j r)
unfolding flush_lead
flush_ends b [] j = (refl, refl)
flush_ends b (x ∷ r) j = (refl, refl)

block_end_full : (b : Block) {s r : List ℕ} → BlockEnd s r → (i : ℕ) → Reads stop r (block_turn b i s)
block_end_full b {s} {r} (BlockEnd.blank h) i = then_reads BlankLead r (Reads stop r) (lead i s) _ (blank_full h i) (λ j. (refl, refl))
block_end_full b {s} {r} (BlockEnd.flush h) i = then_reads (flush_lead r) r (Reads stop r) (lead i s) _ (flush_full h i) (λ j. flush_ends b r j)

block_line_full : (b : Block) {s r : List ℕ} {es : List Entry} → BlockLine b s es r → (i : ℕ) → Reads (more es) r (block_turn b i s)
block_line_full b {s} {r} (BlockLine.remark h) i = then_reads RemarkLead r (Reads (more []) r) (lead i s) _ (comment_line_full h i) (λ j. (refl, refl))
block_line_full b {s} {r} (BlockLine.sets {t = t} {e = e} h g) i =
    then_reads Indented t (Reads (more (e ∷ [])) r) (lead i s) _ (indent_full h i) (λ j.
    then_reads e r (Reads (more (e ∷ [])) r) (setting b j t) _ (setting_full g j) (λ k. (refl, refl)))

pub lines_full : (b : Block) {s r : List ℕ} {es : List Entry} → Lines b s es r → (i : ℕ) → Reads es r (block b i s)
lines_full b {s} h i =
    repeat_full (block_turn b) (BlockLine b) BlockEnd (i + length s) (λ u v g j _. block_end_full b g j) (λ u v xs g j _. block_line_full b g j) (block_turn_moves b) h i [] refl

heading_full : {b : Block} {s r : List ℕ} {d : Head} → Heading b s d r → (i : ℕ) → Reads d r (declared b i s)
heading_full {b = b} {s = s} {r = r} (Heading.heading {b = x} {p = p} {q = q} {t = t} {ls = ls} g h w e l) i =
    let d : Head = record { name = up_to p q; lines = ls } in
    then_reads tt p (Reads d r) (gap i s) _ (gap_full g i) (λ j1.
    then_reads (up_to p q) q (Reads d r) (name GapOpen j1 p) _ (name_full p q h GapOpen j1) (λ j2.
    then_reads tt (x ∷ t) (Reads d r) (gap j2 q) _ (gap_full w j2) (λ j3.
    then_reads tt t (Reads d r) (byte 10 GapOpen j3 (x ∷ t)) _ (byte_full 10 x GapOpen t j3 e) (λ j4.
    then_reads ls r (Reads d r) (block b j4 t) _ (lines_full b l j4) (λ j5. (refl, refl))))))

working_full : {s r : List ℕ} {d : Work} → Working s d r → (i : ℕ) → Reads d r (edge i s)
working_full {s = s} {r = r} (Working.working {t = t} {u = u} {v = v} {w = w} {os = os} {is = is} {ls = ls} h1 h2 h3 h4 h5) i =
    let d : Work = record { outs = os; rule = up_to u v; ins = is; lines = ls } in
    then_reads os t (Reads d r) (outputs i s) _ (outputs_full h1 i) (λ j1.
    then_reads tt u (Reads d r) (gap j1 t) _ (gap_full h2 j1) (λ j2.
    then_reads (up_to u v) v (Reads d r) (name GapOpen j2 u) _ (name_full u v h3 GapOpen j2) (λ j3.
    then_reads is w (Reads d r) (inputs j3 v) _ (inputs_full h4 j3) (λ j4.
    then_reads ls r (Reads d r) (block BuildBlock j4 w) _ (lines_full BuildBlock h5 j4) (λ j5. (refl, refl))))))

-- a statement, by its word
by_word_full : (s q r : List ℕ) (x : Said) → Name s q → (i : ℕ) → ((j : ℕ) → Reads x r (by_word (word_of (up_to s q)) (up_to s q) i j q)) → Reads x r (statement i s)
by_word_full s q r x h i k = then_reads (up_to s q) q (Reads x r) (name Nothing i s) _ (name_full s q h Nothing i) k

pub statement_full : {s r : List ℕ} {x : Said} → Says s x r → (i : ℕ) → Reads x r (statement i s)
statement_full {s = s} {r = r} (Says.is_variable {q = q} {v = v} h p g) i =
    let e : Entry = record { name = up_to s q; value = v } in
    by_word_full s q r (variable e) h i (λ j. rw p (then_reads e r (Reads (variable e) r) (set_to (up_to s q) j q) _ (set_to_full g (up_to s q) j) (λ k. (refl, refl))))
statement_full {s = s} {r = r} (Says.is_rule {q = q} {h = d} h p g) i =
    by_word_full s q r (rule d) h i (λ j. rw p (then_reads d r (Reads (rule d) r) (declared RuleBlock j q) _ (heading_full g j) (λ k. (refl, refl))))
statement_full {s = s} {r = r} (Says.is_pool {q = q} {h = d} h p g) i =
    by_word_full s q r (pool d) h i (λ j. rw p (then_reads d r (Reads (pool d) r) (declared PoolBlock j q) _ (heading_full g j) (λ k. (refl, refl))))
statement_full {s = s} {r = r} (Says.is_build {q = q} {w = d} h p g) i =
    by_word_full s q r (build d) h i (λ j. rw p (then_reads d r (Reads (build d) r) (edge j q) _ (working_full g j) (λ k. (refl, refl))))

flush_stops : (r : List ℕ) (j : ℕ) → Reads stop r (between (flush_lead r) j r)
unfolding flush_lead
flush_stops [] j = (refl, refl)
flush_stops (x ∷ r) j = (refl, refl)

idle_end_full : {s r : List ℕ} → Flush s r → (i : ℕ) → Reads stop r (skip_turn i s)
idle_end_full {s = s} {r = r} h i = then_reads (flush_lead r) r (Reads stop r) (lead i s) between (flush_full h i) (λ j. flush_stops r j)

idle_full : {s r : List ℕ} {us : List (Unit {0})} → Idle s us r → (i : ℕ) → Reads (more us) r (skip_turn i s)
idle_full {s = s} {r = r} (Idle.blank h) i = then_reads BlankLead r (Reads (more []) r) (lead i s) between (blank_full h i) (λ j. (refl, refl))
idle_full {s = s} {r = r} (Idle.remark h) i = then_reads RemarkLead r (Reads (more []) r) (lead i s) between (comment_line_full h i) (λ j. (refl, refl))

between_full : {s r : List ℕ} {us : List (Unit {0})} → Between s us r → (i : ℕ) → Reads us r (skipped i s)
between_full {s = s} h i =
    repeat_full skip_turn Idle Flush (i + length s) (λ u v g j _. idle_end_full g j) (λ u v xs g j _. idle_full g j) skip_turn_moves h i [] refl

over_full : {s r : List ℕ} → NoStatement s r → (i : ℕ) → Reads stop r (each next i s)
unfolding next
over_full {s = s} {r = r} (NoStatement.over {us = us} h e) i =
    then_reads None r (Reads stop r) (next i s) _
    (then_reads us r (Reads None r) (skipped i s) _ (between_full h i) (λ j. here r e j)) (λ j. (refl, refl))
  where
    here : (r : List ℕ) → length r ≡ 0 → (j : ℕ) → Reads None r (at_start j r)
    here [] e j = (refl, refl)
    here (b ∷ r) e j = absurd (omega arith)

-- a statement does not stand at the manifest's end
start_full : (n : ℕ) (t r : List ℕ) (x : Said) → Says t x r → (j : ℕ) → j + length t ≡ n → Reads (Some (record { place = n - length t; says = x })) r (at_start j t)
start_full n [] r x h j e = absurd (statement_full h j)
start_full n (b ∷ t) r x h j e =
    let p : j ≡ n - length (b ∷ t) = omega arith in
    then_reads x r (Reads (Some (record { place = n - length (b ∷ t); says = x })) r) (statement j (b ∷ t)) _ (statement_full h j)
    (λ k. (ap (λ y. Some (record { place = y; says = x })) p, refl))

one_full : (n : ℕ) {s r : List ℕ} {xs : List Stated} → OneStatement n s xs r → (i : ℕ) → i + length s ≡ n → Reads (more xs) r (each next i s)
unfolding next
one_full n {s} {r} (OneStatement.statement {t = t} {us = us} {x = x} h g) i e =
    let y : Stated = record { place = n - length t; says = x } in
    then_reads (Some y) r (Reads (more (y ∷ [])) r) (next i s) _
    (then_far us t (λ _. 0) (Reads (Some y) r) i s (skipped i s) _ (between_full h i) (skipped_moves i s) (λ j m. start_full n t r x g j (omega (arith, m.place))))
    (λ j. (refl, refl))

pub statements_full : (n : ℕ) {s r : List ℕ} {xs : List Stated} → Statements n s xs r → (i : ℕ) → i + length s ≡ n → Reads xs r (statements i s)
statements_full n h i e =
    repeat_full (each next) (OneStatement n) NoStatement n (λ u v g j _. over_full g j) (λ u v xs g j p. one_full n g j p) (each_moves next next_statement_moves) h i [] e
