-- Lines, blocks and statements: an ending for what stands open at n, with which nothing is left.
use Rattle.std.proofs.Common.{◌≡◌, ℕ, ◌+◌, ◌<◌, ◌≤◌, Bool, true, false, cond, eqb, ◌⊎◌, List, [], ◌∷◌, ◌++◌, length, Some, sym, refl, ap, ◌∙◌, subst, inl, inr, arith}
use Rattle.std.proofs.lemmas.Bool.{eqb-true}
use Rattle.byteclass.specs.Class.{class}
use Rattle.byteclass.specs.Words.{word_of}
use Rattle.byteclass.specs.declared.words.Word.{Word}
use Rattle.byteclass.specs.declared.words.Word.TheVariants.{Rule, Pool, Build, LeftOut, Plain}
use Rattle.cursor.specs.Scan.{Out, ok, and_then, name, spaces, gap, comment, indented, flush, lead}
use Rattle.cursor.specs.declared.place.Opens.TheVariants.{Nothing, Gap}
use Rattle.cursor.specs.declared.lines.Lead.{Lead}
use Rattle.cursor.specs.declared.lines.Lead.TheVariants.{Ends as EndsLead, Blank, Remark, Flush, Indented}
use Rattle.parts.specs.Many.{stop, more, turn_of, repeat, each}
use Rattle.parts.specs.Parts.{Outs, Ins, outputs, inputs, set_to, setting, block_line, block_turn, block, between, skip_turn, skipped}
use Rattle.parts.specs.declared.kinds.Block.{Block}
use Rattle.parts.specs.declared.kinds.Block.TheVariants.{Rule as RuleBlock, Pool as PoolBlock, Build as BuildBlock}
use Rattle.parts.proofs.Many.{each_moves}
use Rattle.parts.proofs.Moves.{block_turn_moves, skip_turn_moves}
use Rattle.text.specs.Text.{Head, Work, variable, rule, pool, build, declared, edge, by_word, statement, at_start, next, statements}
use Rattle.text.proofs.Moves.{next_statement_moves}
use Rattle.text.proofs.Sound.{name_10, name_32}
use Rattle.text.proofs.Later.{Later, then_later, gap_later, name_later, lead_later, each_later, block_line_later, block_later, inputs_later, by_word_later, skip_turn_later, at_start_later, next_later}
use Rattle.text.proofs.NearParts.{head_last, head_line, head_line_later}
use Rattle.text.proofs.Grow.{test, Ends, NotAt, then_ends, assoc, Open, State, Starts, Fresh, move, then_state, map_state, gap_state, byte_state, Stop, name_state}
use Rattle.text.proofs.GrowParts.{Over, Any, guard, weaken, ok_state, repeat_halts, repeat_state, outputs_state, inputs_state, set_to_state, setting_state}

pick : (p q : Bool) (a b c : Out Lead) → p ≡ false → q ≡ true → b ≡ cond p a (cond q b c)
pick p q a b c f t = rw (f, t) refl

module _ (n : ℕ) (x : List ℕ) where
  module _ {B : Type 0} (k : Lead → ℕ → List ℕ → Out B) (at_end : (j : ℕ) → Ends [] (k EndsLead j [])) (at_blank : (j : ℕ) → Ends [] (k Blank j [])) (at_remark : (j : ℕ) → Ends [] (k Remark j [])) (states : (l : Lead) (j b : ℕ) (v : List ℕ) → j + length (b ∷ v) ≡ n → State Over (k l) n x j (b ∷ v)) where
    after_blank : (j : ℕ) (v : List ℕ) → j + length v ≡ n → State Over (k Blank) n x j v
    after_blank j [] e = State.goes here
      where
        here : (t : List ℕ) → Over t → Open (k Blank) j [] t
        here [] Over.over = record { ending = []; ends = at_blank j }
        here (_ ∷ _) p = elim p [ ]
    after_blank j (b ∷ v) e = states Blank j b v e

    after_remark : (j : ℕ) (v : List ℕ) → j + length v ≡ n → State Over (k Remark) n x j v
    after_remark j [] e = State.goes here
      where
        here : (t : List ℕ) → Over t → Open (k Remark) j [] t
        here [] Over.over = record { ending = []; ends = at_remark j }
        here (_ ∷ _) p = elim p [ ]
    after_remark j (b ∷ v) e = states Remark j b v e

    comment_state : (i : ℕ) (u : List ℕ) → i + length u ≡ n → State Over (λ m s. and_then (comment m s) (λ _ j r. k Remark j r)) n x i u
    comment_state i [] e = State.goes here
      where
        here : (t : List ℕ) → Over t → Open (λ m s. and_then (comment m s) (λ _ j r. k Remark j r)) i [] t
        here [] Over.over = record { ending = 10 ∷ []; ends = at_remark (i + 1) }
        here (_ ∷ _) p = elim p [ ]
    comment_state i (b ∷ u) e =
        test (eqb b 10)
        (λ t. move n x Over (λ m s. and_then (comment m s) (λ _ j r. k Remark j r)) (k Remark) i (i + 1) (b ∷ u) u (λ y. rw t refl) (after_remark (i + 1) u (omega arith)))
        (λ f. move n x Over (λ m s. and_then (comment m s) (λ _ j r. k Remark j r)) (λ m s. and_then (comment m s) (λ _ j r. k Remark j r)) i (i + 1) (b ∷ u) u (λ y. rw f refl) (comment_state (i + 1) u (omega arith)))

    indented_state : (i : ℕ) (u : List ℕ) → i + length u ≡ n → State Over (λ m s. and_then (indented m s) k) n x i u
    indented_state i [] e = State.goes here
      where
        here : (t : List ℕ) → Over t → Open (λ m s. and_then (indented m s) k) i [] t
        here [] Over.over = record { ending = 10 ∷ []; ends = at_blank (i + 1) }
        here (_ ∷ _) p = elim p [ ]
    indented_state i (b ∷ u) e =
        test (eqb b 10)
        (λ t. move n x Over (λ m s. and_then (indented m s) k) (k Blank) i (i + 1) (b ∷ u) u (λ y. rw t refl) (after_blank (i + 1) u (omega arith)))
        (λ f. test (eqb b 35)
        (λ t. move n x Over (λ m s. and_then (indented m s) k) (λ m s. and_then (comment m s) (λ _ j r. k Remark j r)) i i (b ∷ u) (b ∷ u)
        (λ y. assoc (comment i (b ∷ u ++ y)) (λ _ j r. ok Remark j r) k ∙ ap (λ o. and_then o k) (pick (eqb b 10) (eqb b 35) _ (and_then (comment i (b ∷ u ++ y)) (λ _ j r. ok Remark j r)) _ f t)) (comment_state i (b ∷ u) e))
        (λ g. move n x Over (λ m s. and_then (indented m s) k) (k Indented) i i (b ∷ u) (b ∷ u) (λ y. rw (f, g) refl) (states Indented i b u e)))

    flush_state : (i b : ℕ) (u : List ℕ) → i + length (b ∷ u) ≡ n → State Over (λ m s. and_then (flush m s) k) n x i (b ∷ u)
    flush_state i b u e =
        test (eqb b 10)
        (λ t. move n x Over (λ m s. and_then (flush m s) k) (k Blank) i (i + 1) (b ∷ u) u (λ y. rw t refl) (after_blank (i + 1) u (omega arith)))
        (λ f. test (eqb b 35)
        (λ t. move n x Over (λ m s. and_then (flush m s) k) (λ m s. and_then (comment m s) (λ _ j r. k Remark j r)) i i (b ∷ u) (b ∷ u)
        (λ y. assoc (comment i (b ∷ u ++ y)) (λ _ j r. ok Remark j r) k ∙ ap (λ o. and_then o k) (pick (eqb b 10) (eqb b 35) _ (and_then (comment i (b ∷ u ++ y)) (λ _ j r. ok Remark j r)) _ f t)) (comment_state i (b ∷ u) e))
        (λ g. move n x Over (λ m s. and_then (flush m s) k) (k Flush) i i (b ∷ u) (b ∷ u) (λ y. rw (f, g) refl) (states Flush i b u e)))

    spaces_state : (i : ℕ) (u : List ℕ) → i + length u ≡ n → State Over (λ m s. and_then (and_then (spaces m s) (λ _ j r. indented j r)) k) n x i u
    spaces_state i [] e = State.goes here
      where
        here : (t : List ℕ) → Over t → Open (λ m s. and_then (and_then (spaces m s) (λ _ j r. indented j r)) k) i [] t
        here [] Over.over = record { ending = 10 ∷ []; ends = at_blank (i + 1) }
        here (_ ∷ _) p = elim p [ ]
    spaces_state i (b ∷ u) e =
        test (eqb b 32)
        (λ t. move n x Over (λ m s. and_then (and_then (spaces m s) (λ _ j r. indented j r)) k) (λ m s. and_then (and_then (spaces m s) (λ _ j r. indented j r)) k) i (i + 1) (b ∷ u) u (λ y. rw t refl) (spaces_state (i + 1) u (omega arith)))
        (λ f. move n x Over (λ m s. and_then (and_then (spaces m s) (λ _ j r. indented j r)) k) (λ m s. and_then (indented m s) k) i i (b ∷ u) (b ∷ u) (λ y. rw f refl) (indented_state i (b ∷ u) e))

    lead_state : (i : ℕ) (u : List ℕ) → i + length u ≡ n → State Over (λ m s. and_then (lead m s) k) n x i u
    lead_state i [] e = State.goes here
      where
        here : (t : List ℕ) → Over t → Open (λ m s. and_then (lead m s) k) i [] t
        here [] Over.over = record { ending = []; ends = at_end i }
        here (_ ∷ _) p = elim p [ ]
    lead_state i (b ∷ u) e =
        test (eqb b 32)
        (λ t. move n x Over (λ m s. and_then (lead m s) k) (λ m s. and_then (and_then (spaces m s) (λ _ j r. indented j r)) k) i i (b ∷ u) (b ∷ u) (λ y. rw t refl) (spaces_state i (b ∷ u) e))
        (λ f. move n x Over (λ m s. and_then (lead m s) k) (λ m s. and_then (flush m s) k) i i (b ∷ u) (b ∷ u) (λ y. rw f refl) (flush_state i b u e))

  block_line_state : (b : Block) (l : Lead) (j c : ℕ) (v : List ℕ) → j + length (c ∷ v) ≡ n → State Over (block_line b l) n x j (c ∷ v)
  block_line_state b EndsLead j c v e = ok_state n x Over stop j (c ∷ v) e
  block_line_state b Blank j c v e = ok_state n x Over stop j (c ∷ v) e
  block_line_state b Flush j c v e = ok_state n x Over stop j (c ∷ v) e
  block_line_state b Remark j c v e = ok_state n x Over (more []) j (c ∷ v) e
  block_line_state b Indented j c v e = weaken n x Any Over (block_line b Indented) j (c ∷ v) (λ t p. tt) (map_state n x Any (setting b) (λ w. more (w ∷ [])) j (c ∷ v) (setting_state n x b j (c ∷ v) e))

over_turn : (b : Block) (t : List ℕ) → Over t → (j : ℕ) → block_turn b j t ≡ ok stop j t
over_turn b [] Over.over j = refl
over_turn b (_ ∷ _) p j = elim p [ ]

over_skip : (t : List ℕ) → Over t → (j : ℕ) → skip_turn j t ≡ ok stop j t
over_skip [] Over.over j = refl
over_skip (_ ∷ _) p j = elim p [ ]

block_over : (b : Block) (j : ℕ) → Ends [] (block b j [])
block_over b j = subst (Ends []) (sym (repeat_halts (block_turn b) (block_turn_moves b) j [] [] refl)) refl

head_last_over : (b : Block) (m : List ℕ) (j : ℕ) → Ends [] (head_last b m j [])
head_last_over b m j = then_ends [] [] (block b j []) _ (block_over b j) (λ ls k. refl)

-- after the name of a rule or pool
abbrev head_gap : Block → List ℕ → ℕ → List ℕ → Out Head
head_gap b m j r = and_then (gap j r) (λ _ j3 r3. head_line b m j3 r3)

abbrev head_name : Block → ℕ → List ℕ → Out Head
head_name b j r = and_then (name Gap j r) (λ m j2 r2. head_gap b m j2 r2)

head_a : (b : Block) (j : ℕ) → Ends [] (head_name b j (97 ∷ 10 ∷ []))
unfolding class
head_a b j = head_last_over b (97 ∷ []) (j + 1 + 1)

-- after the outputs, the rule's name and the inputs
abbrev work_last : Outs → List ℕ → Ins → ℕ → List ℕ → Out Work
work_last os m is j r = and_then (block BuildBlock j r) (λ ls j5 r5. ok (record { outs = os; rule = m; ins = is; lines = ls }) j5 r5)

abbrev work_ins : Outs → List ℕ → ℕ → List ℕ → Out Work
work_ins os m j r = and_then (inputs j r) (λ is j4 r4. work_last os m is j4 r4)

abbrev work_name : Outs → ℕ → List ℕ → Out Work
work_name os j r = and_then (name Gap j r) (λ m j3 r3. work_ins os m j3 r3)

abbrev work_gap : Outs → ℕ → List ℕ → Out Work
work_gap os j r = and_then (gap j r) (λ _ j2 r2. work_name os j2 r2)

work_last_over : (os : Outs) (m : List ℕ) (is : Ins) (j : ℕ) → Ends [] (work_last os m is j [])
work_last_over os m is j = then_ends [] [] (block BuildBlock j []) _ (block_over BuildBlock j) (λ ls k. refl)

inputs_line : (j : ℕ) → Ends [] (inputs j (10 ∷ []))
unfolding repeat
inputs_line j = refl

work_ins_line : (os : Outs) (m : List ℕ) (j : ℕ) → Ends [] (work_ins os m j (10 ∷ []))
work_ins_line os m j = then_ends [] [] (inputs j (10 ∷ [])) (λ is j4 r4. work_last os m is j4 r4) (inputs_line j) (λ is k. work_last_over os m is k)

work_a : (os : Outs) (j : ℕ) → Ends [] (work_name os j (97 ∷ 10 ∷ []))
unfolding class
work_a os j = work_ins_line os (97 ∷ []) (j + 1)

work_gap_a : (os : Outs) (j : ℕ) → Ends [] (work_gap os j (97 ∷ 10 ∷ []))
work_gap_a os j = work_a os j

module _ (n : ℕ) (x : List ℕ) where
  block_turn_state : (b : Block) (i : ℕ) (u : List ℕ) → i + length u ≡ n → State Over (block_turn b) n x i u
  block_turn_state b i u e = lead_state n x (block_line b) (λ j. refl) (λ j. refl) (λ j. refl) (block_line_state n x b) i u e

  block_state : (b : Block) (i : ℕ) (u : List ℕ) → i + length u ≡ n → State Over (block b) n x i u
  block_state b i u e =
      repeat_state (block_turn b) (block_turn_moves b) n x Over (over_turn b)
      (λ j t m. then_later (n + 1) (lead j t) _ (lead_later (n + 1) j t m) (λ d k r h. block_line_later (n + 1) b d k r h)) (block_turn_state b) i u [] e

  head_last_state : (b : Block) (m : List ℕ) (j : ℕ) (v : List ℕ) → j + length v ≡ n → State Over (head_last b m) n x j v
  head_last_state b m j v e = map_state n x Over (block b) _ j v (block_state b j v e)

  head_line_state : (b : Block) (m : List ℕ) (j c : ℕ) (v : List ℕ) → j + length (c ∷ v) ≡ n → (c ≡ 36 → 0 < length v) → State Over (head_line b m) n x j (c ∷ v)
  head_line_state b m j c v e h = byte_state n x Over 10 Gap (head_last b m) starts (λ j2 v2 q2. head_last_state b m j2 v2 q2) j (c ∷ v) e (guard Gap c v (λ t. h (eqb-true c 36 t)))
    where
      starts : (t : List ℕ) → Over t → Starts (λ _. Unit {0}) (λ (a : Unit {0}) k r. head_last b m k r) t
      starts [] Over.over = record { first = []; fits = tt; reads = λ a k. head_last_over b m k }
      starts (_ ∷ _) p = elim p [ ]

  head_gap_state : (b : Block) (m : List ℕ) (j : ℕ) (v : List ℕ) → j + length v ≡ n → State Over (head_gap b m) n x j v
  head_gap_state b m j v e = gap_state n x Over (head_line b m) fresh (λ j2 c v2 q2 h. head_line_state b m j2 c v2 q2 h) j v e
    where
      fresh : (t : List ℕ) → Over t → Fresh (head_line b m) t
      fresh [] Over.over = record { first = 10 ∷ []; rests = λ k. refl; reads = λ k. head_last_over b m (k + 1) }
      fresh (_ ∷ _) p = elim p [ ]

  head_gap_later : (b : Block) (m : List ℕ) (j : ℕ) (r : List ℕ) → n + 1 ≤ j → Later (n + 1) (head_gap b m j r)
  head_gap_later b m j r h = then_later (n + 1) (gap j r) (λ _ j3 r3. head_line b m j3 r3) (gap_later (n + 1) j r h) (λ _ j3 r3 h3. head_line_later (n + 1) x x b m j3 r3 h3)

  declared_state : (b : Block) (i : ℕ) (u : List ℕ) → i + length u ≡ n → State Over (declared b) n x i u
  declared_state b i u e =
      gap_state n x Over (head_name b) fresh
      (λ j c v q h. name_state n x Over Gap (λ k m j2 r2. head_gap b m j2 r2) start (λ k m. inl (stops m)) (λ k m j2 v2 q2 _. head_gap_state b m j2 v2 q2) (λ k m j2 r2 h2. head_gap_later b m j2 r2 h2) j (c ∷ v) q (guard Gap c v (λ t. h (eqb-true c 36 t)))) i u e
    where
      fresh : (t : List ℕ) → Over t → Fresh (head_name b) t
      fresh [] Over.over = record { first = 97 ∷ 10 ∷ []; rests = λ k. refl; reads = λ k. head_a b k }
      fresh (_ ∷ _) p = elim p [ ]

      start : (k : ℕ) (t : List ℕ) → Over t → Open (head_name b) k [] t
      start k [] Over.over = record { ending = 97 ∷ 10 ∷ []; ends = head_a b k }
      start k (_ ∷ _) p = elim p [ ]

      stops : (m : List ℕ) (t : List ℕ) → Over t → Stop (head_gap b m) t
      stops m [] Over.over = record { first = 10 ∷ []; no_more = name_10; reads = λ k. head_last_over b m (k + 1) }
      stops m (_ ∷ _) p = elim p [ ]

  work_last_state : (os : Outs) (m : List ℕ) (is : Ins) (j : ℕ) (v : List ℕ) → j + length v ≡ n → State Over (work_last os m is) n x j v
  work_last_state os m is j v e = map_state n x Over (block BuildBlock) _ j v (block_state BuildBlock j v e)

  work_last_later : (os : Outs) (m : List ℕ) (is : Ins) (j : ℕ) (r : List ℕ) → n + 1 ≤ j → Later (n + 1) (work_last os m is j r)
  work_last_later os m is j r h = then_later (n + 1) (block BuildBlock j r) _ (block_later (n + 1) BuildBlock j r h) (λ ls j5 r5 h5. h5)

  work_ins_state : (os : Outs) (m : List ℕ) (j : ℕ) (v : List ℕ) → j + length v ≡ n → State Over (work_ins os m) n x j v
  work_ins_state os m j v e = then_state n x Any Over inputs (λ is j4 r4. work_last os m is j4 r4) j v (inputs_state n x j v e) starts (λ is j4 v4 q4 _. work_last_state os m is j4 v4 q4) (λ is j4 r4 h4. work_last_later os m is j4 r4 h4)
    where
      starts : (t : List ℕ) → Over t → Starts Any (λ is j4 r4. work_last os m is j4 r4) t
      starts [] Over.over = record { first = []; fits = tt; reads = λ is k. work_last_over os m is k }
      starts (_ ∷ _) p = elim p [ ]

  work_ins_later : (os : Outs) (m : List ℕ) (j : ℕ) (r : List ℕ) → n + 1 ≤ j → Later (n + 1) (work_ins os m j r)
  work_ins_later os m j r h = then_later (n + 1) (inputs j r) (λ is j4 r4. work_last os m is j4 r4) (inputs_later (n + 1) j r h) (λ is j4 r4 h4. work_last_later os m is j4 r4 h4)

  work_gap_later : (os : Outs) (j : ℕ) (r : List ℕ) → n + 1 ≤ j → Later (n + 1) (work_gap os j r)
  work_gap_later os j r h =
      then_later (n + 1) (gap j r) (λ _ j2 r2. work_name os j2 r2) (gap_later (n + 1) j r h) (λ _ j2 r2 h2.
      then_later (n + 1) (name Gap j2 r2) (λ m j3 r3. work_ins os m j3 r3) (name_later (n + 1) Gap j2 r2 h2) (λ m j3 r3 h3. work_ins_later os m j3 r3 h3))

  work_gap_state : (os : Outs) (i : ℕ) (u : List ℕ) → i + length u ≡ n → State Over (work_gap os) n x i u
  work_gap_state os i u e =
      gap_state n x Over (work_name os) fresh
      (λ j c v q h. name_state n x Over Gap (λ k m j2 r2. work_ins os m j2 r2) start (λ k m. inl (stops m)) (λ k m j2 v2 q2 _. work_ins_state os m j2 v2 q2) (λ k m j2 r2 h2. work_ins_later os m j2 r2 h2) j (c ∷ v) q (guard Gap c v (λ t. h (eqb-true c 36 t)))) i u e
    where
      fresh : (t : List ℕ) → Over t → Fresh (work_name os) t
      fresh [] Over.over = record { first = 97 ∷ 10 ∷ []; rests = λ k. refl; reads = λ k. work_a os k }
      fresh (_ ∷ _) p = elim p [ ]

      start : (k : ℕ) (t : List ℕ) → Over t → Open (work_name os) k [] t
      start k [] Over.over = record { ending = 97 ∷ 10 ∷ []; ends = work_a os k }
      start k (_ ∷ _) p = elim p [ ]

      stops : (m : List ℕ) (t : List ℕ) → Over t → Stop (work_ins os m) t
      stops m [] Over.over = record { first = 10 ∷ []; no_more = name_10; reads = λ k. work_ins_line os m k }
      stops m (_ ∷ _) p = elim p [ ]

  edge_state : (i : ℕ) (u : List ℕ) → i + length u ≡ n → State Over edge n x i u
  edge_state i u e = then_state n x Any Over outputs work_gap i u (outputs_state n x i u e) starts (λ os j v q _. work_gap_state os j v q) (λ os j r h. work_gap_later os j r h)
    where
      starts : (t : List ℕ) → Over t → Starts Any work_gap t
      starts [] Over.over = record { first = 97 ∷ 10 ∷ []; fits = tt; reads = λ os k. work_gap_a os k }
      starts (_ ∷ _) p = elim p [ ]

  by_word_state : (w : Word) (m : List ℕ) (k j : ℕ) (v : List ℕ) → j + length v ≡ n → State Over (by_word w m k) n x j v
  by_word_state Plain m k j v e = weaken n x Any Over (by_word Plain m k) j v (λ t p. tt) (map_state n x Any (set_to m) variable j v (set_to_state n x m j v e))
  by_word_state Rule m k j v e = map_state n x Over (declared RuleBlock) rule j v (declared_state RuleBlock j v e)
  by_word_state Pool m k j v e = map_state n x Over (declared PoolBlock) pool j v (declared_state PoolBlock j v e)
  by_word_state Build m k j v e = map_state n x Over edge build j v (edge_state j v e)
  by_word_state LeftOut m k j v e = State.never tt

head_spaced : (b : Block) (j : ℕ) → Ends [] (declared b j (32 ∷ 97 ∷ 10 ∷ []))
head_spaced b j = head_a b (j + 1)

outputs_spaced : (j : ℕ) → Ends (97 ∷ 10 ∷ []) (outputs j (32 ∷ 97 ∷ 58 ∷ 97 ∷ 10 ∷ []))
unfolding repeat
outputs_spaced j = refl

edge_spaced : (j : ℕ) → Ends [] (edge j (32 ∷ 97 ∷ 58 ∷ 97 ∷ 10 ∷ []))
edge_spaced j = then_ends (97 ∷ 10 ∷ []) [] (outputs j (32 ∷ 97 ∷ 58 ∷ 97 ∷ 10 ∷ [])) work_gap (outputs_spaced j) (λ os k. work_gap_a os k)

module _ (n : ℕ) (x : List ℕ) where
  by_word_at : (w : Word) (m : List ℕ) (k : ℕ) → ((t : List ℕ) → Over t → Stop (by_word w m k) t) ⊎ NotAt n (by_word w m k n x)
  by_word_at Plain m k = inl here
    where
      here : (t : List ℕ) → Over t → Stop (by_word Plain m k) t
      here [] Over.over = record { first = 32 ∷ 61 ∷ 10 ∷ []; no_more = name_32; reads = λ j. refl }
      here (_ ∷ _) p = elim p [ ]
  by_word_at Rule m k = inl here
    where
      here : (t : List ℕ) → Over t → Stop (by_word Rule m k) t
      here [] Over.over = record { first = 32 ∷ 97 ∷ 10 ∷ []; no_more = name_32; reads = λ j. then_ends [] [] (declared RuleBlock j (32 ∷ 97 ∷ 10 ∷ [])) _ (head_spaced RuleBlock j) (λ d i. refl) }
      here (_ ∷ _) p = elim p [ ]
  by_word_at Pool m k = inl here
    where
      here : (t : List ℕ) → Over t → Stop (by_word Pool m k) t
      here [] Over.over = record { first = 32 ∷ 97 ∷ 10 ∷ []; no_more = name_32; reads = λ j. then_ends [] [] (declared PoolBlock j (32 ∷ 97 ∷ 10 ∷ [])) _ (head_spaced PoolBlock j) (λ d i. refl) }
      here (_ ∷ _) p = elim p [ ]
  by_word_at Build m k = inl here
    where
      here : (t : List ℕ) → Over t → Stop (by_word Build m k) t
      here [] Over.over = record { first = 32 ∷ 97 ∷ 58 ∷ 97 ∷ 10 ∷ []; no_more = name_32; reads = λ j. then_ends [] [] (edge j (32 ∷ 97 ∷ 58 ∷ 97 ∷ 10 ∷ [])) _ (edge_spaced j) (λ d i. refl) }
      here (_ ∷ _) p = elim p [ ]
  by_word_at LeftOut m k = inr tt

  statement_state : (i : ℕ) (u : List ℕ) → i + length u ≡ n → State Over statement n x i u
  unfolding class word_of
  statement_state i u e =
      name_state n x Over Nothing (λ k m j r. by_word (word_of m) m k j r) start (λ k m. by_word_at (word_of m) m k) (λ k m j v q _. by_word_state n x (word_of m) m k j v q) (λ k m j r h. by_word_later (n + 1) (word_of m) m k j r h) i u e (λ b v _ t. absurd (let z : ◌≡◌ {A = ℕ} 0 1 = cc in omega arith))
    where
      start : (k : ℕ) (t : List ℕ) → Over t → Open statement k [] t
      start k [] Over.over = record { ending = 97 ∷ 61 ∷ 10 ∷ []; ends = refl }
      start k (_ ∷ _) p = elim p [ ]

  at_start_state : (i : ℕ) (u : List ℕ) → i + length u ≡ n → State Over at_start n x i u
  at_start_state i [] e = State.goes here
    where
      here : (t : List ℕ) → Over t → Open at_start i [] t
      here [] Over.over = record { ending = []; ends = refl }
      here (_ ∷ _) p = elim p [ ]
  at_start_state i (b ∷ u) e =
      move n x Over at_start (λ m s. and_then (statement m s) (λ y j r. ok (Some (record { place = i; says = y })) j r)) i i (b ∷ u) (b ∷ u) (λ y. refl)
      (map_state n x Over statement (λ y. Some (record { place = i; says = y })) i (b ∷ u) (statement_state i (b ∷ u) e))

  between_state : (l : Lead) (j c : ℕ) (v : List ℕ) → j + length (c ∷ v) ≡ n → State Over (between l) n x j (c ∷ v)
  between_state EndsLead j c v e = ok_state n x Over stop j (c ∷ v) e
  between_state Flush j c v e = ok_state n x Over stop j (c ∷ v) e
  between_state Blank j c v e = ok_state n x Over (more []) j (c ∷ v) e
  between_state Remark j c v e = ok_state n x Over (more []) j (c ∷ v) e
  between_state Indented j c v e = State.never (λ q. omega arith)

  skip_turn_state : (i : ℕ) (u : List ℕ) → i + length u ≡ n → State Over skip_turn n x i u
  skip_turn_state i u e = lead_state n x between (λ j. refl) (λ j. refl) (λ j. refl) between_state i u e

  next_state : (i : ℕ) (u : List ℕ) → i + length u ≡ n → State Over next n x i u
  unfolding next
  next_state i u e =
      then_state n x Over Over skipped (λ _ j r. at_start j r) i u (repeat_state skip_turn skip_turn_moves n x Over over_skip (skip_turn_later (n + 1)) skip_turn_state i u [] e)
      starts (λ _ j v q _. at_start_state j v q) (λ _ j r h. at_start_later (n + 1) j r h)
    where
      starts : (t : List ℕ) → Over t → Starts Over (λ (us : List (Unit {0})) j r. at_start j r) t
      starts [] Over.over = record { first = []; fits = Over.over; reads = λ us k. refl }
      starts (_ ∷ _) p = elim p [ ]

over_next : (t : List ℕ) → Over t → (j : ℕ) → each next j t ≡ ok stop j t
unfolding next
over_next [] Over.over j = ap (λ o. and_then (and_then o (λ _ k r. at_start k r)) (λ o2 k r. ok (turn_of o2) k r)) (repeat_halts skip_turn skip_turn_moves j [] [] refl)
over_next (_ ∷ _) p j = elim p [ ]

pub statements_state : (n : ℕ) (x : List ℕ) (i : ℕ) (u : List ℕ) → i + length u ≡ n → State Over (statements) n x i u
statements_state n x i u e =
    repeat_state (each next) (each_moves next next_statement_moves) n x Over over_next (each_later (n + 1) next (next_later (n + 1)))
    (λ j v q. map_state n x Over next turn_of j v (next_state n x j v q)) i u [] e
