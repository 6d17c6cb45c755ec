-- One reading more of a repeated one.
use Rattle.std.proofs.Common.{◌≡◌, ℕ, zero, suc, ◌<◌, List, [], ◌∷◌, ◌++◌, length, Some, None, Option, sym, refl, ◌∙◌, subst, arith}
use Rattle.cursor.specs.Scan.{Out, ok, bad}
use Rattle.cursor.specs.declared.place.Fault.{Fault}
use Rattle.cursor.proofs.Moves.{Ahead, Moves, then_moves, some}
use Rattle.cursor.specs.Told.{maybe}
use Rattle.parts.specs.Many.{Turn, stop, more, turn, turn_of, many, repeat, each}

-- a reading that adds something passes a byte
abbrev pub turned : {E : Type 0} → Turn E → ℕ
turned stop = 0
turned (more xs) = 1

-- what is read so far, es, and what is left come to o
pub record Sofar {E : Type 0} (f : ℕ → List ℕ → Out (Turn E)) (o : Out (List E)) (i : ℕ) (s : List ℕ) (es : List E) : Type 0 where
  pub turns : ℕ
  pub enough : length s < turns
  pub same : many f turns i s es ≡ o

module _ {E : Type 0} (f : ℕ → List ℕ → Out (Turn E)) where
  pub begun : (i : ℕ) (s : List ℕ) (es : List E) → Sofar f (repeat f es i s) i s es
  unfolding repeat
  begun i s es = record { turns = suc (length s); enough = omega arith; same = refl }

  module _ (moves : (i : ℕ) (s : List ℕ) → Moves turned i s (f i s)) (i : ℕ) (s : List ℕ) where
    pub shorter : (j : ℕ) (r : List ℕ) (xs : List E) → ok (more xs) j r ≡ f i s → length r < length s
    shorter j r xs q = let h : Moves turned i s (ok (more xs) j r) = subst (Moves turned i s) (sym q) (moves i s) in omega (arith, h.place, h.past)

    going : (k : ℕ) (o : Out (List E)) (j : ℕ) (r : List ℕ) (es xs fs : List E) → length s < k → many f k i s es ≡ o → ok (more xs) j r ≡ f i s → fs ≡ es ++ xs → Sofar f o j r fs
    going zero o j r es xs fs l h q w = absurd (omega arith)
    going (suc k) o j r es xs fs l h q w =
        let one : many f (suc k) i s es ≡ many f k j r (es ++ xs) = rw (← q) in
        record { turns = k; enough = omega (arith, shorter j r xs q); same = rw w (sym one ∙ h) }

    pub go_on : (o : Out (List E)) (j : ℕ) (r : List ℕ) (es xs fs : List E) → Sofar f o i s es → ok (more xs) j r ≡ f i s → fs ≡ es ++ xs → Sofar f o j r fs
    go_on o j r es xs fs h q w = going h.turns o j r es xs fs h.enough h.same q w

    ending : (k : ℕ) (o : Out (List E)) (j : ℕ) (r : List ℕ) (es : List E) → length s < k → many f k i s es ≡ o → ok stop j r ≡ f i s → ok es j r ≡ o
    ending zero o j r es l h q = absurd (omega arith)
    ending (suc k) o j r es l h q =
        let one : many f (suc k) i s es ≡ ok es j r = rw (← q) in
        sym one ∙ h

    pub end_here : (o : Out (List E)) (j : ℕ) (r : List ℕ) (es : List E) → Sofar f o i s es → ok stop j r ≡ f i s → ok es j r ≡ o
    end_here o j r es h q = ending h.turns o j r es h.enough h.same q

    failing : (k : ℕ) (o : Out (List E)) (e : Fault) (es : List E) → length s < k → many f k i s es ≡ o → bad e ≡ f i s → bad e ≡ o
    failing zero o e es l h q = absurd (omega arith)
    failing (suc k) o e es l h q =
        let one : many f (suc k) i s es ≡ bad e = rw (← q) in
        sym one ∙ h

    pub fail_here : (o : Out (List E)) (e : Fault) (es : List E) → Sofar f o i s es → bad e ≡ f i s → bad e ≡ o
    fail_here o e es h q = failing h.turns o e es h.enough h.same q

  turn_moves : (i : ℕ) (s : List ℕ) (t : Turn E) (es : List E) (j : ℕ) (r : List ℕ) (k : List E → Out (List E)) → Ahead (turned t) i s j r → ((fs : List E) → Moves (λ _. 0) j r (k fs)) → Moves (λ _. 0) i s (turn t es j r k)
  turn_moves i s stop es j r k h m = record { place = h.place; past = h.past }
  turn_moves i s (more xs) es j r k h m = on (k (es ++ xs)) (m (es ++ xs))
    where
      on : (o : Out (List E)) → Moves (λ _. 0) j r o → Moves (λ _. 0) i s o
      on (ok a n t) g = record { place = omega (arith, h.place, g.place); past = omega (arith, h.past, g.past) }
      on (bad e) g = tt

  pub many_moves : ((i : ℕ) (s : List ℕ) → Moves turned i s (f i s)) → (k i : ℕ) (s : List ℕ) (es : List E) → Moves (λ _. 0) i s (many f k i s es)
  many_moves moves zero i s es = record { place = refl; past = omega arith }
  many_moves moves (suc k) i s es = then_moves turned (λ _. 0) i s (f i s) _ (moves i s) (λ t j r h. turn_moves i s t es j r _ h (λ fs. many_moves moves k j r fs))

module _ {E : Type 0} (f : ℕ → List ℕ → Out (Option E)) (moves : (i : ℕ) (s : List ℕ) → Moves some i s (f i s)) where
  one_turn : (i : ℕ) (s : List ℕ) (o : Option E) (j : ℕ) (r : List ℕ) → Ahead (some o) i s j r → Ahead (turned (turn_of o)) i s j r
  one_turn i s None j r h = h
  one_turn i s (Some x) j r h = h

  pub each_moves : (i : ℕ) (s : List ℕ) → Moves turned i s (each f i s)
  each_moves i s = then_moves some turned i s (f i s) _ (moves i s) (λ o j r h. one_turn i s o j r h)

  module _ {X : Type 0} (g : X → E) (i : ℕ) (s : List ℕ) (j : ℕ) (r : List ℕ) (o : Option X) where
    pub some_more : (x : X) → o ≡ Some x → ok (maybe g o) j r ≡ f i s → ok (more (g x ∷ [])) j r ≡ each f i s
    some_more x p q = rw (← q, p)

    pub none_stop : o ≡ None → ok (maybe g o) j r ≡ f i s → ok stop j r ≡ each f i s
    none_stop p q = rw (← q, p)

  pub bad_each : (i : ℕ) (s : List ℕ) (e : Fault) → bad e ≡ f i s → bad e ≡ each f i s
  bad_each i s e q = rw (← q)

-- an answer whose case is known
pub known : {X E : Type 0} (g : X → E) (x y : X) (j : ℕ) (r : List ℕ) (o : Out E) → x ≡ y → ok (g x) j r ≡ o → ok (g y) j r ≡ o
known g x y j r o p q = rw (← p) q
