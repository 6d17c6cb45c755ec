-- Where a reading of u and then x stands at n, the end of u: some ending completes it, it was over before, or it has no fault of the grammar at n.
use Rattle.std.proofs.Common.{◌≡◌, ℕ, zero, suc, ◌+◌, ◌-◌, ◌<◌, ◌≤◌, Bool, true, false, ◌&&◌, ◌||◌, eqb, ltb, ◌⊎◌, List, [], ◌∷◌, ◌++◌, length, get_or, take, drop, sym, refl, ap, ◌∙◌, subst, inl, inr, ⊎_elim, arith, length-drop}
use Rattle.std.proofs.lemmas.Bool.{cond_both, eqb-true, eqb-false, ne_eqb, eq-eqb, and_parts, ltb-true, ltb-false}
use Rattle.std.proofs.lemmas.List.{take-append-le}
use Rattle.byteclass.specs.Class.{name_byte}
use Rattle.cursor.specs.Scan.{Out, ok, bad, and_then, spot, up_to, opens, lack, name_len, name_of, name, gap, byte, braced, escaped, scan, value, stops, walk, path, bar, pair}
use Rattle.cursor.specs.declared.place.Fault.{Fault}
use Rattle.cursor.specs.declared.place.Fault.TheVariants.{TooLong, Banned, Syntax, Dollar, LeftOut as LeftOutAt}
use Rattle.cursor.specs.declared.place.Opens.{Opens}
use Rattle.cursor.proofs.Steps.{gap_space, gap_wrap, scan_line, scan_plain}
use Rattle.text.proofs.Later.{LateFault, Later, scan_later, walk_later}
use Rattle.text.proofs.Near.{name_len_near, drop_left}
use Rattle.text.proofs.NearScan.{gap_else, escaped_near, up_to_left, scan_on, walk_go, walk_on, walk_stop_here, walk_space_here}
use Rattle.text.proofs.NearParts.{bar_else, pair_else}

-- by a test, with what it says
pub test : {C : Type 0} (b : Bool) → (b ≡ true → C) → (b ≡ false → C) → C
test true h k = h refl
test false h k = k refl

-- a reading succeeds and leaves t
abbrev pub Ends : {A : Type 0} → List ℕ → Out A → Type 0
Ends t (ok a j r) = r ≡ t
Ends t (bad f) = ⊥

abbrev pub NotFault : ℕ → Fault → Type 0
NotFault n TooLong = Unit {0}
NotFault n (Banned p) = Unit {0}
NotFault n (Syntax p) = p.byte ≡ n → ⊥
NotFault n (Dollar p) = Unit {0}
NotFault n (LeftOutAt p) = Unit {0}

-- a reading goes past n, or has a fault that is none of the grammar at n
abbrev pub NotAt : {A : Type 0} → ℕ → Out A → Type 0
NotAt n (ok a j r) = n < j
NotAt n (bad f) = NotFault n f

late_fault : (n : ℕ) (f : Fault) → LateFault (n + 1) f → NotFault n f
late_fault n TooLong h = tt
late_fault n (Banned p) h = tt
late_fault n (Syntax p) h = λ e. omega arith
late_fault n (Dollar p) h = tt
late_fault n (LeftOutAt p) h = tt

pub late_not : {A : Type 0} (n : ℕ) (o : Out A) → Later (n + 1) o → NotAt n o
late_not n (ok a j r) h = omega arith
late_not n (bad f) h = late_fault n f h

pub then_ends : {A B : Type 0} (r t : List ℕ) (o : Out A) (k : A → ℕ → List ℕ → Out B) → Ends r o → ((a : A) (j : ℕ) → Ends t (k a j r)) → Ends t (and_then o k)
then_ends r t (ok a j s) k h g = subst (λ z. Ends t (k a j z)) (sym h) (g a j)
then_ends r t (bad f) k h g = absurd h

pub then_not : {A B : Type 0} (n : ℕ) (o : Out A) (k : A → ℕ → List ℕ → Out B) → NotAt n o → ((a : A) (j : ℕ) (r : List ℕ) → n + 1 ≤ j → Later (n + 1) (k a j r)) → NotAt n (and_then o k)
then_not n (ok a j s) k h g = late_not n (k a j s) (g a j s (omega arith))
then_not n (bad f) k h g = h

pub assoc : {A B C : Type 0} (o : Out A) (f : A → ℕ → List ℕ → Out B) (g : B → ℕ → List ℕ → Out C) → and_then o (λ a j r. and_then (f a j r) g) ≡ and_then (and_then o f) g
assoc (ok a j r) f g = refl
assoc (bad e) f g = refl

-- an ending after u with which d leaves t
pub record Open {A : Type 0} (d : ℕ → List ℕ → Out A) (i : ℕ) (u t : List ℕ) : Type 0 where
  pub ending : List ℕ
  pub ends : Ends t (d i (u ++ ending))

-- at the end of u: some ending completes d before any t of the kind P; d was over, whatever follows u; or d has no fault of the grammar at n
pub data State {A : Type 0} (P : List ℕ → Type 0) (d : ℕ → List ℕ → Out A) (n : ℕ) (x : List ℕ) (i : ℕ) (u : List ℕ) : Type 0 where
  goes : ((t : List ℕ) → P t → Open d i u t) → State P d n x i u
  done : (a : A) (j : ℕ) (v : List ℕ) → j + length v ≡ n → 0 < length v → ((y : List ℕ) → d i (u ++ y) ≡ ok a j (v ++ y)) → State P d n x i u
  never : NotAt n (d i (u ++ x)) → State P d n x i u

-- where k begins: bytes with which it leaves t, of the kind P
pub record Starts {A B : Type 0} (P : List ℕ → Type 0) (k : A → ℕ → List ℕ → Out B) (t : List ℕ) : Type 0 where
  pub first : List ℕ
  pub fits : P first
  pub reads : (a : A) (j : ℕ) → Ends t (k a j first)

-- where k begins after a gap
pub record Fresh {B : Type 0} (k : ℕ → List ℕ → Out B) (t : List ℕ) : Type 0 where
  pub first : List ℕ
  pub rests : (i : ℕ) → gap i first ≡ ok tt i first
  pub reads : (j : ℕ) → Ends t (k j first)

module _ (n : ℕ) (x : List ℕ) where
  pub move : {A : Type 0} (P : List ℕ → Type 0) (d e : ℕ → List ℕ → Out A) (i j : ℕ) (u v : List ℕ) → ((y : List ℕ) → e j (v ++ y) ≡ d i (u ++ y)) → State P e n x j v → State P d n x i u
  move P d e i j u v q (State.goes h) = State.goes (λ t p. let w = h t p in record { ending = w.ending; ends = subst (Ends t) (q w.ending) w.ends })
  move P d e i j u v q (State.done a m r l z h) = State.done a m r l z (λ y. sym (q y) ∙ h y)
  move P d e i j u v q (State.never h) = State.never (subst (NotAt n) (q x) h)

  pub then_state : {A B : Type 0} (P Q : List ℕ → Type 0) (d : ℕ → List ℕ → Out A) (k : A → ℕ → List ℕ → Out B) (i : ℕ) (u : List ℕ) → State P d n x i u → ((t : List ℕ) → Q t → Starts P k t) → ((a : A) (j : ℕ) (v : List ℕ) → j + length v ≡ n → 0 < length v → State Q (k a) n x j v) → ((a : A) (j : ℕ) (r : List ℕ) → n + 1 ≤ j → Later (n + 1) (k a j r)) → State Q (λ m s. and_then (d m s) k) n x i u
  then_state P Q d k i u (State.goes h) g1 g2 g3 =
      State.goes (λ t p. let w = g1 t p in let z = h w.first w.fits in record { ending = z.ending; ends = then_ends w.first t (d i (u ++ z.ending)) k z.ends w.reads })
  then_state P Q d k i u (State.done a j v l z h) g1 g2 g3 =
      move Q (λ m s. and_then (d m s) k) (k a) i j u v (λ y. ap (λ o. and_then o k) (sym (h y))) (g2 a j v l z)
  then_state P Q d k i u (State.never h) g1 g2 g3 = State.never (then_not n (d i (u ++ x)) k h g3)

  -- as it was, with another result
  pub map_state : {A B : Type 0} (P : List ℕ → Type 0) (d : ℕ → List ℕ → Out A) (f : A → B) (i : ℕ) (u : List ℕ) → State P d n x i u → State P (λ m s. and_then (d m s) (λ a j r. ok (f a) j r)) n x i u
  map_state P d f i u h =
      then_state P P d (λ a j r. ok (f a) j r) i u h (λ t p. record { first = t; fits = p; reads = λ a j. refl }) (λ a j v l z. State.done (f a) j v l z (λ y. refl)) (λ a j r l. l)

  pub gap_state : {B : Type 0} (P : List ℕ → Type 0) (k : ℕ → List ℕ → Out B) → ((t : List ℕ) → P t → Fresh k t) → ((j b : ℕ) (v : List ℕ) → j + length (b ∷ v) ≡ n → (b ≡ 36 → 0 < length v) → State P k n x j (b ∷ v)) → (i : ℕ) (u : List ℕ) → i + length u ≡ n → State P (λ m s. and_then (gap m s) (λ _ j r. k j r)) n x i u
  gap_state P k fresh states i [] e = State.goes (λ t p. let w = fresh t p in record { ending = w.first; ends = subst (λ o. Ends t (and_then o (λ _ j r. k j r))) (sym (w.rests i)) (w.reads i) })
  gap_state P k fresh states i (b ∷ []) e =
      test (eqb b 32)
      (λ t. move P (λ m s. and_then (gap m s) (λ _ j r. k j r)) (λ m s. and_then (gap m s) (λ _ j r. k j r)) i (i + 1) (b ∷ []) []
      (λ y. ap (λ o. and_then o (λ _ j r. k j r)) (gap_space i (i + 1) (b ∷ y) y (omega arith) (eqb-true b 32 t) refl refl))
      (gap_state P k fresh states (i + 1) [] (omega arith)))
      (λ f. test (eqb b 36)
      (λ t. State.goes (λ r p. let w = fresh r p in record {
        ending = 10 ∷ w.first;
        ends = subst (λ o. Ends r (and_then o (λ _ j z. k j z))) (sym (w.rests (i + 2)) ∙ gap_wrap i (i + 2) (b ∷ 10 ∷ w.first) w.first (omega arith) (eqb-true b 36 t) refl refl refl) (w.reads (i + 2));
      }))
      (λ g. move P (λ m s. and_then (gap m s) (λ _ j r. k j r)) k i i (b ∷ []) (b ∷ [])
      (λ y. ap (λ o. and_then o (λ _ j r. k j r)) (gap_else i b y f g)) (states i b [] e (λ q. absurd (eqb-false b 36 g q)))))
  gap_state P k fresh states i (b ∷ c ∷ u) e =
      test (eqb b 32)
      (λ t. move P (λ m s. and_then (gap m s) (λ _ j r. k j r)) (λ m s. and_then (gap m s) (λ _ j r. k j r)) i (i + 1) (b ∷ c ∷ u) (c ∷ u)
      (λ y. rw t refl) (gap_state P k fresh states (i + 1) (c ∷ u) (omega arith)))
      (λ f. test (eqb b 36 && eqb c 10)
      (λ t. move P (λ m s. and_then (gap m s) (λ _ j r. k j r)) (λ m s. and_then (gap m s) (λ _ j r. k j r)) i (i + 2) (b ∷ c ∷ u) u
      (λ y. rw (f, t) refl) (gap_state P k fresh states (i + 2) u (omega arith)))
      (λ g. move P (λ m s. and_then (gap m s) (λ _ j r. k j r)) k i i (b ∷ c ∷ u) (b ∷ c ∷ u)
      (λ y. rw (f, g) refl) (states i b (c ∷ u) e (λ q. omega arith))))

  lack_not : (o : Opens) (i b : ℕ) (u : List ℕ) → i + length (b ∷ u) ≡ n → (opens o b ≡ true → 0 < length u) → NotFault n (lack o i (b ∷ u ++ x))
  lack_not o i b u e h = cond_both (opens o b) (Syntax (spot (i + 1))) (Syntax (spot i)) (NotFault n) (λ t. let l = h t in λ q. omega arith) (λ _ q. omega arith)

  pub byte_state : {B : Type 0} (P : List ℕ → Type 0) (c : ℕ) (o : Opens) (k : ℕ → List ℕ → Out B) → ((t : List ℕ) → P t → Starts (λ _. Unit {0}) (λ (a : Unit {0}) j r. k j r) t) → ((j : ℕ) (v : List ℕ) → j + length v ≡ n → State P k n x j v) → (i : ℕ) (u : List ℕ) → i + length u ≡ n → ((b : ℕ) (v : List ℕ) → u ≡ b ∷ v → opens o b ≡ true → 0 < length v) → State P (λ m s. and_then (byte c o m s) (λ _ j r. k j r)) n x i u
  byte_state P c o k starts states i [] e g =
      State.goes (λ t p. let w = starts t p in record { ending = c ∷ w.first; ends = rw (eq-eqb c c refl) (w.reads tt (i + 1)) })
  byte_state P c o k starts states i (b ∷ u) e g =
      test (eqb b c)
      (λ t. move P (λ m s. and_then (byte c o m s) (λ _ j r. k j r)) k i (i + 1) (b ∷ u) u (λ y. rw t refl) (states (i + 1) u (omega arith)))
      (λ f. State.never (rw f (lack_not o i b u e (g b u refl))))

  -- a name in braces that begins before n and goes on is passed
  brace_late : (g : ℕ → List ℕ → Out (Unit {0})) → ((i b : ℕ) (t : List ℕ) → name_byte b ≡ true → g (i + 1) t ≡ g i (b ∷ t)) → ((i b : ℕ) (t : List ℕ) → b ≡ 125 → g (i + 1) t ≡ g i (b ∷ t)) → ((i : ℕ) (s : List ℕ) → n + 1 ≤ i → Later (n + 1) (g i s)) → (i : ℕ) (u r : List ℕ) → i + length u ≡ n → length u ≤ name_len (u ++ r) → get_or (u ++ r) (name_len (u ++ r)) 0 ≡ 125 → Later (n + 1) (g i (u ++ r))
  brace_late g on brace late i [] [] e l q = absurd (omega arith)
  brace_late g on brace late i [] (b ∷ r) e l q =
      cond_both (name_byte b) (suc (name_len r)) 0 (λ m. get_or (b ∷ r) m 0 ≡ 125 → Later (n + 1) (g i (b ∷ r)))
      (λ t _. subst (Later (n + 1)) (on i b r t) (late (i + 1) r (omega arith)))
      (λ _ z. subst (Later (n + 1)) (brace i b r z) (late (i + 1) r (omega arith)))
      q
  brace_late g on brace late i (b ∷ u) r e l q =
      cond_both (name_byte b) (suc (name_len (u ++ r))) 0 (λ m. suc (length u) ≤ m → get_or (b ∷ u ++ r) m 0 ≡ 125 → Later (n + 1) (g i (b ∷ u ++ r)))
      (λ t k z. subst (Later (n + 1)) (on i b (u ++ r) t) (brace_late g on brace late (i + 1) u r (omega arith) (omega arith) z))
      (λ _ k z. absurd (omega arith))
      l q

braced_at : (c : ℕ) (s : List ℕ) → escaped (c ∷ s) ≡ true → c ≡ 123 → get_or s (name_len s) 0 ≡ 125
braced_at c s h p =
    let k : braced s ≡ true = rw p at h in
    eqb-true _ _ (and_parts (ltb 0 (name_len s)) (eqb (get_or s (name_len s) 0) 125) k).1

scan_brace : (i b : ℕ) (t : List ℕ) → b ≡ 125 → scan (i + 1) t ≡ scan i (b ∷ t)
scan_brace i b t h = scan_plain i (i + 1) (b ∷ t) t (omega arith) (λ (x : b ≡ 10). omega arith) (λ (x : b ≡ 36). omega arith) refl refl

walk_brace : (i b : ℕ) (t : List ℕ) → b ≡ 125 → walk false (i + 1) t ≡ walk false i (b ∷ t)
walk_brace i b t e = walk_go false i b t (rw e refl) (λ (x : b ≡ 36). omega arith)

-- an escape that begins before n: it ends before n, or goes on past n
escape_cut : (c : ℕ) (u x : List ℕ) → escaped (c ∷ u ++ x) ≡ true → ((y : List ℕ) → escaped (c ∷ u ++ y) ≡ true) ⊎ ((c ≡ 123) × (length u ≤ name_len (u ++ x)))
escape_cut c u x h =
    test (eqb c 123)
    (λ t. test (ltb (name_len (u ++ x)) (length u))
    (λ l. inl (λ y. ⊎_elim (λ w. w) (λ w. let m = ltb-true (name_len (u ++ x)) (length u) l in absurd (omega (arith, w.1))) (escaped_near c u x y h)))
    (λ l. inr (eqb-true c 123 t, omega (arith, ltb-false (name_len (u ++ x)) (length u) l))))
    (λ f. inl (λ y. ⊎_elim (λ w. w) (λ w. absurd (eqb-false c 123 f w.0)) (escaped_near c u x y h)))

-- a line's end
pub data Line : List ℕ → Type 0 where
  line : {s : List ℕ} → Line (10 ∷ s)

line_scan : {t : List ℕ} → Line t → (i : ℕ) → scan i t ≡ ok tt i t
line_scan (Line.line {s = []}) i = refl
line_scan (Line.line {s = b ∷ s}) i = refl

module _ (n : ℕ) (x : List ℕ) where
  pub scan_state : (i : ℕ) (u : List ℕ) → i + length u ≡ n → State Line scan n x i u
  scan_state i [] e = State.goes (λ t p. record { ending = t; ends = subst (Ends t) (sym (line_scan p i)) refl })
  scan_state i (b ∷ []) e =
      test (eqb b 10)
      (λ t. State.done tt i (b ∷ []) e (omega arith) (λ y. scan_line i (b ∷ y) (omega arith) (eqb-true b 10 t)))
      (λ f. test (eqb b 36)
      (λ t. State.goes (λ r p. record { ending = 10 ∷ r; ends = subst (Ends r) (sym (line_scan p (i + 2)) ∙ (let q = eqb-true b 36 t in rw q refl)) refl }))
      (λ g. move n x Line scan scan i (i + 1) (b ∷ []) [] (λ y. scan_plain i (i + 1) (b ∷ y) y (omega arith) (eqb-false b 10 f) (eqb-false b 36 g) refl refl) (scan_state (i + 1) [] (omega arith))))
  scan_state i (b ∷ c ∷ u) e =
      test (eqb b 10)
      (λ t. State.done tt i (b ∷ c ∷ u) e (omega arith) (λ y. scan_line i (b ∷ c ∷ u ++ y) (omega arith) (eqb-true b 10 t)))
      (λ f. test (eqb b 36)
      (λ t. test (escaped (c ∷ u ++ x))
      (λ h. ⊎_elim
      (λ w. move n x Line scan scan i (i + 2) (b ∷ c ∷ u) u (λ y. rw (f, t, w y) refl) (scan_state (i + 2) u (omega arith)))
      (λ w. State.never (rw (f, t, h) (late_not n (scan (i + 2) (u ++ x)) (brace_late n x scan scan_on scan_brace (scan_later (n + 1)) (i + 2) u x (omega arith) w.1 (braced_at c (u ++ x) h w.0)))))
      (escape_cut c u x h))
      (λ h. State.never (rw (f, t, h) tt)))
      (λ g. move n x Line scan scan i (i + 1) (b ∷ c ∷ u) (c ∷ u) (λ y. rw (f, g) refl) (scan_state (i + 1) (c ∷ u) (omega arith))))

  -- with the bytes that were passed
  text_state : (P : List ℕ → Type 0) (d : ℕ → List ℕ → Out (Unit {0})) (i : ℕ) (u : List ℕ) → i + length u ≡ n → ((y : List ℕ) → Later i (d i (u ++ y))) → State P d n x i u → State P (λ m s. and_then (d m s) (λ _ j r. ok (up_to s r) j r)) n x i u
  text_state P d i u e l (State.goes h) = State.goes (λ t p. let w = h t p in record { ending = w.ending; ends = then_ends t t (d i (u ++ w.ending)) (λ _ j r. ok (up_to (u ++ w.ending) r) j r) w.ends (λ a j. refl) })
  text_state P d i u e l (State.done a j v q z h) =
      State.done (take (length u - length v) u) j v q z
      (λ y. let m : i ≤ j = subst (Later i) (h y) (l y) in ap (λ o. and_then o (λ _ m r. ok (up_to (u ++ y) r) m r)) (h y) ∙ ap (λ w. ok w j (v ++ y)) (up_to_left u v y (omega arith)))
  text_state P d i u e l (State.never h) = State.never (then_not n (d i (u ++ x)) (λ _ j r. ok (up_to (u ++ x) r) j r) h (λ a j r m. m))

  pub value_state : (i : ℕ) (u : List ℕ) → i + length u ≡ n → State Line value n x i u
  value_state i u e = text_state Line scan i u e (λ y. scan_later i i (u ++ y) (omega arith)) (scan_state i u e)

-- a byte that ends a list of paths
pub data End : List ℕ → Type 0 where
  line : {s : List ℕ} → End (10 ∷ s)
  colon : {s : List ℕ} → End (58 ∷ s)

end_walk : {t : List ℕ} → End t → (w : Bool) (i : ℕ) → walk w i t ≡ ok tt i t
end_walk (End.line {s = []}) true i = refl
end_walk (End.line {s = b ∷ s}) true i = refl
end_walk (End.colon {s = []}) true i = refl
end_walk (End.colon {s = b ∷ s}) true i = refl
end_walk (End.line {s = []}) false i = refl
end_walk (End.line {s = b ∷ s}) false i = refl
end_walk (End.colon {s = []}) false i = refl
end_walk (End.colon {s = b ∷ s}) false i = refl

pub end_gap : {t : List ℕ} → End t → (i : ℕ) → gap i t ≡ ok tt i t
end_gap (End.line {s = []}) i = refl
end_gap (End.line {s = b ∷ s}) i = refl
end_gap (End.colon {s = []}) i = refl
end_gap (End.colon {s = b ∷ s}) i = refl

pub end_bar : {t : List ℕ} → End t → (i : ℕ) → bar i t ≡ ok false i t
end_bar (End.line {s = []}) i = refl
end_bar (End.line {s = b ∷ s}) i = refl
end_bar (End.colon {s = []}) i = refl
end_bar (End.colon {s = b ∷ s}) i = refl

end_bar_true : {t : List ℕ} → End t → (i : ℕ) → bar i (124 ∷ t) ≡ ok true (i + 1) t
end_bar_true (End.line {s = s}) i = refl
end_bar_true (End.colon {s = s}) i = refl

pub end_pair : {t : List ℕ} → End t → (k i : ℕ) → pair k i t ≡ ok false i t
end_pair (End.line {s = []}) k i = refl
end_pair (End.line {s = b ∷ s}) k i = refl
end_pair (End.colon {s = []}) k i = refl
end_pair (End.colon {s = b ∷ s}) k i = refl

module _ (n : ℕ) (x : List ℕ) where
  pub walk_state : (w : Bool) (i : ℕ) (u : List ℕ) → i + length u ≡ n → State End (walk w) n x i u
  walk_state w i [] e = State.goes (λ t p. record { ending = t; ends = subst (Ends t) (sym (end_walk p w i)) refl })
  walk_state w i (b ∷ []) e =
      test (w && eqb b 32)
      (λ t. move n x End (walk w) (walk true) i (i + 1) (b ∷ []) [] (λ y. walk_space_here w i b y t) (walk_state true (i + 1) [] (omega arith)))
      (λ f. test (stops b)
      (λ t. State.done tt i (b ∷ []) e (omega arith) (λ y. sym (walk_stop_here w i b y f t)))
      (λ g. test (eqb b 36)
      (λ t. State.goes (λ r p. record { ending = 10 ∷ r; ends = rw (f, g, t) (subst (Ends r) (sym (end_walk p true (i + 2))) refl) }))
      (λ h. move n x End (walk w) (walk false) i (i + 1) (b ∷ []) [] (λ y. walk_go w i b y g (eqb-false b 36 h)) (walk_state false (i + 1) [] (omega arith)))))
  walk_state w i (b ∷ c ∷ u) e =
      test (w && eqb b 32)
      (λ t. move n x End (walk w) (walk true) i (i + 1) (b ∷ c ∷ u) (c ∷ u) (λ y. walk_space_here w i b (c ∷ u ++ y) t) (walk_state true (i + 1) (c ∷ u) (omega arith)))
      (λ f. test (stops b)
      (λ t. State.done tt i (b ∷ c ∷ u) e (omega arith) (λ y. sym (walk_stop_here w i b (c ∷ u ++ y) f t)))
      (λ g. test (eqb b 36)
      (λ t. test (escaped (c ∷ u ++ x))
      (λ h. ⊎_elim
      (λ v. move n x End (walk w) (walk (eqb c 10)) i (i + 2) (b ∷ c ∷ u) u (λ y. rw (f, g, t, v y) refl) (walk_state (eqb c 10) (i + 2) u (omega arith)))
      (λ v. State.never (rw (f, g, t, h, ne_eqb c 10 (λ (q : c ≡ 10). omega (arith, v.0)))
      (late_not n (walk false (i + 2) (u ++ x)) (brace_late n x (walk false) walk_on walk_brace (walk_later (n + 1) false) (i + 2) u x (omega arith) v.1 (braced_at c (u ++ x) h v.0)))))
      (escape_cut c u x h))
      (λ h. State.never (rw (f, g, t, h) tt)))
      (λ h. move n x End (walk w) (walk false) i (i + 1) (b ∷ c ∷ u) (c ∷ u) (λ y. walk_go w i b (c ∷ u ++ y) g (eqb-false b 36 h)) (walk_state false (i + 1) (c ∷ u) (omega arith)))))

  pub path_state : (i : ℕ) (u : List ℕ) → i + length u ≡ n → State End path n x i u
  path_state i u e = text_state n x End (walk false) i u e (λ y. walk_later i false i (u ++ y) (omega arith)) (walk_state false i u e)

  pub bar_state : {B : Type 0} (P : List ℕ → Type 0) (k : Bool → ℕ → List ℕ → Out B) → ((t : List ℕ) → P t → Starts End k t) → ((j : ℕ) (v : List ℕ) → j + length v ≡ n → State P (k true) n x j v) → ((j b : ℕ) (v : List ℕ) → j + length (b ∷ v) ≡ n → (b ≡ 124 → 0 < length v) → State P (k false) n x j (b ∷ v)) → (i : ℕ) (u : List ℕ) → i + length u ≡ n → State P (λ m s. and_then (bar m s) k) n x i u
  bar_state P k starts marked bare i [] e = State.goes (λ t p. let w = starts t p in record { ending = w.first; ends = subst (λ o. Ends t (and_then o k)) (sym (end_bar w.fits i)) (w.reads false i) })
  bar_state P k starts marked bare i (b ∷ []) e =
      test (eqb b 124)
      (λ h. State.goes (λ t p. let w = starts t p in record { ending = w.first; ends = subst (λ z. Ends t (and_then (bar i (z ∷ w.first)) k)) (sym (eqb-true b 124 h)) (subst (λ o. Ends t (and_then o k)) (sym (end_bar_true w.fits i)) (w.reads true (i + 1))) }))
      (λ f. move n x P (λ m s. and_then (bar m s) k) (k false) i i (b ∷ []) (b ∷ []) (λ y. ap (λ o. and_then o k) (bar_else i b y f)) (bare i b [] e (λ q. absurd (eqb-false b 124 f q))))
  bar_state P k starts marked bare i (b ∷ c ∷ u) e =
      test (eqb b 124)
      (λ h. test (eqb c 124 || eqb c 64)
      (λ g. move n x P (λ m s. and_then (bar m s) k) (k false) i i (b ∷ c ∷ u) (b ∷ c ∷ u) (λ y. rw (h, g) refl) (bare i b (c ∷ u) e (λ q. omega arith)))
      (λ g. move n x P (λ m s. and_then (bar m s) k) (k true) i (i + 1) (b ∷ c ∷ u) (c ∷ u) (λ y. rw (h, g) refl) (marked (i + 1) (c ∷ u) (omega arith))))
      (λ f. move n x P (λ m s. and_then (bar m s) k) (k false) i i (b ∷ c ∷ u) (b ∷ c ∷ u) (λ y. rw f refl) (bare i b (c ∷ u) e (λ q. omega arith)))

  pub pair_state : {B : Type 0} (P : List ℕ → Type 0) (c0 : ℕ) (k : Bool → ℕ → List ℕ → Out B) → ((t : List ℕ) → P t → Starts End k t) → ((j : ℕ) (v : List ℕ) → j + length v ≡ n → State P (k true) n x j v) → ((j b : ℕ) (v : List ℕ) → j + length (b ∷ v) ≡ n → (b ≡ 124 → 0 < length v) → State P (k false) n x j (b ∷ v)) → (i : ℕ) (u : List ℕ) → i + length u ≡ n → State P (λ m s. and_then (pair c0 m s) k) n x i u
  pair_state P c0 k starts marked bare i [] e = State.goes (λ t p. let w = starts t p in record { ending = w.first; ends = subst (λ o. Ends t (and_then o k)) (sym (end_pair w.fits c0 i)) (w.reads false i) })
  pair_state P c0 k starts marked bare i (b ∷ []) e =
      test (eqb b 124)
      (λ h. State.goes (λ t p. let w = starts t p in record { ending = c0 ∷ w.first; ends = rw (h, eq-eqb c0 c0 refl) (w.reads true (i + 2)) }))
      (λ f. move n x P (λ m s. and_then (pair c0 m s) k) (k false) i i (b ∷ []) (b ∷ []) (λ y. ap (λ o. and_then o k) (pair_else c0 i b y f)) (bare i b [] e (λ q. absurd (eqb-false b 124 f q))))
  pair_state P c0 k starts marked bare i (b ∷ c ∷ u) e =
      test (eqb b 124 && eqb c c0)
      (λ h. move n x P (λ m s. and_then (pair c0 m s) k) (k true) i (i + 2) (b ∷ c ∷ u) u (λ y. rw h refl) (marked (i + 2) u (omega arith)))
      (λ f. move n x P (λ m s. and_then (pair c0 m s) k) (k false) i i (b ∷ c ∷ u) (b ∷ c ∷ u) (λ y. rw f refl) (bare i b (c ∷ u) e (λ q. omega arith)))

whole_take : (u t : List ℕ) → take (length u) (u ++ t) ≡ u
whole_take [] t = refl
whole_take (b ∷ u) t = ap (λ z. b ∷ z) (whole_take u t)

whole_drop : (u t : List ℕ) → drop (length u) (u ++ t) ≡ t
whole_drop [] t = refl
whole_drop (b ∷ u) t = whole_drop u t

no_name : (t : List ℕ) → name_byte (get_or t 0 0) ≡ false → name_len t ≡ 0
no_name [] f = refl
no_name (b ∷ t) f = rw f refl

all_names : (u x t : List ℕ) → length u ≤ name_len (u ++ x) → name_byte (get_or t 0 0) ≡ false → name_len (u ++ t) ≡ length u
all_names [] x t l f = no_name t f
all_names (b ∷ u) x t l f =
    cond_both (name_byte b) (suc (name_len (u ++ x))) 0 (λ m. suc (length u) ≤ m → name_len (b ∷ u ++ t) ≡ suc (length u))
    (λ h k. rw h (ap suc (all_names u x t (omega arith) f))) (λ _ k. absurd (omega arith)) l

whole_name : (o : Opens) (i b : ℕ) (u t : List ℕ) → name_len (b ∷ u ++ t) ≡ length (b ∷ u) → name o i (b ∷ u ++ t) ≡ ok (b ∷ u) (i + length (b ∷ u)) t
whole_name o i b u t e = ap (λ k. name_of o k i (b ∷ u ++ t)) e ∙ (ap (λ z. ok (b ∷ z) (i + suc (length u)) (drop (length u) (u ++ t))) (whole_take u t) ∙ ap (λ z. ok (b ∷ u) (i + suc (length u)) z) (whole_drop u t))

-- bytes with which k, right after a name, leaves t
pub record Stop {B : Type 0} (k : ℕ → List ℕ → Out B) (t : List ℕ) : Type 0 where
  pub first : List ℕ
  pub no_more : name_byte (get_or first 0 0) ≡ false
  pub reads : (j : ℕ) → Ends t (k j first)

module _ (n : ℕ) (x : List ℕ) where
  long_not : (o : Opens) (k i : ℕ) (s : List ℕ) → n < i + k → 0 < k → NotAt n (name_of o k i s)
  long_not o zero i s l h = absurd (omega arith)
  long_not o (suc k) i s l h = l

  module _ {B : Type 0} (P : List ℕ → Type 0) (o : Opens) (k : ℕ → List ℕ → ℕ → List ℕ → Out B) (start : (i : ℕ) (t : List ℕ) → P t → Open (λ m s. and_then (name o m s) (k m)) i [] t) (at : (i : ℕ) (w : List ℕ) → ((t : List ℕ) → P t → Stop (k i w) t) ⊎ NotAt n (k i w n x)) (states : (i : ℕ) (w : List ℕ) (j : ℕ) (v : List ℕ) → j + length v ≡ n → 0 < length v → State P (k i w) n x j v) (late : (i : ℕ) (w : List ℕ) (j : ℕ) (r : List ℕ) → n + 1 ≤ j → Later (n + 1) (k i w j r)) where
    inside : (i b : ℕ) (u : List ℕ) (m : ℕ) → i + length (b ∷ u) ≡ n → (opens o b ≡ true → 0 < length u) → m < length (b ∷ u) → ((y : List ℕ) → name_len (b ∷ u ++ y) ≡ m) → State P (λ m2 s. and_then (name o m2 s) (k m2)) n x i (b ∷ u)
    inside i b u zero e g l h = State.never (subst (λ z. NotAt n (and_then (name_of o z i (b ∷ u ++ x)) (k i))) (sym (h x)) (lack_not n x o i b u e g))
    inside i b u (suc m) e g l h =
        move n x P (λ m2 s. and_then (name o m2 s) (k m2)) (k i (b ∷ take m u)) i (i + suc m) (b ∷ u) (drop m u)
        (λ y.
        ap (λ z. k i (b ∷ take m u) (i + suc m) z) (sym (drop_left m u y (omega arith)))
        ∙ (ap (λ z. k i (b ∷ z) (i + suc m) (drop m (u ++ y))) (sym (take-append-le m u y (omega arith)))
        ∙ ap (λ z. and_then (name_of o z i (b ∷ u ++ y)) (k i)) (sym (h y))))
        (states i (b ∷ take m u) (i + suc m) (drop m u) (omega (arith, length-drop m u)) (omega (arith, length-drop m u)))

    pub name_state : (i : ℕ) (u : List ℕ) → i + length u ≡ n → ((b : ℕ) (v : List ℕ) → u ≡ b ∷ v → opens o b ≡ true → 0 < length v) → State P (λ m s. and_then (name o m s) (k m)) n x i u
    name_state i [] e g = State.goes (λ t p. start i t p)
    name_state i (b ∷ u) e g =
        test (ltb (name_len (b ∷ u ++ x)) (length (b ∷ u)))
        (λ h. let l = ltb-true (name_len (b ∷ u ++ x)) (length (b ∷ u)) h in
        inside i b u (name_len (b ∷ u ++ x)) e (g b u refl) l (λ y. ⊎_elim (λ w. sym w.0) (λ m. absurd (omega arith)) (name_len_near (b ∷ u) x y)))
        (λ h. let l = ltb-false (name_len (b ∷ u ++ x)) (length (b ∷ u)) h in test (ltb (length (b ∷ u)) (name_len (b ∷ u ++ x)))
        (λ z. let m = ltb-true (length (b ∷ u)) (name_len (b ∷ u ++ x)) z in
        State.never (then_not n (name o i (b ∷ u ++ x)) (k i) (long_not o (name_len (b ∷ u ++ x)) i (b ∷ u ++ x) (omega arith) (omega arith)) (late i)))
        (λ z. let m = ltb-false (length (b ∷ u)) (name_len (b ∷ u ++ x)) z in ⊎_elim
        (λ c. State.goes (λ t p. let w = c t p in record {
          ending = w.first;
          ends = subst (λ r. Ends t (and_then r (k i))) (sym (whole_name o i b u w.first (all_names (b ∷ u) x w.first (omega arith) w.no_more))) (w.reads (i + length (b ∷ u)));
        }))
        (λ c. State.never (subst (λ r. NotAt n (and_then r (k i))) (sym (whole_name o i b u x (omega arith))) (subst (λ j. NotAt n (k i (b ∷ u) j x)) (sym e) c)))
        (at i (b ∷ u))))
