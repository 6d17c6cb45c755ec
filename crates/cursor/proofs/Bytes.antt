-- A reading gives no byte that was not there: what holds of each byte before it holds of each byte in what it read and in what is left.
use Rattle.std.proofs.Common.{ℕ, zero, suc, ◌+◌, ◌-◌, Bool, true, false, cond, ◌&&◌, ◌||◌, eqb, List, [], ◌∷◌, length, Some, None, Option}
use Rattle.std.specs.List.{AllByRecursion as All}
use Rattle.std.proofs.ByRecursion.{All-take, All-drop}
use Rattle.std.proofs.lemmas.Bool.{cond_both}
use Rattle.cursor.specs.Scan.{Out, ok, bad, and_then, name_len, name_of, name, spaces, gap, comment, byte, scan, value, escaped, stops, walk, path, any_path, next_path, needed, first_path, bar, pair, indented, flush, lead}
use Rattle.cursor.specs.declared.place.Opens.{Opens}
use Rattle.cursor.specs.declared.lines.Lead.{Lead}
use Rattle.cursor.specs.declared.lines.Lead.TheVariants.{Remark, Blank, Flush, Indented}

-- nothing is asked of what has no bytes
abbrev pub Free : {A : Type 0} → A → Type 0
Free a = Unit {0}

-- Q holds of what is there, if anything
abbrev pub AllSome : {A : Type 0} → (A → Type 0) → Option A → Type 0
AllSome Q None = Unit {0}
AllSome Q (Some a) = Q a

module _ (P : ℕ → Type 0) where
  -- a reading that succeeds read what has Q, and left bytes that have P
  abbrev pub Keeps : {A : Type 0} → (A → Type 0) → Out A → Type 0
  Keeps Q (ok a j r) = Q a × All P r
  Keeps Q (bad f) = Unit {0}

  pub then_keeps : {A B : Type 0} (Q : A → Type 0) (R : B → Type 0) (o : Out A) (f : A → ℕ → List ℕ → Out B) → Keeps Q o → ((a : A) (j : ℕ) (r : List ℕ) → Q a → All P r → Keeps R (f a j r)) → Keeps R (and_then o f)
  then_keeps Q R (ok a j r) f h k = k a j r h.0 h.1
  then_keeps Q R (bad e) f h k = tt

  -- a cond of readings, whatever its test
  pub either_keeps : {A : Type 0} (Q : A → Type 0) (t : Bool) (x y : Out A) → Keeps Q x → Keeps Q y → Keeps Q (cond t x y)
  either_keeps Q t x y h k = cond_both t x y (Keeps Q) (λ _. h) (λ _. k)

  pub spaces_bytes : (i : ℕ) (s : List ℕ) → All P s → Keeps Free (spaces i s)
  spaces_bytes i [] h = (tt, h)
  spaces_bytes i (b ∷ s) h =
      either_keeps Free (eqb b 32) (spaces (i + 1) s) (ok tt i (b ∷ s)) (spaces_bytes (i + 1) s h.1) (tt, h)

  pub gap_bytes : (i : ℕ) (s : List ℕ) → All P s → Keeps Free (gap i s)
  gap_bytes i [] h = (tt, h)
  gap_bytes i (b ∷ []) h = either_keeps Free (eqb b 32) (ok tt (i + 1) []) (ok tt i (b ∷ [])) (tt, tt) (tt, h)
  gap_bytes i (b ∷ c ∷ s) h =
      either_keeps Free (eqb b 32) (gap (i + 1) (c ∷ s)) (cond (eqb b 36 && eqb c 10) (gap (i + 2) s) (ok tt i (b ∷ c ∷ s)))
      (gap_bytes (i + 1) (c ∷ s) h.1)
      (either_keeps Free (eqb b 36 && eqb c 10) (gap (i + 2) s) (ok tt i (b ∷ c ∷ s)) (gap_bytes (i + 2) s h.1.1) (tt, h))

  comment_bytes : (i : ℕ) (s : List ℕ) → All P s → Keeps Free (comment i s)
  comment_bytes i [] h = tt
  comment_bytes i (b ∷ s) h =
      either_keeps Free (eqb b 10) (ok tt (i + 1) s) (comment (i + 1) s) (tt, h.1) (comment_bytes (i + 1) s h.1)

  name_of_bytes : (o : Opens) (n i : ℕ) (s : List ℕ) → All P s → Keeps (All P) (name_of o n i s)
  name_of_bytes o zero i s h = tt
  name_of_bytes o (suc n) i s h = (All-take P (suc n) s h, All-drop P (suc n) s h)

  pub name_bytes : (o : Opens) (i : ℕ) (s : List ℕ) → All P s → Keeps (All P) (name o i s)
  name_bytes o i s h = name_of_bytes o (name_len s) i s h

  pub byte_bytes : (k : ℕ) (o : Opens) (i : ℕ) (s : List ℕ) → All P s → Keeps Free (byte k o i s)
  byte_bytes k o i [] h = tt
  byte_bytes k o i (b ∷ s) h = either_keeps Free (eqb b k) (ok tt (i + 1) s) (bad _) (tt, h.1) tt

  scan_bytes : (i : ℕ) (s : List ℕ) → All P s → Keeps Free (scan i s)
  scan_bytes i [] h = tt
  scan_bytes i (b ∷ []) h =
      either_keeps Free (eqb b 10) (ok tt i (b ∷ [])) (cond (eqb b 36) (bad _) (bad _)) (tt, h)
      (either_keeps {A = Unit {0}} Free (eqb b 36) (bad _) (bad _) tt tt)
  scan_bytes i (b ∷ c ∷ s) h =
      either_keeps Free (eqb b 10) (ok tt i (b ∷ c ∷ s)) (cond (eqb b 36) (cond (escaped (c ∷ s)) (scan (i + 2) s) (bad _)) (scan (i + 1) (c ∷ s))) (tt, h)
      (either_keeps Free (eqb b 36) (cond (escaped (c ∷ s)) (scan (i + 2) s) (bad _)) (scan (i + 1) (c ∷ s))
      (either_keeps Free (escaped (c ∷ s)) (scan (i + 2) s) (bad _) (scan_bytes (i + 2) s h.1.1) tt)
      (scan_bytes (i + 1) (c ∷ s) h.1))

  pub value_bytes : (i : ℕ) (s : List ℕ) → All P s → Keeps (All P) (value i s)
  value_bytes i s h =
      then_keeps Free (All P) (scan i s) _ (scan_bytes i s h) (λ _ j r _ g. (All-take P (length s - length r) s h, g))

  walk_bytes : (w : Bool) (i : ℕ) (s : List ℕ) → All P s → Keeps Free (walk w i s)
  walk_bytes w i [] h = tt
  walk_bytes w i (b ∷ []) h =
      either_keeps Free (w && eqb b 32) (bad _) (cond (stops b) (ok tt i (b ∷ [])) (cond (eqb b 36) (bad _) (bad _))) tt
      (either_keeps Free (stops b) (ok tt i (b ∷ [])) (cond (eqb b 36) (bad _) (bad _)) (tt, h)
      (either_keeps {A = Unit {0}} Free (eqb b 36) (bad _) (bad _) tt tt))
  walk_bytes w i (b ∷ c ∷ s) h =
      either_keeps Free (w && eqb b 32) (walk true (i + 1) (c ∷ s)) (cond (stops b) (ok tt i (b ∷ c ∷ s)) (cond (eqb b 36) (cond (escaped (c ∷ s)) (walk (eqb c 10) (i + 2) s) (bad _)) (walk false (i + 1) (c ∷ s))))
      (walk_bytes true (i + 1) (c ∷ s) h.1)
      (either_keeps Free (stops b) (ok tt i (b ∷ c ∷ s)) (cond (eqb b 36) (cond (escaped (c ∷ s)) (walk (eqb c 10) (i + 2) s) (bad _)) (walk false (i + 1) (c ∷ s))) (tt, h)
      (either_keeps Free (eqb b 36) (cond (escaped (c ∷ s)) (walk (eqb c 10) (i + 2) s) (bad _)) (walk false (i + 1) (c ∷ s))
      (either_keeps Free (escaped (c ∷ s)) (walk (eqb c 10) (i + 2) s) (bad _) (walk_bytes (eqb c 10) (i + 2) s h.1.1) tt)
      (walk_bytes false (i + 1) (c ∷ s) h.1)))

  path_bytes : (i : ℕ) (s : List ℕ) → All P s → Keeps (All P) (path i s)
  path_bytes i s h =
      then_keeps Free (All P) (walk false i s) _ (walk_bytes false i s h) (λ _ j r _ g. (All-take P (length s - length r) s h, g))

  any_path_bytes : (i : ℕ) (s : List ℕ) → All P s → Keeps (AllSome (All P)) (any_path i s)
  any_path_bytes i [] h = (tt, h)
  any_path_bytes i (b ∷ s) h =
      either_keeps (AllSome (All P)) (stops b) (ok None i (b ∷ s)) (and_then (path i (b ∷ s)) (λ p j r. ok (Some p) j r)) (tt, h)
      (then_keeps (All P) (AllSome (All P)) (path i (b ∷ s)) _ (path_bytes i (b ∷ s) h) (λ p j r k g. (k, g)))

  pub next_path_bytes : (i : ℕ) (s : List ℕ) → All P s → Keeps (AllSome (All P)) (next_path i s)
  next_path_bytes i s h =
      then_keeps Free (AllSome (All P)) (gap i s) _ (gap_bytes i s h) (λ _ j r _ g. any_path_bytes j r g)

  needed_bytes : (p : Option (List ℕ)) (i : ℕ) (s : List ℕ) → AllSome (All P) p → All P s → Keeps (All P) (needed p i s)
  needed_bytes None i s k h = tt
  needed_bytes (Some p) i s k h = (k, h)

  pub first_path_bytes : (i : ℕ) (s : List ℕ) → All P s → Keeps (All P) (first_path i s)
  first_path_bytes i s h = then_keeps (AllSome (All P)) (All P) (next_path i s) needed (next_path_bytes i s h) needed_bytes

  pub bar_bytes : (i : ℕ) (s : List ℕ) → All P s → Keeps Free (bar i s)
  bar_bytes i [] h = (tt, h)
  bar_bytes i (b ∷ []) h = either_keeps Free (eqb b 124) (ok true (i + 1) []) (ok false i (b ∷ [])) (tt, tt) (tt, h)
  bar_bytes i (b ∷ c ∷ s) h =
      either_keeps Free (eqb b 124) (cond (eqb c 124 || eqb c 64) (ok false i (b ∷ c ∷ s)) (ok true (i + 1) (c ∷ s))) (ok false i (b ∷ c ∷ s))
      (either_keeps Free (eqb c 124 || eqb c 64) (ok false i (b ∷ c ∷ s)) (ok true (i + 1) (c ∷ s)) (tt, h) (tt, h.1)) (tt, h)

  pub pair_bytes : (k i : ℕ) (s : List ℕ) → All P s → Keeps Free (pair k i s)
  pair_bytes k i [] h = (tt, h)
  pair_bytes k i (b ∷ []) h = (tt, h)
  pair_bytes k i (b ∷ c ∷ s) h =
      either_keeps Free (eqb b 124 && eqb c k) (ok true (i + 2) s) (ok false i (b ∷ c ∷ s)) (tt, h.1.1) (tt, h)

  -- a line that is not indented, or what follows its first spaces
  led_bytes : (l : Lead) (i b : ℕ) (s : List ℕ) → All P (b ∷ s) → Keeps Free (cond (eqb b 10) (ok Blank (i + 1) s) (cond (eqb b 35) (and_then (comment i (b ∷ s)) (λ _ j r. ok Remark j r)) (ok l i (b ∷ s))))
  led_bytes l i b s h =
      either_keeps Free (eqb b 10) (ok Blank (i + 1) s) (cond (eqb b 35) (and_then (comment i (b ∷ s)) (λ _ j r. ok Remark j r)) (ok l i (b ∷ s))) (tt, h.1)
      (either_keeps Free (eqb b 35) (and_then (comment i (b ∷ s)) (λ _ j r. ok Remark j r)) (ok l i (b ∷ s))
      (then_keeps Free Free (comment i (b ∷ s)) _ (comment_bytes i (b ∷ s) h) (λ _ j r _ g. (tt, g))) (tt, h))

  indented_bytes : (i : ℕ) (s : List ℕ) → All P s → Keeps Free (indented i s)
  indented_bytes i [] h = tt
  indented_bytes i (b ∷ s) h = led_bytes Indented i b s h

  pub lead_bytes : (i : ℕ) (s : List ℕ) → All P s → Keeps Free (lead i s)
  lead_bytes i [] h = (tt, h)
  lead_bytes i (b ∷ s) h =
      either_keeps Free (eqb b 32) (and_then (spaces i (b ∷ s)) (λ _ j r. indented j r)) (flush i (b ∷ s))
      (then_keeps Free Free (spaces i (b ∷ s)) _ (spaces_bytes i (b ∷ s) h) (λ _ j r _ g. indented_bytes j r g))
      (led_bytes Flush i b s h)
