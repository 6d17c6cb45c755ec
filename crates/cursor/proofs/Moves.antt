-- How far a reading goes: places and bytes go together, and a reading passes at least so many bytes.
use Rattle.std.proofs.Common.{◌≡◌, ℕ, zero, suc, ◌+◌, ◌≤◌, Bool, true, false, cond, ◌&&◌, ◌||◌, eqb, List, [], ◌∷◌, length, Some, None, Option, arith, length-drop}
use Rattle.std.proofs.lemmas.Bool.{cond_both}
use Rattle.cursor.specs.Scan.{Out, ok, bad, and_then, spot, name_len, name_of, name, spaces, gap, comment, byte, scan, value, escaped, stops, walk, path, any_path, next_path, needed, first_path, bar, pair, indented, flush, lead}
use Rattle.cursor.specs.declared.place.Fault.{Fault}
use Rattle.cursor.specs.declared.place.Fault.TheVariants.{Dollar}
use Rattle.cursor.specs.declared.place.Opens.{Opens}
use Rattle.cursor.specs.declared.lines.Lead.{Lead}
use Rattle.cursor.specs.declared.lines.Lead.TheVariants.{Ends, Blank, Remark, Flush, Indented}
use Rattle.cursor.proofs.Steps.{name_within}

-- from i and s to j and r, at least k bytes on
pub record Ahead (k i : ℕ) (s : List ℕ) (j : ℕ) (r : List ℕ) : Type 0 where
  pub place : j + length r ≡ i + length s
  pub past : i + k ≤ j

-- a reading passes as many bytes as w says of what it read
abbrev pub Moves : {A : Type 0} → (A → ℕ) → ℕ → List ℕ → Out A → Type 0
Moves w i s (ok a j r) = Ahead (w a) i s j r
Moves w i s (bad f) = Unit {0}

pub here_ahead : (i : ℕ) (s : List ℕ) → Ahead 0 i s i s
here_ahead i s = record { place = omega arith; past = omega arith }

pub one_ahead : (i b : ℕ) (s : List ℕ) → Ahead 1 i (b ∷ s) (i + 1) s
one_ahead i b s = record { place = omega arith; past = omega arith }

pub two_ahead : (i b c : ℕ) (s : List ℕ) → Ahead 2 i (b ∷ c ∷ s) (i + 2) s
two_ahead i b c s = record { place = omega arith; past = omega arith }

pub moves_on : {A : Type 0} (k : ℕ) (v w : A → ℕ) (i : ℕ) (s : List ℕ) (j : ℕ) (r : List ℕ) (o : Out A) → Ahead k i s j r → Moves v j r o → ((a : A) → w a ≤ k + v a) → Moves w i s o
moves_on k v w i s j r (ok a m t) h g l = let b = l a in record { place = omega arith; past = omega arith }
moves_on k v w i s j r (bad f) h g l = tt

pub then_moves : {A B : Type 0} (v : A → ℕ) (w : B → ℕ) (i : ℕ) (s : List ℕ) (o : Out A) (f : A → ℕ → List ℕ → Out B) → Moves v i s o → ((a : A) (j : ℕ) (r : List ℕ) → Ahead (v a) i s j r → Moves w i s (f a j r)) → Moves w i s (and_then o f)
then_moves v w i s (ok a j r) f h k = k a j r h
then_moves v w i s (bad e) f h k = tt

-- a reading after others that went k bytes on
pub next_moves : {A B : Type 0} (k : ℕ) (v : A → ℕ) (w : B → ℕ) (i : ℕ) (s : List ℕ) (j : ℕ) (r : List ℕ) (o : Out A) (f : A → ℕ → List ℕ → Out B) → Ahead k i s j r → Moves v j r o → ((a : A) (m : ℕ) (t : List ℕ) → Ahead (k + v a) i s m t → Moves w i s (f a m t)) → Moves w i s (and_then o f)
next_moves k v w i s j r (ok a m t) f h g n = n a m t (record { place = omega (arith, h.place, g.place); past = omega (arith, h.past, g.past) })
next_moves k v w i s j r (bad e) f h g n = tt

-- less is passed too
pub ahead_less : (k m i : ℕ) (s : List ℕ) (j : ℕ) (r : List ℕ) → Ahead k i s j r → m ≤ k → Ahead m i s j r
ahead_less k m i s j r h l = record { place = h.place; past = omega (arith, h.past) }

pub spaces_moves : (i : ℕ) (s : List ℕ) → Moves (λ _. 0) i s (spaces i s)
spaces_moves i [] = here_ahead i []
spaces_moves i (b ∷ s) =
    cond_both (eqb b 32) (spaces (i + 1) s) (ok tt i (b ∷ s)) (Moves (λ _. 0) i (b ∷ s))
    (λ _. moves_on 1 (λ _. 0) _ i _ (i + 1) s (spaces (i + 1) s) (one_ahead i b s) (spaces_moves (i + 1) s) (λ _. omega arith))
    (λ _. here_ahead i (b ∷ s))

pub gap_moves : (i : ℕ) (s : List ℕ) → Moves (λ _. 0) i s (gap i s)
gap_moves i [] = here_ahead i []
gap_moves i (b ∷ []) =
    cond_both (eqb b 32) (ok tt (i + 1) []) (ok tt i (b ∷ [])) (Moves (λ _. 0) i (b ∷ []))
    (λ _. record { place = omega arith; past = omega arith }) (λ _. here_ahead i (b ∷ []))
gap_moves i (b ∷ c ∷ s) =
    cond_both (eqb b 32) (gap (i + 1) (c ∷ s)) (cond (eqb b 36 && eqb c 10) (gap (i + 2) s) (ok tt i (b ∷ c ∷ s))) (Moves (λ _. 0) i (b ∷ c ∷ s))
    (λ _. moves_on 1 (λ _. 0) _ i _ (i + 1) (c ∷ s) (gap (i + 1) (c ∷ s)) (one_ahead i b (c ∷ s)) (gap_moves (i + 1) (c ∷ s)) (λ _. omega arith))
    (λ _.
    cond_both (eqb b 36 && eqb c 10) (gap (i + 2) s) (ok tt i (b ∷ c ∷ s)) (Moves (λ _. 0) i (b ∷ c ∷ s))
    (λ _. moves_on 2 (λ _. 0) _ i _ (i + 2) s (gap (i + 2) s) (two_ahead i b c s) (gap_moves (i + 2) s) (λ _. omega arith))
    (λ _. here_ahead i (b ∷ c ∷ s)))

pub comment_moves : (i : ℕ) (s : List ℕ) → Moves (λ _. 1) i s (comment i s)
comment_moves i [] = tt
comment_moves i (b ∷ s) =
    cond_both (eqb b 10) (ok tt (i + 1) s) (comment (i + 1) s) (Moves (λ _. 1) i (b ∷ s))
    (λ _. one_ahead i b s)
    (λ _. moves_on 1 (λ _. 1) _ i _ (i + 1) s (comment (i + 1) s) (one_ahead i b s) (comment_moves (i + 1) s) (λ _. omega arith))

pub byte_moves : (k : ℕ) (o : Opens) (i : ℕ) (s : List ℕ) → Moves (λ _. 1) i s (byte k o i s)
byte_moves k o i [] = tt
byte_moves k o i (b ∷ s) =
    cond_both (eqb b k) (ok tt (i + 1) s) (bad _) (Moves (λ _. 1) i (b ∷ s)) (λ _. one_ahead i b s) (λ _. tt)

name_of_lem : (o : Opens) (n i : ℕ) (s : List ℕ) → n ≤ length s → Moves (λ _. 1) i s (name_of o n i s)
name_of_lem o zero i s l = tt
name_of_lem o (suc n) i s l = record { place = omega (arith, length-drop (suc n) s); past = omega arith }

pub name_moves : (o : Opens) (i : ℕ) (s : List ℕ) → Moves (λ _. 1) i s (name o i s)
name_moves o i s = name_of_lem o (name_len s) i s (name_within s)

pub scan_moves : (i : ℕ) (s : List ℕ) → Moves (λ _. 0) i s (scan i s)
scan_moves i [] = tt
scan_moves i (b ∷ []) =
    cond_both (eqb b 10) (ok tt i (b ∷ [])) (cond (eqb b 36) (bad _) (bad _)) (Moves (λ _. 0) i (b ∷ [])) (λ _. here_ahead i (b ∷ []))
    (λ _. cond_both (eqb b 36) (bad _) (bad _) (Moves {A = Unit {0}} (λ _. 0) i (b ∷ [])) (λ _. tt) (λ _. tt))
scan_moves i (b ∷ c ∷ s) =
    cond_both (eqb b 10) (ok tt i (b ∷ c ∷ s)) (cond (eqb b 36) (cond (escaped (c ∷ s)) (scan (i + 2) s) (bad _)) (scan (i + 1) (c ∷ s))) (Moves (λ _. 0) i (b ∷ c ∷ s))
    (λ _. here_ahead i (b ∷ c ∷ s))
    (λ _.
    cond_both (eqb b 36) (cond (escaped (c ∷ s)) (scan (i + 2) s) (bad _)) (scan (i + 1) (c ∷ s)) (Moves (λ _. 0) i (b ∷ c ∷ s))
    (λ _.
    cond_both (escaped (c ∷ s)) (scan (i + 2) s) (bad _) (Moves (λ _. 0) i (b ∷ c ∷ s))
    (λ _. moves_on 2 (λ _. 0) _ i _ (i + 2) s (scan (i + 2) s) (two_ahead i b c s) (scan_moves (i + 2) s) (λ _. omega arith)) (λ _. tt))
    (λ _. moves_on 1 (λ _. 0) _ i _ (i + 1) (c ∷ s) (scan (i + 1) (c ∷ s)) (one_ahead i b (c ∷ s)) (scan_moves (i + 1) (c ∷ s)) (λ _. omega arith)))

pub value_moves : (i : ℕ) (s : List ℕ) → Moves (λ _. 0) i s (value i s)
value_moves i s = then_moves (λ _. 0) _ i s (scan i s) _ (scan_moves i s) (λ _ j r h. h)

-- the arms of a walk that is not over
going : (e : Fault) (n i b c : ℕ) (s : List ℕ) → n ≤ 1 → (v : Bool) → Moves (λ _. 0) (i + 2) s (walk v (i + 2) s) → Moves (λ _. 0) (i + 1) (c ∷ s) (walk false (i + 1) (c ∷ s)) → Moves (λ _. n) i (b ∷ c ∷ s) (cond (eqb b 36) (cond (escaped (c ∷ s)) (walk v (i + 2) s) (bad e)) (walk false (i + 1) (c ∷ s)))
going e n i b c s l v h k =
    cond_both (eqb b 36) (cond (escaped (c ∷ s)) (walk v (i + 2) s) (bad e)) (walk false (i + 1) (c ∷ s)) (Moves (λ _. n) i (b ∷ c ∷ s))
    (λ _.
    cond_both (escaped (c ∷ s)) (walk v (i + 2) s) (bad e) (Moves (λ _. n) i (b ∷ c ∷ s))
    (λ _. moves_on 2 (λ _. 0) _ i _ (i + 2) s (walk v (i + 2) s) (two_ahead i b c s) h (λ _. omega arith)) (λ _. tt))
    (λ _. moves_on 1 (λ _. 0) _ i _ (i + 1) (c ∷ s) (walk false (i + 1) (c ∷ s)) (one_ahead i b (c ∷ s)) k (λ _. omega arith))

pub walk_moves : (w : Bool) (i : ℕ) (s : List ℕ) → Moves (λ _. 0) i s (walk w i s)
walk_moves w i [] = tt
walk_moves w i (b ∷ []) =
    cond_both (w && eqb b 32) (bad _) (cond (stops b) (ok tt i (b ∷ [])) (cond (eqb b 36) (bad _) (bad _))) (Moves (λ _. 0) i (b ∷ [])) (λ _. tt)
    (λ _. cond_both (stops b) (ok tt i (b ∷ [])) (cond (eqb b 36) (bad _) (bad _)) (Moves (λ _. 0) i (b ∷ [])) (λ _. here_ahead i (b ∷ []))
    (λ _. cond_both (eqb b 36) (bad _) (bad _) (Moves {A = Unit {0}} (λ _. 0) i (b ∷ [])) (λ _. tt) (λ _. tt)))
walk_moves w i (b ∷ c ∷ s) =
    cond_both (w && eqb b 32) (walk true (i + 1) (c ∷ s)) (cond (stops b) (ok tt i (b ∷ c ∷ s)) (cond (eqb b 36) (cond (escaped (c ∷ s)) (walk (eqb c 10) (i + 2) s) (bad _)) (walk false (i + 1) (c ∷ s)))) (Moves (λ _. 0) i (b ∷ c ∷ s))
    (λ _. moves_on 1 (λ _. 0) _ i _ (i + 1) (c ∷ s) (walk true (i + 1) (c ∷ s)) (one_ahead i b (c ∷ s)) (walk_moves true (i + 1) (c ∷ s)) (λ _. omega arith))
    (λ _.
    cond_both (stops b) (ok tt i (b ∷ c ∷ s)) (cond (eqb b 36) (cond (escaped (c ∷ s)) (walk (eqb c 10) (i + 2) s) (bad _)) (walk false (i + 1) (c ∷ s))) (Moves (λ _. 0) i (b ∷ c ∷ s))
    (λ _. here_ahead i (b ∷ c ∷ s))
    (λ _. going (Dollar (spot i)) 0 i b c s (omega arith) (eqb c 10) (walk_moves (eqb c 10) (i + 2) s) (walk_moves false (i + 1) (c ∷ s))))

-- a path is not empty where it begins with nothing that ends one
path_begun : (i b : ℕ) (s : List ℕ) → stops b ≡ false → Moves (λ _. 1) i (b ∷ s) (walk false i (b ∷ s))
path_begun i b [] n = rw n (cond_both (eqb b 36) (bad _) (bad _) (Moves {A = Unit {0}} (λ _. 1) i (b ∷ [])) (λ _. tt) (λ _. tt))
path_begun i b (c ∷ s) n = rw n (going (Dollar (spot i)) 1 i b c s (omega arith) (eqb c 10) (walk_moves (eqb c 10) (i + 2) s) (walk_moves false (i + 1) (c ∷ s)))

-- a path counts for one byte at least, and no path for none
abbrev pub some : {A : Type 0} → Option A → ℕ
some None = 0
some (Some p) = 1

pub any_path_moves : (i : ℕ) (s : List ℕ) → Moves some i s (any_path i s)
any_path_moves i [] = here_ahead i []
any_path_moves i (b ∷ s) =
    cond_both (stops b) (ok None i (b ∷ s)) (and_then (path i (b ∷ s)) (λ p j r. ok (Some p) j r)) (Moves some i (b ∷ s))
    (λ _. here_ahead i (b ∷ s))
    (λ n. then_moves (λ _. 1) some i (b ∷ s) (path i (b ∷ s)) _
    (then_moves (λ _. 1) (λ _. 1) i (b ∷ s) (walk false i (b ∷ s)) _ (path_begun i b s n) (λ _ j r h. h)) (λ p j r h. h))

pub next_path_moves : (i : ℕ) (s : List ℕ) → Moves some i s (next_path i s)
next_path_moves i s =
    then_moves (λ _. 0) some i s (gap i s) _ (gap_moves i s)
    (λ _ j r h. moves_on 0 some some i s j r (any_path j r) h (any_path_moves j r) (λ _. omega arith))

needed_moves : (i : ℕ) (s : List ℕ) (p : Option (List ℕ)) (j : ℕ) (r : List ℕ) → Ahead (some p) i s j r → Moves (λ _. 1) i s (needed p j r)
needed_moves i s None j r h = tt
needed_moves i s (Some p) j r h = h

pub first_path_moves : (i : ℕ) (s : List ℕ) → Moves (λ _. 1) i s (first_path i s)
first_path_moves i s = then_moves some (λ _. 1) i s (next_path i s) needed (next_path_moves i s) (needed_moves i s)

pub bar_moves : (i : ℕ) (s : List ℕ) → Moves (λ _. 0) i s (bar i s)
bar_moves i [] = here_ahead i []
bar_moves i (b ∷ []) =
    cond_both (eqb b 124) (ok true (i + 1) []) (ok false i (b ∷ [])) (Moves (λ _. 0) i (b ∷ []))
    (λ _. record { place = omega arith; past = omega arith }) (λ _. here_ahead i (b ∷ []))
bar_moves i (b ∷ c ∷ s) =
    cond_both (eqb b 124) (cond (eqb c 124 || eqb c 64) (ok false i (b ∷ c ∷ s)) (ok true (i + 1) (c ∷ s))) (ok false i (b ∷ c ∷ s)) (Moves (λ _. 0) i (b ∷ c ∷ s))
    (λ _. cond_both (eqb c 124 || eqb c 64) (ok false i (b ∷ c ∷ s)) (ok true (i + 1) (c ∷ s)) (Moves (λ _. 0) i (b ∷ c ∷ s))
    (λ _. here_ahead i (b ∷ c ∷ s)) (λ _. record { place = omega arith; past = omega arith }))
    (λ _. here_ahead i (b ∷ c ∷ s))

pub pair_moves : (k i : ℕ) (s : List ℕ) → Moves (λ _. 0) i s (pair k i s)
pair_moves k i [] = here_ahead i []
pair_moves k i (b ∷ []) = here_ahead i (b ∷ [])
pair_moves k i (b ∷ c ∷ s) =
    cond_both (eqb b 124 && eqb c k) (ok true (i + 2) s) (ok false i (b ∷ c ∷ s)) (Moves (λ _. 0) i (b ∷ c ∷ s))
    (λ _. record { place = omega arith; past = omega arith }) (λ _. here_ahead i (b ∷ c ∷ s))

-- what of a line is passed for sure
abbrev pub line_led : Lead → ℕ
line_led Ends = 0
line_led Blank = 1
line_led Remark = 1
line_led Flush = 0
line_led Indented = 0

remark_moves : (i : ℕ) (s : List ℕ) → Moves line_led i s (and_then (comment i s) (λ _ j r. ok Remark j r))
remark_moves i s = then_moves (λ _. 1) line_led i s (comment i s) _ (comment_moves i s) (λ _ j r h. h)

indented_moves : (i : ℕ) (s : List ℕ) → Moves line_led i s (indented i s)
indented_moves i [] = tt
indented_moves i (b ∷ s) =
    cond_both (eqb b 10) (ok Blank (i + 1) s) (cond (eqb b 35) (and_then (comment i (b ∷ s)) (λ _ j r. ok Remark j r)) (ok Indented i (b ∷ s))) (Moves line_led i (b ∷ s))
    (λ _. one_ahead i b s)
    (λ _. cond_both (eqb b 35) (and_then (comment i (b ∷ s)) (λ _ j r. ok Remark j r)) (ok Indented i (b ∷ s)) (Moves line_led i (b ∷ s))
    (λ _. remark_moves i (b ∷ s)) (λ _. here_ahead i (b ∷ s)))

flush_moves : (i : ℕ) (s : List ℕ) → Moves line_led i s (flush i s)
flush_moves i [] = here_ahead i []
flush_moves i (b ∷ s) =
    cond_both (eqb b 10) (ok Blank (i + 1) s) (cond (eqb b 35) (and_then (comment i (b ∷ s)) (λ _ j r. ok Remark j r)) (ok Flush i (b ∷ s))) (Moves line_led i (b ∷ s))
    (λ _. one_ahead i b s)
    (λ _. cond_both (eqb b 35) (and_then (comment i (b ∷ s)) (λ _ j r. ok Remark j r)) (ok Flush i (b ∷ s)) (Moves line_led i (b ∷ s))
    (λ _. remark_moves i (b ∷ s)) (λ _. here_ahead i (b ∷ s)))

pub lead_moves : (i : ℕ) (s : List ℕ) → Moves line_led i s (lead i s)
lead_moves i [] = here_ahead i []
lead_moves i (b ∷ s) =
    cond_both (eqb b 32) (and_then (spaces i (b ∷ s)) (λ _ j r. indented j r)) (flush i (b ∷ s)) (Moves line_led i (b ∷ s))
    (λ _. then_moves (λ _. 0) line_led i (b ∷ s) (spaces i (b ∷ s)) _ (spaces_moves i (b ∷ s))
    (λ _ j r h. moves_on 0 line_led line_led i (b ∷ s) j r (indented j r) h (indented_moves j r) (λ _. omega arith)))
    (λ _. flush_moves i (b ∷ s))
