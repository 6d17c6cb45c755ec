-- Gaps, values and paths of two texts that begin alike.
use Rattle.std.proofs.Common.{◌≡◌, ℕ, zero, suc, ◌+◌, ◌-◌, ◌<◌, ◌≤◌, Bool, true, false, cond, ◌&&◌, ◌||◌, eqb, ltb, ◌⊎◌, List, [], ◌∷◌, ◌++◌, length, get_or, take, sym, refl, ap, ◌∙◌, subst, inl, inr, ⊎_elim, arith, length-append}
use Rattle.std.proofs.lemmas.Bool.{cond_both, cases_Bool, eqb-true, eqb-false, ne_eqb, eq-eqb, and_parts, and_from, false≢true}
use Rattle.std.proofs.lemmas.List.{take-append-le}
use Rattle.byteclass.specs.Class.{name_byte, simple_byte}
use Rattle.cursor.specs.Scan.{Out, ok, bad, and_then, spot, up_to, name_len, gap, braced, escaped, scan, value, stops, walk, path}
use Rattle.cursor.specs.declared.place.Fault.{Fault}
use Rattle.cursor.specs.declared.place.Fault.TheVariants.{TooLong, Banned, Syntax, Dollar, LeftOut as LeftOutAt}
use Rattle.cursor.proofs.Steps.{gap_space, scan_line, scan_plain, walk_plain}
use Rattle.text.proofs.Sound.{not_name, name_10, name_36, name_stops}
use Rattle.text.proofs.Later.{Later, gap_later, scan_later, walk_later}
use Rattle.text.proofs.Near.{Kept, NearFault, Near, later_near, then_near, ok_near, two, name_len_near}

-- as Near, but where the texts part right after a byte c, what follows may decide
abbrev pub Edge : {A : Type 0} → ℕ → (A → Type 0) → ℕ → List ℕ → List ℕ → Out A → Out A → Type 0
Edge c P n x y (ok a j r) o = ((n ≤ j) ⊎ ((j + 1 ≡ n) × (r ≡ c ∷ x) × P a)) ⊎ Kept n x y a j r o
Edge c P n x y (bad f) o = NearFault n f o

abbrev Any : Unit {0} → Type 0
Any u = Unit {0}

module _ (c n : ℕ) (x y : List ℕ) where
  pub near_edge : {A : Type 0} (P : A → Type 0) (o q : Out A) → Near n x y o q → Edge c P n x y o q
  near_edge P (ok a j r) q h = ⊎_elim (λ l. inl (inl l)) (λ w. inr w) h
  near_edge P (bad f) q h = h

  pub then_edge : {A B : Type 0} (P : A → Type 0) (o q : Out A) (f : A → ℕ → List ℕ → Out B) → Edge c P n x y o q → ((a : A) (j : ℕ) (r : List ℕ) → n ≤ j → Later n (f a j r)) → ((a : A) (j : ℕ) (v : List ℕ) → j + length v ≡ n → 0 < length v → Near n x y (f a j (v ++ x)) (f a j (v ++ y))) → ((a : A) (j : ℕ) → j + 1 ≡ n → P a → Later n (f a j (c ∷ x))) → Near n x y (and_then o f) (and_then q f)
  then_edge P (ok a j r) q f h k1 k2 k3 =
      ⊎_elim
      (λ w. ⊎_elim (λ l. later_near n x y (f a j r) (and_then q f) (k1 a j r l))
      (λ e. subst (λ z. Near n x y (f a j z) (and_then q f)) (sym e.1) (later_near n x y (f a j (c ∷ x)) (and_then q f) (k3 a j e.0 e.2))) w)
      (λ w. then_near n x y (ok a j r) q f (inr w) k1 k2) h
  then_edge P (bad e) q f h k1 k2 k3 = then_near n x y (bad e) q f h k1 k2

  pub two_edge : {A : Type 0} (P : A → Type 0) (t : Bool) (a b d e : Out A) → (t ≡ true → Edge c P n x y a d) → (t ≡ false → Edge c P n x y b e) → Edge c P n x y (cond t a b) (cond t d e)
  two_edge P true a b d e h k = h refl
  two_edge P false a b d e h k = k refl

pub gap_else : (i b : ℕ) (s : List ℕ) → eqb b 32 ≡ false → eqb b 36 ≡ false → ok tt i (b ∷ s) ≡ gap i (b ∷ s)
gap_else i b [] f g = rw f
gap_else i b (c ∷ s) f g = rw (f, g)

module _ (n : ℕ) (x y : List ℕ) where
  -- a `$` right before the texts part
  gap_dollar : (i b : ℕ) (s : List ℕ) (q : Out (Unit {0})) → eqb b 32 ≡ false → b ≡ 36 → i + 1 ≡ n → s ≡ x → Edge 36 Any n x y (gap i (b ∷ s)) q
  gap_dollar i b [] q f p e w = rw f (inl (inr (e, ap (λ z. z ∷ []) p ∙ ap (λ z. 36 ∷ z) w, tt)))
  gap_dollar i b (c ∷ s) q f p e w =
      rw f (cond_both (eqb b 36 && eqb c 10) (gap (i + 2) s) (ok tt i (b ∷ c ∷ s)) (λ o. Edge 36 Any n x y o q)
      (λ _. near_edge 36 n x y Any (gap (i + 2) s) q (later_near n x y (gap (i + 2) s) q (gap_later n (i + 2) s (omega arith))))
      (λ _. inl (inr (e, ap (λ z. z ∷ c ∷ s) p ∙ ap (λ z. 36 ∷ z) w, tt))))

  pub gap_near : (i : ℕ) (u : List ℕ) → i + length u ≡ n → Edge 36 Any n x y (gap i (u ++ x)) (gap i (u ++ y))
  gap_near i [] e = near_edge 36 n x y Any (gap i x) (gap i y) (later_near n x y (gap i x) (gap i y) (gap_later n i x (omega arith)))
  gap_near i (b ∷ []) e =
      ⊎_elim
      (λ t. near_edge 36 n x y Any (gap i (b ∷ x)) (gap i (b ∷ y)) (later_near n x y (gap i (b ∷ x)) (gap i (b ∷ y))
      (subst (Later n) (gap_space i (i + 1) (b ∷ x) x (omega arith) (eqb-true b 32 t) refl refl) (gap_later n (i + 1) x (omega arith)))))
      (λ f. ⊎_elim
      (λ t. gap_dollar i b x (gap i (b ∷ y)) f (eqb-true b 36 t) (omega arith) refl)
      (λ g. subst (λ o. Edge 36 Any n x y o (gap i (b ∷ y))) (gap_else i b x f g)
      (subst (λ o. Edge 36 Any n x y (ok tt i (b ∷ x)) o) (gap_else i b y f g) (near_edge 36 n x y Any (ok tt i (b ∷ x)) (ok tt i (b ∷ y)) (ok_near n x y tt i (b ∷ []) e))))
      (cases_Bool (eqb b 36)))
      (cases_Bool (eqb b 32))
  gap_near i (b ∷ c ∷ u) e =
      two_edge 36 n x y Any (eqb b 32) _ _ _ _ (λ _. gap_near (i + 1) (c ∷ u) (omega arith))
      (λ _. two_edge 36 n x y Any (eqb b 36 && eqb c 10) _ _ _ _ (λ _. gap_near (i + 2) u (omega arith))
      (λ _. near_edge 36 n x y Any (ok tt i (b ∷ c ∷ u ++ x)) (ok tt i (b ∷ c ∷ u ++ y)) (ok_near n x y tt i (b ∷ c ∷ u) e)))

-- a name in braces that both texts hold, or that goes on past where they part
get_left : (m : ℕ) (u x : List ℕ) → m < length u → get_or (u ++ x) m 0 ≡ get_or u m 0
get_left m [] x l = absurd (omega arith)
get_left zero (b ∷ u) x l = refl
get_left (suc m) (b ∷ u) x l = get_left m u x (omega arith)

braced_near : (u x y : List ℕ) → braced (u ++ x) ≡ true → (braced (u ++ y) ≡ true) ⊎ (length u ≤ name_len (u ++ x))
braced_near u x y h =
    ⊎_elim
    (λ w. inl (
    let p = and_parts (ltb 0 (name_len (u ++ x))) (eqb (get_or (u ++ x) (name_len (u ++ x)) 0) 125) h in
    let g : get_or (u ++ y) (name_len (u ++ x)) 0 ≡ 125 = get_left _ u y w.1 ∙ (sym (get_left _ u x w.1) ∙ eqb-true _ _ p.1) in
    subst (λ m. (ltb 0 m && eqb (get_or (u ++ y) m 0) 125) ≡ true) w.0 (and_from _ _ p.0 (eq-eqb _ _ g))))
    (λ l. inr l)
    (name_len_near u x y)

pub escaped_near : (c : ℕ) (u x y : List ℕ) → escaped (c ∷ u ++ x) ≡ true → (escaped (c ∷ u ++ y) ≡ true) ⊎ ((c ≡ 123) × (length u ≤ name_len (u ++ x)))
escaped_near c u x y h =
    cond_both (eqb c 10 || (eqb c 32 || (eqb c 58 || eqb c 36))) true (cond (eqb c 123) (braced (u ++ x)) (simple_byte c))
    (λ z. (eqb c 10 || (eqb c 32 || (eqb c 58 || eqb c 36))) ≡ (eqb c 10 || (eqb c 32 || (eqb c 58 || eqb c 36))) → z ≡ true → (escaped (c ∷ u ++ y) ≡ true) ⊎ ((c ≡ 123) × (length u ≤ name_len (u ++ x))))
    (λ t _ _. inl (rw t refl))
    (λ f _. cond_both (eqb c 123) (braced (u ++ x)) (simple_byte c) (λ z. z ≡ true → (escaped (c ∷ u ++ y) ≡ true) ⊎ ((c ≡ 123) × (length u ≤ name_len (u ++ x))))
    (λ t k. ⊎_elim (λ b. inl (rw (f, t) b)) (λ l. inr (eqb-true c 123 t, l)) (braced_near u x y k))
    (λ t k. inl (rw (f, t) k)))
    refl h

-- a name that goes on past n is read past n
pass_late : (n : ℕ) (g : ℕ → List ℕ → Out (Unit {0})) → ((i b : ℕ) (t : List ℕ) → name_byte b ≡ true → g (i + 1) t ≡ g i (b ∷ t)) → ((i : ℕ) (s : List ℕ) → n ≤ i → Later n (g i s)) → (i : ℕ) (u x : List ℕ) → i + length u ≡ n → length u ≤ name_len (u ++ x) → Later n (g i (u ++ x))
pass_late n g on late i [] x e l = late i x (omega arith)
pass_late n g on late i (b ∷ u) x e l =
    cond_both (name_byte b) (suc (name_len (u ++ x))) 0 (λ m. suc (length u) ≤ m → Later n (g i (b ∷ u ++ x)))
    (λ t k. subst (Later n) (on i b (u ++ x) t) (pass_late n g on late (i + 1) u x (omega arith) (omega arith)))
    (λ _ k. absurd (omega arith))
    l

pub scan_on : (i b : ℕ) (t : List ℕ) → name_byte b ≡ true → scan (i + 1) t ≡ scan i (b ∷ t)
scan_on i b t h = scan_plain i (i + 1) (b ∷ t) t (omega arith) (not_name b 10 h name_10) (not_name b 36 h name_36) refl refl

-- after a `$` a value has no fault of the grammar before the second byte
pub scan_dollar_late : (n i b : ℕ) (s : List ℕ) → b ≡ 36 → n ≤ i + 2 → Later n (scan i (b ∷ s))
scan_dollar_late n i b [] p l = rw p tt
scan_dollar_late n i b (c ∷ s) p l = rw p (cond_both (escaped (c ∷ s)) (scan (i + 2) s) (bad (Dollar (spot i))) (Later n) (λ _. scan_later n (i + 2) s l) (λ _. tt))

module _ (n : ℕ) (x y : List ℕ) where
  pub scan_near : (i : ℕ) (u : List ℕ) → i + length u ≡ n → Near n x y (scan i (u ++ x)) (scan i (u ++ y))
  scan_near i [] e = later_near n x y (scan i x) (scan i y) (scan_later n i x (omega arith))
  scan_near i (b ∷ []) e =
      ⊎_elim
      (λ t. let p = eqb-true b 10 t in
      subst (λ o. Near n x y o (scan i (b ∷ y))) (sym (scan_line i (b ∷ x) (omega arith) p))
      (subst (λ o. Near n x y (ok tt i (b ∷ x)) o) (sym (scan_line i (b ∷ y) (omega arith) p)) (ok_near n x y tt i (b ∷ []) e)))
      (λ f. ⊎_elim
      (λ t. later_near n x y (scan i (b ∷ x)) (scan i (b ∷ y)) (scan_dollar_late n i b x (eqb-true b 36 t) (omega arith)))
      (λ g. later_near n x y (scan i (b ∷ x)) (scan i (b ∷ y))
      (subst (Later n) (scan_plain i (i + 1) (b ∷ x) x (omega arith) (eqb-false b 10 f) (eqb-false b 36 g) refl refl) (scan_later n (i + 1) x (omega arith))))
      (cases_Bool (eqb b 36)))
      (cases_Bool (eqb b 10))
  scan_near i (b ∷ c ∷ u) e =
      two n x y (eqb b 10) _ _ _ _ (λ _. ok_near n x y tt i (b ∷ c ∷ u) e)
      (λ _. two n x y (eqb b 36) _ _ _ _
      (λ _. cond_both (escaped (c ∷ u ++ x)) (scan (i + 2) (u ++ x)) (bad (Dollar (spot i))) (λ o. Near n x y o (cond (escaped (c ∷ u ++ y)) (scan (i + 2) (u ++ y)) (bad (Dollar (spot i)))))
      (λ t. ⊎_elim
      (λ w. rw w (scan_near (i + 2) u (omega arith)))
      (λ l. later_near n x y (scan (i + 2) (u ++ x)) _ (pass_late n scan scan_on (scan_later n) (i + 2) u x (omega arith) l.1))
      (escaped_near c u x y t))
      (λ _. tt))
      (λ _. scan_near (i + 1) (c ∷ u) (omega arith)))

pub walk_go : (w : Bool) (i b : ℕ) (t : List ℕ) → stops b ≡ false → (b ≡ 36 → ⊥) → walk false (i + 1) t ≡ walk w i (b ∷ t)
walk_go w i b t f m =
    let no_stop : (k : ℕ) → stops k ≡ true → b ≡ k → ⊥ = λ k h e. false≢true (sym f ∙ (ap stops e ∙ h)) in
    walk_plain w i (i + 1) (b ∷ t) t (omega arith) (no_stop 32 refl) (no_stop 58 refl) (no_stop 124 refl) (no_stop 10 refl) m refl refl

pub walk_on : (i b : ℕ) (t : List ℕ) → name_byte b ≡ true → walk false (i + 1) t ≡ walk false i (b ∷ t)
walk_on i b t h = walk_go false i b t (name_stops b h) (not_name b 36 h name_36)

pub walk_dollar_late : (n : ℕ) (w : Bool) (i b : ℕ) (s : List ℕ) → b ≡ 36 → n ≤ i + 2 → Later n (walk w i (b ∷ s))
walk_dollar_late n true i b [] p l = rw p tt
walk_dollar_late n false i b [] p l = rw p tt
walk_dollar_late n true i b (c ∷ s) p l = rw p (cond_both (escaped (c ∷ s)) (walk (eqb c 10) (i + 2) s) (bad (Dollar (spot i))) (Later n) (λ _. walk_later n (eqb c 10) (i + 2) s l) (λ _. tt))
walk_dollar_late n false i b (c ∷ s) p l = rw p (cond_both (escaped (c ∷ s)) (walk (eqb c 10) (i + 2) s) (bad (Dollar (spot i))) (Later n) (λ _. walk_later n (eqb c 10) (i + 2) s l) (λ _. tt))

pub walk_stop_here : (w : Bool) (i b : ℕ) (s : List ℕ) → (w && eqb b 32) ≡ false → stops b ≡ true → ok tt i (b ∷ s) ≡ walk w i (b ∷ s)
walk_stop_here w i b [] f t = rw (f, t)
walk_stop_here w i b (c ∷ s) f t = rw (f, t)

pub walk_space_here : (w : Bool) (i b : ℕ) (s : List ℕ) → (w && eqb b 32) ≡ true → walk true (i + 1) s ≡ walk w i (b ∷ s)
walk_space_here w i b [] t = rw t
walk_space_here w i b (c ∷ s) t = rw t

module _ (n : ℕ) (x y : List ℕ) where
  pub walk_near : (w : Bool) (i : ℕ) (u : List ℕ) → i + length u ≡ n → Near n x y (walk w i (u ++ x)) (walk w i (u ++ y))
  walk_near w i [] e = later_near n x y (walk w i x) (walk w i y) (walk_later n w i x (omega arith))
  walk_near w i (b ∷ []) e =
      ⊎_elim
      (λ t. later_near n x y (walk w i (b ∷ x)) (walk w i (b ∷ y)) (subst (Later n) (walk_space_here w i b x t) (walk_later n true (i + 1) x (omega arith))))
      (λ f. ⊎_elim
      (λ t. subst (λ o. Near n x y o (walk w i (b ∷ y))) (walk_stop_here w i b x f t)
      (subst (λ o. Near n x y (ok tt i (b ∷ x)) o) (walk_stop_here w i b y f t) (ok_near n x y tt i (b ∷ []) e)))
      (λ g. ⊎_elim
      (λ t. later_near n x y (walk w i (b ∷ x)) (walk w i (b ∷ y)) (walk_dollar_late n w i b x (eqb-true b 36 t) (omega arith)))
      (λ h. later_near n x y (walk w i (b ∷ x)) (walk w i (b ∷ y)) (subst (Later n) (walk_go w i b x g (eqb-false b 36 h)) (walk_later n false (i + 1) x (omega arith))))
      (cases_Bool (eqb b 36)))
      (cases_Bool (stops b)))
      (cases_Bool (w && eqb b 32))
  walk_near w i (b ∷ c ∷ u) e =
      two n x y (w && eqb b 32) _ _ _ _ (λ _. walk_near true (i + 1) (c ∷ u) (omega arith))
      (λ _. two n x y (stops b) _ _ _ _ (λ _. ok_near n x y tt i (b ∷ c ∷ u) e)
      (λ _. two n x y (eqb b 36) _ _ _ _
      (λ _. cond_both (escaped (c ∷ u ++ x)) (walk (eqb c 10) (i + 2) (u ++ x)) (bad (Dollar (spot i))) (λ o. Near n x y o (cond (escaped (c ∷ u ++ y)) (walk (eqb c 10) (i + 2) (u ++ y)) (bad (Dollar (spot i)))))
      (λ t. ⊎_elim
      (λ v. rw v (walk_near (eqb c 10) (i + 2) u (omega arith)))
      (λ l. later_near n x y (walk (eqb c 10) (i + 2) (u ++ x)) _
      (subst (λ z. Later n (walk z (i + 2) (u ++ x))) (sym (ne_eqb c 10 (λ (q : c ≡ 10). omega (arith, l.0)))) (pass_late n (walk false) walk_on (walk_later n false) (i + 2) u x (omega arith) l.1)))
      (escaped_near c u x y t))
      (λ _. tt))
      (λ _. walk_near false (i + 1) (c ∷ u) (omega arith))))

-- the bytes that a reading passed are the same in both texts
pub up_to_left : (u v x : List ℕ) → length v ≤ length u → up_to (u ++ x) (v ++ x) ≡ take (length u - length v) u
up_to_left u v x l =
    let e : length (u ++ x) - length (v ++ x) ≡ length u - length v = omega (arith, length-append u x, length-append v x) in
    ap (λ k. take k (u ++ x)) e ∙ take-append-le (length u - length v) u x (omega arith)

module _ (n : ℕ) (x y : List ℕ) where
  text_fault : (f : Fault) (q : Out (Unit {0})) (g : Unit {0} → ℕ → List ℕ → Out (List ℕ)) → NearFault n f q → NearFault n f (and_then q g)
  text_fault TooLong q g h = tt
  text_fault (Banned p) q g h = tt
  text_fault (Syntax p) q g h = ⊎_elim (λ l. inl l) (λ e. inr (ap (λ z. and_then z g) e)) h
  text_fault (Dollar p) q g h = tt
  text_fault (LeftOutAt p) q g h = tt

  text_near : (i : ℕ) (u : List ℕ) (o q : Out (Unit {0})) → i + length u ≡ n → Near n x y o q → Later i o → Near n x y (and_then o (λ _ j r. ok (up_to (u ++ x) r) j r)) (and_then q (λ _ j r. ok (up_to (u ++ y) r) j r))
  text_near i u (ok a j r) q e h l =
      ⊎_elim (λ m. inl m)
      (λ w.
      let k : length w.left ≤ length u = omega (arith, w.place) in
      let s : up_to (u ++ y) (w.left ++ y) ≡ up_to (u ++ x) r = up_to_left u w.left y k ∙ (sym (up_to_left u w.left x k) ∙ ap (up_to (u ++ x)) (sym w.rest)) in
      inr (record {
        left = w.left;
        place = w.place;
        some = w.some;
        rest = w.rest;
        same = ap (λ z. and_then z (λ _ j2 r2. ok (up_to (u ++ y) r2) j2 r2)) w.same ∙ ap (λ z. ok z j (w.left ++ y)) s;
      }))
      h
  text_near i u (bad f) q e h l = text_fault f q _ h

  pub value_near : (i : ℕ) (u : List ℕ) → i + length u ≡ n → Near n x y (value i (u ++ x)) (value i (u ++ y))
  value_near i u e = text_near i u (scan i (u ++ x)) (scan i (u ++ y)) e (scan_near n x y i u e) (scan_later i i (u ++ x) (omega arith))

  pub path_near : (i : ℕ) (u : List ℕ) → i + length u ≡ n → Near n x y (path i (u ++ x)) (path i (u ++ y))
  path_near i u e = text_near i u (walk false i (u ++ x)) (walk false i (u ++ y)) e (walk_near n x y false i u e) (walk_later i false i (u ++ x) (omega arith))
