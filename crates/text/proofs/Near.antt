-- Two texts that begin alike are read alike up to where they part: u is what they share, x and y what follows, n the place where they part.
use Rattle.std.proofs.Common.{◌≡◌, ℕ, zero, suc, ◌+◌, ◌<◌, ◌≤◌, Bool, true, false, cond, eqb, ◌⊎◌, List, [], ◌∷◌, ◌++◌, length, take, drop, sym, refl, ap, ◌∙◌, subst, inl, inr, ⊎_elim, arith, length-drop}
use Rattle.std.proofs.lemmas.Bool.{cond_both}
use Rattle.std.proofs.lemmas.List.{take-append-le}
use Rattle.byteclass.specs.Class.{name_byte}
use Rattle.cursor.specs.Scan.{Out, ok, bad, and_then, spot, opens, lack, name_len, name_of, name, spaces, comment, byte}
use Rattle.cursor.specs.declared.place.Fault.{Fault}
use Rattle.cursor.specs.declared.place.Fault.TheVariants.{TooLong, Banned, Syntax, Dollar, LeftOut as LeftOutAt}
use Rattle.cursor.specs.declared.place.Opens.{Opens}
use Rattle.text.proofs.Later.{LateFault, Later, name_later, byte_later, comment_later, spaces_later}

-- the same was read, and both texts go on with v
pub record Kept {A : Type 0} (n : ℕ) (x y : List ℕ) (a : A) (j : ℕ) (r : List ℕ) (o : Out A) : Type 0 where
  pub left : List ℕ
  pub place : j + length left ≡ n
  pub some : 0 < length left
  pub rest : r ≡ left ++ x
  pub same : o ≡ ok a j (left ++ y)

abbrev pub NearFault : {A : Type 0} → ℕ → Fault → Out A → Type 0
NearFault n TooLong o = Unit {0}
NearFault n (Banned p) o = Unit {0}
NearFault n (Syntax p) o = (n ≤ p.byte) ⊎ (o ≡ bad (Syntax p))
NearFault n (Dollar p) o = Unit {0}
NearFault n (LeftOutAt p) o = Unit {0}

-- a reading ends at n or later, or as the other one does
abbrev pub Near : {A : Type 0} → ℕ → List ℕ → List ℕ → Out A → Out A → Type 0
Near n x y (ok a j r) o = (n ≤ j) ⊎ Kept n x y a j r o
Near n x y (bad f) o = NearFault n f o

late_fault : {A : Type 0} (n : ℕ) (f : Fault) (o : Out A) → LateFault n f → NearFault n f o
late_fault n TooLong o h = tt
late_fault n (Banned p) o h = tt
late_fault n (Syntax p) o h = inl h
late_fault n (Dollar p) o h = tt
late_fault n (LeftOutAt p) o h = tt

module _ (n : ℕ) (x y : List ℕ) where
  pub later_near : {A : Type 0} (o q : Out A) → Later n o → Near n x y o q
  later_near (ok a j r) q h = inl h
  later_near (bad f) q h = late_fault n f q h

  pub fault_then : {A B : Type 0} (f : Fault) (o : Out A) (k : A → ℕ → List ℕ → Out B) → NearFault n f o → NearFault n f (and_then o k)
  fault_then TooLong o k h = tt
  fault_then (Banned p) o k h = tt
  fault_then (Syntax p) o k h = ⊎_elim (λ l. inl l) (λ e. inr (ap (λ z. and_then z k) e)) h
  fault_then (Dollar p) o k h = tt
  fault_then (LeftOutAt p) o k h = tt

  pub then_near2 : {A B : Type 0} (o q : Out A) (f g : A → ℕ → List ℕ → Out B) → Near n x y o q → ((a : A) (j : ℕ) (r : List ℕ) → n ≤ j → Later n (f a j r)) → ((a : A) (j : ℕ) (v : List ℕ) → j + length v ≡ n → 0 < length v → Near n x y (f a j (v ++ x)) (g a j (v ++ y))) → Near n x y (and_then o f) (and_then q g)
  then_near2 (ok a j r) q f g h k1 k2 =
      ⊎_elim (λ l. later_near (f a j r) (and_then q g) (k1 a j r l))
      (λ w. subst (λ z. Near n x y (f a j z) (and_then q g)) (sym w.rest)
      (subst (λ z. Near n x y (f a j (w.left ++ x)) (and_then z g)) (sym w.same) (k2 a j w.left w.place w.some))) h
  then_near2 (bad e) q f g h k1 k2 = fault_then e q g h

  pub then_near : {A B : Type 0} (o q : Out A) (f : A → ℕ → List ℕ → Out B) → Near n x y o q → ((a : A) (j : ℕ) (r : List ℕ) → n ≤ j → Later n (f a j r)) → ((a : A) (j : ℕ) (v : List ℕ) → j + length v ≡ n → 0 < length v → Near n x y (f a j (v ++ x)) (f a j (v ++ y))) → Near n x y (and_then o f) (and_then q f)
  then_near o q f h k1 k2 = then_near2 o q f f h k1 k2

  -- both go on with v, which may be empty
  pub ok_near : {A : Type 0} (a : A) (j : ℕ) (v : List ℕ) → j + length v ≡ n → Near n x y (ok a j (v ++ x)) (ok a j (v ++ y))
  ok_near a j [] e = inl (omega arith)
  ok_near a j (b ∷ v) e = inr (record { left = b ∷ v; place = e; some = omega arith; rest = refl; same = refl })

  -- the same test in both
  pub two : {A : Type 0} (t : Bool) (a b c d : Out A) → (t ≡ true → Near n x y a c) → (t ≡ false → Near n x y b d) → Near n x y (cond t a b) (cond t c d)
  two true a b c d h k = h refl
  two false a b c d h k = k refl

  same_syntax : (A : Type 0) (t : Bool) (i j : ℕ) → NearFault {A = A} n (cond t (Syntax (spot i)) (Syntax (spot j))) (bad (cond t (Syntax (spot i)) (Syntax (spot j))))
  same_syntax A true i j = inr refl
  same_syntax A false i j = inr refl

  lack_near : (A : Type 0) (o : Opens) (i b : ℕ) (u : List ℕ) → Near {A = A} n x y (bad (lack o i (b ∷ u ++ x))) (bad (lack o i (b ∷ u ++ y)))
  lack_near A o i b u = same_syntax A (opens o b) (i + 1) i

  pub byte_near : (k : ℕ) (o : Opens) (i : ℕ) (u : List ℕ) → i + length u ≡ n → Near n x y (byte k o i (u ++ x)) (byte k o i (u ++ y))
  byte_near k o i [] e = later_near (byte k o i x) (byte k o i y) (byte_later n k o i x (omega arith))
  byte_near k o i (b ∷ u) e = two (eqb b k) _ _ _ _ (λ _. ok_near tt (i + 1) u (omega arith)) (λ _. lack_near (Unit {0}) o i b u)

  pub comment_near : (i : ℕ) (u : List ℕ) → i + length u ≡ n → Near n x y (comment i (u ++ x)) (comment i (u ++ y))
  comment_near i [] e = later_near (comment i x) (comment i y) (comment_later n i x (omega arith))
  comment_near i (b ∷ u) e = two (eqb b 10) _ _ _ _ (λ _. ok_near tt (i + 1) u (omega arith)) (λ _. comment_near (i + 1) u (omega arith))

  pub spaces_near : (i : ℕ) (u : List ℕ) → i + length u ≡ n → Near n x y (spaces i (u ++ x)) (spaces i (u ++ y))
  spaces_near i [] e = later_near (spaces i x) (spaces i y) (spaces_later n i x (omega arith))
  spaces_near i (b ∷ u) e = two (eqb b 32) _ _ _ _ (λ _. spaces_near (i + 1) u (omega arith)) (λ _. ok_near tt i (b ∷ u) e)

-- the bytes of a name, up to where the texts part
pub name_len_near : (u x y : List ℕ) → ((name_len (u ++ x) ≡ name_len (u ++ y)) × (name_len (u ++ x) < length u)) ⊎ (length u ≤ name_len (u ++ x))
name_len_near [] x y = inr (omega arith)
name_len_near (b ∷ u) x y =
    cond_both (name_byte b) (suc (name_len (u ++ x))) 0 (λ m. name_byte b ≡ name_byte b → ((m ≡ cond (name_byte b) (suc (name_len (u ++ y))) 0) × (m < suc (length u))) ⊎ (suc (length u) ≤ m))
    (λ t _. ⊎_elim (λ w. inl (rw t (ap suc w.0), omega (arith, w.1))) (λ l. inr (omega arith)) (name_len_near u x y))
    (λ f _. inl (rw f refl, omega arith)) refl

pub drop_left : (m : ℕ) (u x : List ℕ) → m ≤ length u → drop m (u ++ x) ≡ drop m u ++ x
drop_left zero u x l = refl
drop_left (suc m) [] x l = absurd (omega arith)
drop_left (suc m) (b ∷ u) x l = drop_left m u x (omega arith)

module _ (n : ℕ) (x y : List ℕ) where
  name_of_near : (o : Opens) (k i b : ℕ) (u : List ℕ) → k < length (b ∷ u) → i + length (b ∷ u) ≡ n → Near n x y (name_of o k i (b ∷ u ++ x)) (name_of o k i (b ∷ u ++ y))
  name_of_near o zero i b u l e = lack_near n x y (List ℕ) o i b u
  name_of_near o (suc k) i b u l e =
      let r : drop k (u ++ x) ≡ drop k u ++ x = drop_left k u x (omega arith) in
      let q : drop k (u ++ y) ≡ drop k u ++ y = drop_left k u y (omega arith) in
      let t : take k (u ++ x) ≡ take k (u ++ y) = take-append-le k u x (omega arith) ∙ sym (take-append-le k u y (omega arith)) in
      inr (record {
        left = drop k u;
        place = omega (arith, length-drop k u);
        some = omega (arith, length-drop k u);
        rest = r;
        same = ap (λ z. ok (b ∷ take k (u ++ y)) (i + suc k) z) q ∙ ap (λ z. ok (b ∷ z) (i + suc k) (drop k u ++ y)) (sym t);
      })

  long_name : (o : Opens) (k i : ℕ) (s : List ℕ) (q : Out (List ℕ)) → 0 < k → n ≤ i + k → Near n x y (name_of o k i s) q
  long_name o zero i s q l h = absurd (omega arith)
  long_name o (suc k) i s q l h = inl h

  pub name_near : (o : Opens) (i : ℕ) (u : List ℕ) → i + length u ≡ n → Near n x y (name o i (u ++ x)) (name o i (u ++ y))
  name_near o i [] e = later_near n x y (name o i x) (name o i y) (name_later n o i x (omega arith))
  name_near o i (b ∷ u) e =
      ⊎_elim
      (λ w. subst (λ k. Near n x y (name o i (b ∷ u ++ x)) (name_of o k i (b ∷ u ++ y))) w.0 (name_of_near o (name_len (b ∷ u ++ x)) i b u w.1 e))
      (λ l. long_name o (name_len (b ∷ u ++ x)) i (b ∷ u ++ x) (name o i (b ∷ u ++ y)) (omega arith) (omega arith))
      (name_len_near (b ∷ u) x y)
