-- The least number that passes, and how many pass.
use Rattle.std.proofs.Common.{◌≡◌, ℕ, zero, suc, ◌+◌, ◌<◌, ◌≤◌, Bool, true, false, cond, List, [], ◌∷◌, length, get_or, Some, None, sym, refl, ap, ◌∙◌, ⊎_elim, add-zero, add-one, zero-add, arith}
use Rattle.std.proofs.lemmas.Bool.{cases_lt, cases_Bool, cond-true, cond-false}
use Rattle.std.proofs.lemmas.Iterator.Adapters.{position_from-zero}
use Rattle.std.proofs.lemmas.List.Recursion.{is_count_by}
use Rattle.std.specs.List.{position, position_from}
use Rattle.graph.specs.Circle.{least, count_of}
use Rattle.graph.specs.Rows.{bit, set_bits}

-- c is the least of the n numbers from i on that passes
pub record Least (p : ℕ → Bool) (i n c : ℕ) : Type 0 where
  pub from : i ≤ c
  pub within : c < i + n
  pub passes : p c ≡ true
  pub first : (d : ℕ) → i ≤ d → d < c → p d ≡ false

-- none of the n numbers from i on passes
abbrev pub NoneOf : (ℕ → Bool) → ℕ → ℕ → Type 0
NoneOf p i n = (d : ℕ) → i ≤ d → d < i + n → p d ≡ false

some_none : {A : Type 0} (x : ℕ) → Some x ≡ None → A
some_none x e = let z : ◌≡◌ {A = ℕ} 0 1 = cc in absurd (omega arith)

same_some : (x y : ℕ) → Some x ≡ Some y → x ≡ y
same_some x y e = cc

module _ (p : ℕ → Bool) where
  pub least_is : (i n c : ℕ) → least p i n ≡ Some c → Least p i n c
  least_is i zero c e = some_none c (sym e)
  least_is i (suc n) c e = ⊎_elim
      (λ t.
      let same : i ≡ c = same_some i c (sym (cond-true (p i) (Some i) (least p (i + 1) n) t) ∙ e) in
      record { from = omega arith; within = omega arith; passes = ap p (sym same) ∙ t; first = λ d a b. absurd (omega arith) })
      (λ f.
      let r = least_is (i + 1) n c (sym (cond-false (p i) (Some i) (least p (i + 1) n) f) ∙ e) in
      let a = r.from in
      let b = r.within in
      record {
        from = omega arith;
        within = omega arith;
        passes = r.passes;
        first = λ d h l. ⊎_elim (λ lt. r.first d (omega arith) l) (λ le. let same : d ≡ i = omega arith in ap p same ∙ f) (cases_lt i d);
      })
      (cases_Bool (p i))

  pub least_none : (i n : ℕ) → least p i n ≡ None → NoneOf p i n
  least_none i zero e = λ d a b. absurd (omega arith)
  least_none i (suc n) e = ⊎_elim
      (λ t. some_none i (sym (cond-true (p i) (Some i) (least p (i + 1) n) t) ∙ e))
      (λ f.
      let r = least_none (i + 1) n (sym (cond-false (p i) (Some i) (least p (i + 1) n) f) ∙ e) in
      λ d h l. ⊎_elim (λ lt. r d (omega arith) (omega arith)) (λ le. let same : d ≡ i = omega arith in ap p same ∙ f) (cases_lt i d))
      (cases_Bool (p i))

  pub count_le : (n : ℕ) → count_of p n ≤ n
  count_le zero = omega arith
  count_le (suc n) = ⊎_elim
      (λ t. omega (arith, cond-true (p n) (suc (count_of p n)) (count_of p n) t, count_le n))
      (λ f. omega (arith, cond-false (p n) (suc (count_of p n)) (count_of p n) f, count_le n))
      (cases_Bool (p n))

pub least_same : (p q : ℕ → Bool) (i n : ℕ) → ((d : ℕ) → i ≤ d → d < i + n → p d ≡ q d) → least p i n ≡ least q i n
least_same p q i zero h = refl
least_same p q i (suc n) h =
    ap (λ b. cond b (Some i) (least p (i + 1) n)) (h i (omega arith) (omega arith))
    ∙ ap (λ x. cond (q i) (Some i) x) (least_same p q (i + 1) n (λ d a b. h d (omega arith) (omega arith)))

pub count_same : (p q : ℕ → Bool) (n : ℕ) → ((d : ℕ) → d < n → p d ≡ q d) → count_of p n ≡ count_of q n
count_same p q zero h = refl
count_same p q (suc n) h =
    ap (λ b. cond b (suc (count_of p n)) (count_of p n)) (h n (omega arith))
    ∙ ap (λ x. cond (q n) (suc x) x) (count_same p q n (λ d l. h d (omega arith)))

-- what passes q passes p: then no more pass q
count_mono : (p q : ℕ → Bool) (n : ℕ) → ((d : ℕ) → d < n → q d ≡ true → p d ≡ true) → count_of q n ≤ count_of p n
count_mono p q zero h = omega arith
count_mono p q (suc n) h =
    let r = count_mono p q n (λ d l. h d (omega arith)) in
    ⊎_elim
    (λ t. omega (arith, cond-true (q n) (suc (count_of q n)) (count_of q n) t, cond-true (p n) (suc (count_of p n)) (count_of p n) (h n (omega arith) t)))
    (λ f. ⊎_elim
    (λ t. omega (arith, cond-false (q n) (suc (count_of q n)) (count_of q n) f, cond-true (p n) (suc (count_of p n)) (count_of p n) t))
    (λ g. omega (arith, cond-false (q n) (suc (count_of q n)) (count_of q n) f, cond-false (p n) (suc (count_of p n)) (count_of p n) g))
    (cases_Bool (p n)))
    (cases_Bool (q n))

-- and fewer, if j passes p alone
pub count_less : (p q : ℕ → Bool) (n j : ℕ) → ((d : ℕ) → d < n → q d ≡ true → p d ≡ true) → j < n → p j ≡ true → q j ≡ false → count_of q n < count_of p n
count_less p q zero j h l a b = absurd (omega arith)
count_less p q (suc n) j h l a b = ⊎_elim
    (λ low.
    let r = count_less p q n j (λ d m. h d (omega arith)) low a b in
    ⊎_elim
    (λ t. omega (arith, cond-true (q n) (suc (count_of q n)) (count_of q n) t, cond-true (p n) (suc (count_of p n)) (count_of p n) (h n (omega arith) t)))
    (λ f. ⊎_elim
    (λ t. omega (arith, cond-false (q n) (suc (count_of q n)) (count_of q n) f, cond-true (p n) (suc (count_of p n)) (count_of p n) t))
    (λ g. omega (arith, cond-false (q n) (suc (count_of q n)) (count_of q n) f, cond-false (p n) (suc (count_of p n)) (count_of p n) g))
    (cases_Bool (p n)))
    (cases_Bool (q n)))
    (λ high.
    let same : j ≡ n = omega arith in
    omega (arith, count_mono p q n (λ d m. h d (omega arith)), cond-false (q n) (suc (count_of q n)) (count_of q n) (ap q (sym same) ∙ b), cond-true (p n) (suc (count_of p n)) (count_of p n) (ap p (sym same) ∙ a)))
    (cases_lt j n)

-- not all pass
pub count_below : (p : ℕ → Bool) (n j : ℕ) → j < n → p j ≡ false → count_of p n < n
count_below p n j l f = omega (arith, count_less (λ x. true) p n j (λ d m t. refl) l refl f, count_le (λ x. true) n)

-- the first place where a list's element passes is the least number that does
position_from_least : {X : Type 0} (q : X → Bool) (xs : List X) (p : ℕ → Bool) (i : ℕ) → ((k : ℕ) (x : X) → k < length xs → x ≡ get_or xs k x → p (i + k) ≡ q x) → position_from q i xs ≡ least p i (length xs)
position_from_least q [] p i h = refl
position_from_least q (x ∷ xs) p i h =
    ap (λ b. cond b (Some i) (position_from q (i + 1) xs)) (sym (ap p (sym (add-zero i)) ∙ h 0 x (omega arith) refl))
    ∙ ap (cond (p i) (Some i)) (position_from_least q xs p (i + 1) (λ k y l e. let same : i + 1 + k ≡ i + suc k = omega arith in ap p same ∙ h (suc k) y (omega arith) e))

pub position_least : {X : Type 0} (q : X → Bool) (xs : List X) (p : ℕ → Bool) → ((k : ℕ) (x : X) → k < length xs → x ≡ get_or xs k x → p k ≡ q x) → position q xs ≡ least p 0 (length xs)
position_least q xs p h = position_from-zero q xs ∙ position_from_least q xs p 0 (λ k x l e. ap p (zero-add k) ∙ h k x l e)

-- the count of bits by number is the count of those that are set
count_first : (p : ℕ → Bool) (n : ℕ) → count_of p (suc n) ≡ cond (p 0) (1 + count_of (λ i. p (suc i)) n) (count_of (λ i. p (suc i)) n)
count_first p zero = refl
count_first p (suc n) = grind (arith, count_first p n)

pub bits_count : (row : List Bool) → count_of (bit row) (length row) ≡ set_bits row
bits_count row = is_count_by (λ row. count_of (bit row) (length row)) (λ b. b) refl (λ x xs. count_first (bit (x ∷ xs)) (length xs)) row

pub count_yes : (p : ℕ → Bool) (i m : ℕ) → m ≡ count_of p i → p i ≡ true → m + 1 ≡ count_of p (i + 1)
count_yes p i m e t = omega (arith, ap (count_of p) (add-one i), cond-true (p i) (suc (count_of p i)) (count_of p i) t)

pub count_no : (p : ℕ → Bool) (i m : ℕ) → m ≡ count_of p i → p i ≡ false → m ≡ count_of p (i + 1)
count_no p i m e f = omega (arith, ap (count_of p) (add-one i), cond-false (p i) (suc (count_of p i)) (count_of p i) f)
