-- One turn of the search for the earliest, and its two ends, from the laws of an order.
use Rattle.std.proofs.Common.{◌≡◌, ℕ, ◌+◌, ◌<◌, ◌≤◌, Bool, true, false, cond, List, [], ◌∷◌, length, get_or, drop, Some, sym, refl, ap, ◌∙◌, subst₂, inl, inr, arith, below_more}
use Rattle.std.proofs.lemmas.List.{get_or_read, drop_more, drop_all}
use Rattle.std.proofs.lemmas.Bool.{cases_Bool, both_ways, cond-true, cond-false}
use Rattle.std.proofs.lemmas.Cmp.{upto}
use Rattle.std.specs.Cmp.{IsTotalOrder}
use Rattle.std.specs.Ordering.{is_lt, is_gt, ordering_reverse}
use Rattle.std.specs.declared.cmp.Ordering.{Ordering}
use Rattle.std.specs.declared.cmp.Ordering.TheVariants.{Less, Equal, Greater}
use Rattle.order.specs.Earliest.{earliest_from, earliest_place, Earliest, Leads, SoFar, TellsApart, comes_before}

-- the laws of `comes_before`, from those of the order
module _ {X : Type 0} (cmp : X → X → Ordering) (o : IsTotalOrder cmp) where
  before_turned : (x y : X) → comes_before cmp x y ≡ is_gt (cmp y x)
  before_turned x y = ap is_lt (o.antisymm x y) ∙ turned (cmp y x) where
    turned : (r : Ordering) → is_lt (ordering_reverse r) ≡ is_gt r
    turned Less = refl
    turned Equal = refl
    turned Greater = refl

  pub asym : (x y : X) → comes_before cmp x y ≡ true → comes_before cmp y x ≡ false
  asym x y h = ap is_lt (o.antisymm y x) ∙ other (cmp x y) h where
    other : (r : Ordering) → is_lt r ≡ true → is_lt (ordering_reverse r) ≡ false
    other Less e = refl
    other Equal e = refl
    other Greater e = sym e

  pub steps : (x y z : X) → comes_before cmp x y ≡ false → comes_before cmp y z ≡ false → comes_before cmp x z ≡ false
  steps x y z p q = before_turned x z ∙ upto o z y x (sym (before_turned y z) ∙ q) (sym (before_turned x y) ∙ p)

  -- records of which none comes before the other compare as equal
  pub tied : TellsApart cmp → (x y : X) → comes_before cmp x y ≡ false → comes_before cmp y x ≡ false → x ≡ y
  tied apart x y p q = apart x y (equal (cmp x y) p (sym (before_turned y x) ∙ q)) where
    equal : (r : Ordering) → is_lt r ≡ false → is_gt r ≡ false → r ≡ Equal
    equal Less e f = absurd (both_ways true e refl)
    equal Equal e f = refl
    equal Greater e f = absurd (both_ways true f refl)

module _ {X : Type 0} (before : X → X → Bool)
    (asym : (x y : X) → before x y ≡ true → before y x ≡ false)
    (steps : (x y z : X) → before x y ≡ false → before y z ≡ false → before x z ≡ false) where
  pub itself : (x : X) → before x x ≡ false
  itself x = elim (cases_Bool (before x x)) [ inl a ↦ asym x x a | inr b ↦ b ]

  -- what comes before x, which y does not come before, comes before y
  chain_not : (x y z : X) → before x y ≡ true → before z y ≡ false → before x z ≡ true
  chain_not x y z p q = elim (cases_Bool (before x z)) [
    | inl a ↦ a
    | inr b ↦ absurd (both_ways (before x y) (steps x z y b q) p)
  ]

  pub so_far_one : (xs : List X) → 0 < length xs → SoFar before xs 1 0
  so_far_one [] h = absurd (omega arith)
  so_far_one (x ∷ xs) h = record {
    within = omega arith;
    unpreceded = λ k d l. below_more (λ k. before (get_or (x ∷ xs) k d) x ≡ false) 0 (λ k z. absurd (omega arith)) (itself x) k l;
    first = λ k d z. absurd (omega arith);
    answer = λ d. refl;
  }

  answer_more : (xs : List X) (n r s : ℕ) (d : X) → n < length xs → (b : Bool) → before (get_or xs n d) (get_or xs r d) ≡ b → s ≡ cond b n r → earliest_from before (get_or xs s d) s (n + 1) (drop (n + 1) xs) ≡ earliest_from before (get_or xs r d) r n (drop n xs)
  answer_more xs n r s d l true t e =
      ap (λ (z : ℕ). earliest_from before (get_or xs z d) z (n + 1) (drop (n + 1) xs)) e
      ∙ sym (ap (earliest_from before (get_or xs r d) r n) (drop_more xs n d l) ∙ cond-true (before (get_or xs n d) (get_or xs r d)) _ _ t)
  answer_more xs n r s d l false t e =
      ap (λ (z : ℕ). earliest_from before (get_or xs z d) z (n + 1) (drop (n + 1) xs)) e
      ∙ sym (ap (earliest_from before (get_or xs r d) r n) (drop_more xs n d l) ∙ cond-false (before (get_or xs n d) (get_or xs r d)) _ _ t)

  -- the record at n comes before the earliest so far
  pub so_far_takes : (xs : List X) (n r : ℕ) (x y : X) → n < length xs → x ≡ get_or xs n x → y ≡ get_or xs r y → true ≡ before x y → SoFar before xs n r → SoFar before xs (n + 1) n
  so_far_takes xs n r x y nl xn yr t h =
      let w = h.within in
      let at : (d : X) → before (get_or xs n d) (get_or xs r d) ≡ true = λ d. subst₂ (λ (p q : X). before p q ≡ true) (get_or_read xs n x nl xn d) (get_or_read xs r y (omega arith) yr d) (sym t) in
      record {
        within = omega arith;
        unpreceded = λ k d l. below_more (λ k. before (get_or xs k d) (get_or xs n d) ≡ false) n (λ k z. steps _ _ _ (h.unpreceded k d z) (asym _ _ (at d))) (itself (get_or xs n d)) k l;
        first = λ k d z. chain_not _ _ _ (at d) (h.unpreceded k d z);
        answer = λ d. ap (λ (z : ℕ). Some z) (answer_more xs n r n d nl true (at d) refl) ∙ h.answer d;
      }

  -- it does not
  pub so_far_keeps : (xs : List X) (n r : ℕ) (x y : X) → n < length xs → x ≡ get_or xs n x → y ≡ get_or xs r y → false ≡ before x y → SoFar before xs n r → SoFar before xs (n + 1) r
  so_far_keeps xs n r x y nl xn yr t h =
      let w = h.within in
      let at : (d : X) → before (get_or xs n d) (get_or xs r d) ≡ false = λ d. subst₂ (λ (p q : X). before p q ≡ false) (get_or_read xs n x nl xn d) (get_or_read xs r y (omega arith) yr d) (sym t) in
      record {
        within = omega arith;
        unpreceded = λ k d l. below_more (λ k. before (get_or xs k d) (get_or xs r d) ≡ false) n (λ k z. h.unpreceded k d z) (at d) k l;
        first = h.first;
        answer = λ d. ap (λ (z : ℕ). Some z) (answer_more xs n r r d nl false (at d) refl) ∙ h.answer d;
      }

  -- all records are looked at
  pub so_far_leads : (xs : List X) (n r : ℕ) → length xs ≤ n → n ≤ length xs → SoFar before xs n r → Leads before xs r
  so_far_leads xs n r l m h =
      let w = h.within in
      record {
        within = omega arith;
        unpreceded = λ k d z. h.unpreceded k d (omega arith);
        first = h.first;
      }

  pub so_far_law : ((x y : X) → before x y ≡ false → before y x ≡ false → x ≡ y) → (xs : List X) (n r : ℕ) → length xs ≤ n → n ≤ length xs → SoFar before xs n r → Earliest before xs r
  so_far_law total xs n r l m h =
      let w = h.within in
      record {
        within = omega arith;
        unpreceded = λ k d z. h.unpreceded k d (omega arith);
        only = λ k d z b. total _ _ (h.unpreceded k d (omega arith)) b;
        first = h.first;
      }

  pub so_far_place : (xs : List X) (n r : ℕ) → length xs ≤ n → n ≤ length xs → SoFar before xs n r → Some r ≡ earliest_place before xs
  so_far_place [] n r l m h = let w = h.within in absurd (omega arith)
  so_far_place (x ∷ xs) n r l m h = sym (ap (λ (z : List X). Some (earliest_from before (get_or (x ∷ xs) r x) r n z)) (drop_all n (x ∷ xs) l)) ∙ h.answer x
