-- The order of records by two numbers, as a derive gives it: by the first number, and by the second where the first ones are equal.
use Rattle.std.proofs.Common.{◌≡◌, ℕ, Bool, true, false, cond, ◌||◌, ◌&&◌, ltb, eqb, List, Some, None, Option, ap, refl, sym, subst, MatchOption}
use Rattle.std.proofs.lemmas.Cmp.{ranked}
use Rattle.std.specs.Ordering.{is_lt, nat_cmp, ordering_then}
use Rattle.std.specs.declared.cmp.Ordering.{Ordering}
use Rattle.std.specs.declared.cmp.Ordering.TheVariants.{Less, Equal, Greater}
use Rattle.order.specs.Earliest.{Earliest, earliest_place}

-- such an order, as one test
pub pair_before : (a b c d : ℕ) → is_lt (ordering_then (nat_cmp a b) (nat_cmp c d)) ≡ (ltb a b || (eqb a b && ltb c d))
pair_before a b c d = by (ltb a b) (eqb a b) (ltb c d) (eqb c d) where
  by : (p q r s : Bool) → is_lt (ordering_then (cond p Less (cond q Equal Greater)) (cond r Less (cond s Equal Greater))) ≡ (p || (q && r))
  by true q r s = refl
  by false true true s = refl
  by false true false true = refl
  by false true false false = refl
  by false false r s = refl

-- it tells pairs apart
pub pair_tied : (a b c d : ℕ) → ordering_then (nat_cmp a b) (nat_cmp c d) ≡ Equal → (a ≡ b) × (c ≡ d)
pair_tied a b c d e = first (nat_cmp a b) refl e where
  second : (r : Ordering) → nat_cmp c d ≡ r → r ≡ Equal → c ≡ d
  second Less h k = absurd (cc)
  second Equal h k = ranked c d Equal (sym h)
  second Greater h k = absurd (cc)

  first : (r : Ordering) → nat_cmp a b ≡ r → ordering_then r (nat_cmp c d) ≡ Equal → (a ≡ b) × (c ≡ d)
  first Less h k = absurd (cc)
  first Equal h k = (ranked a b Equal (sym h), second (nat_cmp c d) refl k)
  first Greater h k = absurd (cc)

-- two orders that agree find the same earliest
pub earliest_place_by : {X : Type 0} (before after : X → X → Bool) (xs : List X) → ((x y : X) → before x y ≡ after x y) → earliest_place before xs ≡ earliest_place after xs
earliest_place_by before after xs h = ap (λ (b : _). earliest_place b xs) (λ i x y. h x y i)

-- and what `earliest` promises by the one it promises by the other
pub earliest_by : {X : Type 0} (before after : X → X → Bool) (xs : List X) (o : Option ℕ) (P : Type 0) → ((x y : X) → before x y ≡ after x y) → MatchOption o P (λ k. Earliest before xs k) → MatchOption o P (λ k. Earliest after xs k)
earliest_by before after xs None P h e = e
earliest_by {X} before after xs (Some k) P h e = subst (λ (b : X → X → Bool). Earliest b xs k) (λ i x y. h x y i) e
