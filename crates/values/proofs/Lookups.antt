-- A variable by its name: its place, its text, and the list after it is set.
use Rattle.std.proofs.Common.{◌≡◌, ℕ, zero, suc, ◌+◌, ◌<◌, ◌≤◌, max, Bool, true, false, cond, List, [], ◌∷◌, ◌++◌, length, get_or, set, Some, None, Option, Bor, sym, refl, zero-add, arith}
use Rattle.std.specs.Option.{option_map, MatchOption, IsSomeAnd}
use Rattle.std.specs.List.{find as first_that}
use Rattle.cursor.specs.Told.{maybe}
use Rattle.std.specs.Str.{bytes_eq}
use Rattle.store.specs.declared.text.Variable.{Variable}
use Rattle.store.specs.Held.{text_in, entry_in, entries_in, place_from_on, reach, furthest}
use Rattle.values.specs.Expand.{find}
use Rattle.std.proofs.lemmas.Bool.{lt-ltb, le-ltb}
use Rattle.std.proofs.lemmas.List.{length-map}
use Rattle.store.specs.declared.wrong.Wrong.TheVariants.{Limit}
use Rattle.store.specs.Try.{got, wrong}
use Rattle.values.specs.Kept.{bind, bound}

-- the first variable of the name n stands at j
abbrev pub FirstAt : List Variable → List ℕ → ℕ → Type 0
FirstAt [] n j = ⊥
FirstAt (v ∷ vs) n zero = bytes_eq v.name.now n ≡ true
FirstAt (v ∷ vs) n (suc j) = (bytes_eq v.name.now n ≡ false) × FirstAt vs n j

first_from : (vs : List Variable) (n : List ℕ) (i k : ℕ) → place_from_on i vs n ≡ Some k → (j : ℕ) × (k ≡ i + j) × FirstAt vs n j
first_from [] n i k h = let z : ◌≡◌ {A = ℕ} 0 1 = cc in absurd (omega arith)
first_from (v ∷ vs) n i k h = at (bytes_eq v.name.now n) refl h (first_from vs n (i + 1) k)
  where
    rest : (j : ℕ) × (k ≡ i + 1 + j) × FirstAt vs n j → bytes_eq v.name.now n ≡ false → (j : ℕ) × (k ≡ i + j) × FirstAt (v ∷ vs) n j
    rest p e = (suc p.0, omega (arith, p.1), (e, p.2))

    at : (t : Bool) → bytes_eq v.name.now n ≡ t → cond t (Some i) (place_from_on (i + 1) vs n) ≡ Some k → (place_from_on (i + 1) vs n ≡ Some k → (j : ℕ) × (k ≡ i + 1 + j) × FirstAt vs n j) → (j : ℕ) × (k ≡ i + j) × FirstAt (v ∷ vs) n j
    at true e g m = let q : i ≡ k = cc in (0, omega arith, e)
    at false e g m = rest (m g) e

pub first_at : (vs : List Variable) (n : List ℕ) (k : ℕ) → Some k ≡ place_from_on 0 vs n → FirstAt vs n k
first_at vs n k h =
    let p = first_from vs n 0 k (sym h) in
    rw (p.1, zero-add) p.2

pub first_below : (vs : List Variable) (n : List ℕ) (j : ℕ) → FirstAt vs n j → j < length vs
first_below [] n j h = absurd h
first_below (v ∷ vs) n zero h = omega arith
first_below (v ∷ vs) n (suc j) h = let l = first_below vs n j h.1 in omega arith

module _ (u : List ℕ) where
  pub first_find : (vs : List Variable) (n : List ℕ) (j : ℕ) (x : Variable) → FirstAt vs n j → find (entries_in u vs) n ≡ Some (text_in u (get_or vs j x).value)
  first_find [] n j x h = absurd h
  first_find (v ∷ vs) n zero x h = rw h
  first_find (v ∷ vs) n (suc j) x h = rw h.0 (first_find vs n j x h.1)

  pub first_bind : (vs : List Variable) (v : Variable) (j : ℕ) → FirstAt vs v.name.now j → bind (entries_in u vs) (entry_in u v) ≡ entries_in u (set vs j v)
  first_bind [] v j h = absurd h
  first_bind (x ∷ vs) v zero h = rw h
  first_bind (x ∷ vs) v (suc j) h = rw (h.0, first_bind vs v j h.1)

  pub none_find : (vs : List Variable) (n : List ℕ) (i : ℕ) → place_from_on i vs n ≡ None → find (entries_in u vs) n ≡ None
  none_find [] n i h = refl
  none_find (v ∷ vs) n i h = at (bytes_eq v.name.now n) h (none_find vs n (i + 1))
    where
      at : (t : Bool) → cond t (Some i) (place_from_on (i + 1) vs n) ≡ None → (place_from_on (i + 1) vs n ≡ None → find (entries_in u vs) n ≡ None) → cond t (Some (text_in u v.value)) (find (entries_in u vs) n) ≡ None
      at true g k = let z : ◌≡◌ {A = ℕ} 0 1 = cc in absurd (omega arith)
      at false g k = k g

  pub none_bind : (vs : List Variable) (v : Variable) (i : ℕ) → place_from_on i vs v.name.now ≡ None → bind (entries_in u vs) (entry_in u v) ≡ entries_in u (vs ++ v ∷ [])
  none_bind [] v i h = refl
  none_bind (x ∷ vs) v i h = at (bytes_eq x.name.now v.name.now) h (none_bind vs v (i + 1))
    where
      at : (t : Bool) → cond t (Some i) (place_from_on (i + 1) vs v.name.now) ≡ None → (place_from_on (i + 1) vs v.name.now ≡ None → bind (entries_in u vs) (entry_in u v) ≡ entries_in u (vs ++ v ∷ [])) → cond t (entry_in u v ∷ entries_in u vs) (entry_in u x ∷ bind (entries_in u vs) (entry_in u v)) ≡ entries_in u (x ∷ vs ++ v ∷ [])
      at true g k = let z : ◌≡◌ {A = ℕ} 0 1 = cc in absurd (omega arith)
      at false g k = rw (k g)

-- the text of a variable is what is seen of the first that has the name
find_is : (u : List ℕ) (vs : List Variable) (n : List ℕ) → find (entries_in u vs) n ≡ option_map (λ v. text_in u v.value) (first_that (λ v. bytes_eq v.name.now n) vs)
find_is u [] n = refl
find_is u (v ∷ vs) n = at (bytes_eq v.name.now n) (find_is u vs n)
  where
    at : (t : Bool) → find (entries_in u vs) n ≡ option_map (λ v. text_in u v.value) (first_that (λ v. bytes_eq v.name.now n) vs) → cond t (Some (text_in u v.value)) (find (entries_in u vs) n) ≡ option_map (λ v. text_in u v.value) (cond t (Some v) (first_that (λ v. bytes_eq v.name.now n) vs))
    at true h = refl
    at false h = h

-- a variable that was found, and its text
pub found_text : (u : List ℕ) (vs : List Variable) (n : List ℕ) (P : Bor Variable → Bor (List ℕ) → Type 0) → ((x : Bor Variable) (t : Bor (List ℕ)) → P x t → t.now ≡ text_in u x.now.value) → (r : Option (Bor Variable)) (m : Option (Bor (List ℕ))) → MatchOption r (m ≡ None) (λ x. IsSomeAnd m (P x)) → option_map (λ x. x.now) r ≡ first_that (λ v. bytes_eq v.name.now n) vs → maybe (λ x. x.now) m ≡ find (entries_in u vs) n
found_text u vs n P k None m h e = rw (h, find_is u vs n, ← e)
found_text u vs n P k (Some x) None h e = absurd h
found_text u vs n P k (Some x) (Some t) h e = rw (find_is u vs n, ← e, k x t h)

pub set_furthest : (vs : List Variable) (v : Variable) (j : ℕ) → furthest (set vs j v) ≤ max (furthest vs) (reach v.value)
set_furthest [] v j = omega arith
set_furthest (x ∷ vs) v zero = omega arith
set_furthest (x ∷ vs) v (suc j) = let h = set_furthest vs v j in omega arith

pub push_furthest : (vs : List Variable) (v : Variable) → furthest (vs ++ v ∷ []) ≤ max (furthest vs) (reach v.value)
push_furthest [] v = omega arith
push_furthest (x ∷ vs) v = let h = push_furthest vs v in omega arith

module _ (u : List ℕ) (k : ℕ) (vs : List Variable) (v : Variable) where
  pub bound_set : (j : ℕ) → FirstAt vs v.name.now j → got (entries_in u (set vs j v)) ≡ bound k (entries_in u vs) (entry_in u v)
  bound_set j h = rw (first_find u vs v.name.now j v h, first_bind u vs v j h)

  pub bound_push : place_from_on 0 vs v.name.now ≡ None → length vs < k → got (entries_in u (vs ++ v ∷ [])) ≡ bound k (entries_in u vs) (entry_in u v)
  bound_push h l = rw (none_find u vs v.name.now 0 h, none_bind u vs v 0 h, length-map vs (entry_in u), lt-ltb (length vs) k l)

  pub bound_full : place_from_on 0 vs v.name.now ≡ None → k ≤ length vs → wrong Limit ≡ bound k (entries_in u vs) (entry_in u v)
  bound_full h l = rw (none_find u vs v.name.now 0 h, length-map vs (entry_in u), le-ltb (length vs) k l)
