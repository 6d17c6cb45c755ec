-- The texts after a step: the store grows, and what is held stays.
use Rattle.std.proofs.Common.{◌≡◌, ℕ, ◌≤◌, max, Bool, true, false, cond, List, [], ◌∷◌, ◌++◌, length, take, vec_items, Result, Vec, sym, refl, ap, ◌∙◌, subst, arith}
use Rattle.std.specs.declared.alloc.Global.{Global}
use Rattle.parts.specs.Parts.{Entry}
use Rattle.store.specs.declared.wrong.Stop.{Stop}
use Rattle.store.specs.declared.wrong.Stop.TheVariants.{Because, Memory}
use Rattle.store.specs.declared.text.Text.{Text}
use Rattle.store.specs.declared.text.Variable.{Variable}
use Rattle.store.specs.Try.{Try, got, wrong, and_try, Stops, Gives}
use Rattle.store.specs.Stores.{stored}
use Rattle.store.specs.Held.{text_in, furthest, furthest_in}
use Rattle.store.proofs.Keeps.{entries_kept, blocks_kept}
use Rattle.values.specs.Kept.{Kept, sized, keep, bound}
use Rattle.expansion.specs.Model.{TextsData, Read, read_as, with_store}
use Rattle.values.specs.Scopes.{kept_in, scope_in}
use Rattle.expansion.specs.Meaning.{data_in}
use Rattle.values.proofs.Within.{gives_then, and_got, sized_got}

-- the store u has become v, and no list of variables changed
module _ (u v : List ℕ) (grown : take (length u) v ≡ u) (fs bs : List Variable) (cs : List (Vec Variable Global)) (p : furthest fs ≤ length u) (q : furthest bs ≤ length u) (r : furthest_in cs ≤ length u) where
  pub data_kept : data_in v fs bs cs ≡ with_store (data_in u fs bs cs) v
  data_kept = rw (entries_kept u v grown fs p, entries_kept u v grown bs q, blocks_kept u v grown cs r)

  read_kept : (x : Result Text Stop) (o : Try Kept) → Gives (kept_in v) x o → Gives (λ t. record { text = text_in v t; texts = data_in v fs bs cs }) x (and_try o (λ k. got (read_as (data_in u fs bs cs) k)))
  read_kept x o h =
      subst (λ (z : TextsData). Gives (λ t. record { text = text_in v t; texts = z }) x (and_try o (λ k. got (read_as (data_in u fs bs cs) k)))) (sym data_kept)
      (gives_then (kept_in v) o x (read_as (data_in u fs bs cs)) h)

  -- a text that was read, with the variables ks of a block
  pub read_says : (low high : ℕ) (w : List ℕ) (ks ss ys zs : List Variable) → ss ≡ [] → ys ≡ ks → zs ≡ fs → (x : Result Text Stop) → Gives (kept_in v) x (keep low high (scope_in u ss ys zs) u w) → Gives (λ t. record { text = text_in v t; texts = data_in v fs bs cs }) x (and_try (keep low high (scope_in u [] ks fs) u w) (λ k. got (read_as (data_in u fs bs cs) k)))
  read_says low high w ks ss ys zs d e f x h =
      let same : scope_in u ss ys zs ≡ scope_in u [] ks fs = rw (d, e, f) in
      read_kept x (keep low high (scope_in u [] ks fs) u w) (subst (λ c. Gives (kept_in v) x (keep low high c u w)) same h)

  pub ask_says : (high : ℕ) (w : List ℕ) → length w ≤ high → got v ≡ stored u w → got (data_in v fs bs cs) ≡ and_try (sized 0 high w) (λ t. and_try (stored u t) (λ s. got (with_store (data_in u fs bs cs) s)))
  ask_says high w l h =
      ap got data_kept ∙ sym (and_got (sized 0 high w) w _ (sized_got 0 high w w refl (omega arith) l) ∙ and_got (stored u w) v _ h)

-- what stops a step stops what comes after it
pub stops_alike : {X Y Z : Type 0} (e : Stop) (o : Try X) (g : X → Y) (k : X → Try Z) → Stops e (and_try o (λ x. got (g x))) → Stops e (and_try o k)
stops_alike (Because w) (got x) g k h = let z : ◌≡◌ {A = ℕ} 0 1 = cc in absurd (omega arith)
stops_alike (Because w) (wrong y) g k h = let e : w ≡ y = cc in ap wrong e
stops_alike Memory o g k h = tt

-- a variable of the file or of the open block is set to a text that was read
module _ (d : TextsData) (n : ℕ) (name : List ℕ) (x : Result (Unit {0}) Stop) (f : Unit {0} → List Entry) (seen : TextsData → List Entry) (with : TextsData → List Entry → TextsData) (same : (s : List ℕ) → seen (with_store d s) ≡ seen d) where
  pub set_says : (o : Try Kept) (t : Read) → got t ≡ and_try o (λ k. got (read_as d k)) → Gives f x (bound n (seen t.texts) (record { name = name; value = t.text })) → Gives (λ a. with t.texts (f a)) x (and_try o (λ k. and_try (bound n (seen d) (record { name = name; value = k.text })) (λ vs. got (with (with_store d k.store) vs))))
  set_says (got k) t h =
      let e : read_as d k ≡ t = cc in
      subst (λ (t : Read). Gives f x (bound n (seen t.texts) (record { name = name; value = t.text })) → Gives (λ a. with t.texts (f a)) x (and_try (bound n (seen d) (record { name = name; value = k.text })) (λ vs. got (with (with_store d k.store) vs)))) e
      (λ g. gives_then f (bound n (seen d) (record { name = name; value = k.text })) x (with (with_store d k.store)) (subst (λ (es : List Entry). Gives f x (bound n es (record { name = name; value = k.text }))) (same k.store) g))
  set_says (wrong w) t h = let z : ◌≡◌ {A = ℕ} 0 1 = cc in absurd (omega arith)

push_furthest_in : (bs : List (Vec Variable Global)) (b : Vec Variable Global) → furthest_in (bs ++ b ∷ []) ≤ max (furthest_in bs) (furthest (vec_items b))
push_furthest_in [] b = omega arith
push_furthest_in (x ∷ bs) b = let h = push_furthest_in bs b in omega arith

-- a block that is pushed, or finds no memory
pub closed_after : (ok : Bool) (bs : List (Vec Variable Global)) (b : Vec Variable Global) (n : ℕ) → furthest_in bs ≤ n → furthest (vec_items b) ≤ n → furthest_in (cond ok (bs ++ b ∷ []) bs) ≤ n
closed_after true bs b n h k = omega (arith, push_furthest_in bs b)
closed_after false bs b n h k = h
