-- Texts stay as the store grows.
use Rattle.std.proofs.Common.{◌≡◌, ℕ, ◌≤◌, List, [], ◌∷◌, ◌++◌, length, take, drop, vec_items, Vec, sym, refl, ap, ◌∙◌, arith}
use Rattle.std.proofs.lemmas.List.{take-append-drop, take-append-le, drop-append-le, length-drop}
use Rattle.std.specs.declared.alloc.Global.{Global}
use Rattle.store.specs.declared.text.Text.{Text}
use Rattle.store.specs.declared.text.Text.TheVariants.{Manifest, Store}
use Rattle.store.specs.declared.text.Variable.{Variable}
use Rattle.store.specs.Held.{text_in, entries_in, blocks_in, reach, furthest, furthest_in}

-- the store u has become v: v begins with u
module _ (u v : List ℕ) (grown : take (length u) v ≡ u) where
  pub text_kept : (t : Text) → reach t ≤ length u → text_in v t ≡ text_in u t
  text_kept (Manifest s) h = refl
  text_kept (Store a n) h =
      let w : List ℕ = drop (length u) v in
      let e : v ≡ u ++ w = sym (take-append-drop (length u) v) ∙ ap (λ z. z ++ w) grown in
      let f : take n (drop a v) ≡ take n (drop a u ++ w) = ap (take n) (ap (drop a) e ∙ drop-append-le a u w (omega arith)) in
      f ∙ take-append-le n (drop a u) w (omega (arith, length-drop a u))

  pub entries_kept : (vs : List Variable) → furthest vs ≤ length u → entries_in v vs ≡ entries_in u vs
  entries_kept [] h = refl
  entries_kept (x ∷ vs) h = rw (text_kept x.value (omega arith), entries_kept vs (omega arith))

  pub blocks_kept : (bs : List (Vec Variable Global)) → furthest_in bs ≤ length u → blocks_in v bs ≡ blocks_in u bs
  blocks_kept [] h = refl
  blocks_kept (b ∷ bs) h = rw (entries_kept (vec_items b) (omega arith), blocks_kept bs (omega arith))
