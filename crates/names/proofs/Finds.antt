-- Names that are the same or not, and one step more of a search for one.
use Rattle.std.proofs.Common.{◌≡◌, ℕ, ◌+◌, Bool, true, false, cond, List, [], ◌∷◌, map, reverse, is_some, Some, None, Option, sym, refl, ap, ◌∙◌, Bor}
use Rattle.std.specs.Str.{bytes_eq}
use Rattle.std.specs.List.{find}
use Rattle.std.specs.Option.{option_map, option_or, MatchOption, IsSomeAnd}
use Rattle.std.proofs.lemmas.List.{reverse-append}
use Rattle.std.proofs.lemmas.List.Folds.{find-append}
use Rattle.cursor.specs.Told.{maybe}
use Rattle.parts.specs.Parts.{entry_of}
use Rattle.parts.specs.declared.kinds.Binding.{Binding}
use Rattle.names.specs.Named.{place_from_on, last_from, last_of}

-- a search among what is seen of each element
pub place_map : {X Y : Type 0} (f : Y → List ℕ) (g : X → Y) (i : ℕ) (xs : List X) (n : List ℕ) → place_from_on f i (map g xs) n ≡ place_from_on (λ x. f (g x)) i xs n
place_map f g i [] n = refl
place_map f g i (x ∷ xs) n = ap (cond (bytes_eq (f (g x)) n) (Some i)) (place_map f g (i + 1) xs n)

pub some_maybe : {X Y : Type 0} (g : X → Y) (o : Option X) → is_some o ≡ is_some (maybe g o)
some_maybe g None = refl
some_maybe g (Some x) = refl

module _ (n : List ℕ) where
  abbrev named : Binding → Bool
  named b = bytes_eq b.name.now n

  abbrev value_of : Option Binding → Option (List ℕ)
  value_of o = option_map (λ b. b.value.now) o

  -- the last value is that of the first line of the name from the end on
  last_is : (bs : List Binding) (d : Option (List ℕ)) → last_from d (map entry_of bs) n ≡ option_or (value_of (find named (reverse bs))) d
  last_is [] d = refl
  last_is (b ∷ bs) d = last_is bs _ ∙ at (named b) (find named (reverse bs)) ∙ ap (λ o. option_or (value_of o) d) (sym (find-append named (reverse bs) (b ∷ [])) ∙ ap (find named) (sym (reverse-append (b ∷ []) bs)))
    where
      at : (t : Bool) (o : Option Binding) → option_or (value_of o) (cond t (Some b.value.now) d) ≡ option_or (value_of (option_or o (cond t (Some b) None))) d
      at true None = refl
      at true (Some x) = refl
      at false None = refl
      at false (Some x) = refl

  -- a line that was found from the end on, and its value
  pub found_value : (bs : List Binding) (P : Bor Binding → Bor (List ℕ) → Type 0) → ((x : Bor Binding) (t : Bor (List ℕ)) → P x t → t.now ≡ x.now.value.now) → (r : Option (Bor Binding)) (m : Option (Bor (List ℕ))) → MatchOption r (m ≡ None) (λ x. IsSomeAnd m (P x)) → option_map (λ x. x.now) r ≡ find named (reverse bs) → maybe (λ x. x.now) m ≡ last_of (map entry_of bs) n
  found_value bs P k None m h e = rw (h, last_is bs None, ← e)
  found_value bs P k (Some x) None h e = absurd h
  found_value bs P k (Some x) (Some t) h e = rw (last_is bs None, ← e, k x t h)
