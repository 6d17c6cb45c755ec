-- Where a file is found, and a file that an edge makes.
use Rattle.std.proofs.Common.{◌≡◌, ℕ, ◌+◌, ◌<◌, ◌≤◌, List, [], ◌∷◌, map, length, get_or, set, IfSome, is_some, Some, None, Option, Bool, true, false, vec_items, refl, ap, ◌∙◌, arith}
use Rattle.std.specs.Str.{bytes_eq}
use Rattle.std.proofs.lemmas.List.{map-set, get_or-map}
use Rattle.std.proofs.lemmas.Bool.{cond_both}
use Rattle.store.specs.Try.{got}
use Rattle.graph.specs.declared.kinds.File.{File}
use Rattle.graph.specs.Data.{file_of, no_file, path_at, maker_at}
use Rattle.names.specs.Named.{place_from_on}
use Rattle.lists.specs.Files.{claim}

pub place_within : {X : Type 0} (f : X → List ℕ) (i : ℕ) (xs : List X) (n : List ℕ) (m : ℕ) → i + length xs ≤ m → IfSome (place_from_on f i xs n) (λ k. k < m)
place_within f i [] n m h = tt
place_within f i (x ∷ xs) n m h =
    cond_both (bytes_eq (f x) n) (Some i) (place_from_on f (i + 1) xs n) (λ o. IfSome o (λ k. k < m))
    (λ _. omega arith) (λ _. place_within f (i + 1) xs n m (omega arith))

none_of : (o : Option ℕ) → is_some o ≡ false → o ≡ None
none_of None h = refl
none_of (Some x) h = let z : ◌≡◌ {A = Bool} true false = h in cc

-- a file that no edge makes, and then e
module _ (fs : List File) (i e : ℕ) (x : File) (h : i < length fs) where
  seen : get_or (map file_of fs) i no_file ≡ file_of (get_or fs i x)
  seen = get_or-map file_of fs i x no_file h

  pub claimed : is_some (get_or fs i x).maker ≡ false → got (map file_of (set fs i (record { path = (get_or fs i x).path; maker = Some e }))) ≡ claim (map file_of fs) i e
  claimed n =
      let m : maker_at (map file_of fs) i ≡ None = ap (λ f. f.maker) seen ∙ none_of _ n in
      let p : path_at (map file_of fs) i ≡ vec_items (get_or fs i x).path = ap (λ f. f.path) seen in
      rw (m, p) (ap got (map-set file_of fs i _))
