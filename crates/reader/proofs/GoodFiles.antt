-- Files and their makers while a manifest is read: paths are lawful and differ, and each file stands among its maker's outputs.
use Rattle.std.proofs.Common.{◌≡◌, ℕ, zero, suc, ◌+◌, ◌<◌, ◌≤◌, true, false, eqb, ltb, ◌⊎◌, List, [], ◌∷◌, ◌++◌, length, get_or, set, Some, None, Option, sym, refl, ap, ◌∙◌, subst, inl, inr, ⊎_elim, arith}
use Rattle.std.specs.List.{AllByRecursion}
use Rattle.std.specs.Str.{bytes_eq}
use Rattle.std.proofs.lemmas.Slice.Eq.{bytes_eq-Decides}
use Rattle.std.proofs.ByRecursion.{All-push, All-set, All-get_or}
use Rattle.std.proofs.lemmas.List.{length_push, length-set, get_or_push, get_or_past, get_or_append_left, get_or-set_same, get_or-set_other}
use Rattle.std.proofs.lemmas.Bool.{false≢true, both_ways, cond_both, cases_lt, cases_eq, eq-eqb, eqb-true, ltb-true, or_cases, or_left, or_right}
use Rattle.store.specs.declared.wrong.Wrong.TheVariants.{Limit}
use Rattle.store.specs.Try.{got, wrong}
use Rattle.graph.specs.Data.{FileData, no_file, path_at, maker_at}
use Rattle.graph.specs.Circle.{is_maker}
use Rattle.graph.specs.Question.{holds}
use Rattle.graph.specs.Lawful.{Apart}
use Rattle.names.specs.Named.{place_from_on}
use Rattle.lists.specs.Files.{Mentioned, mention_at, mention}
use Rattle.reader.proofs.GoodTexts.{GotAll, CleanText, Clean}

-- where a name was found, counted from i
pub record Stands {A : Type 0} (f : A → List ℕ) (d : A) (i : ℕ) (xs : List A) (n : List ℕ) (k : ℕ) : Type 0 where
  pub place : ℕ
  pub is : k ≡ i + place
  pub within : place < length xs
  pub named : f (get_or xs place d) ≡ n

module _ {A : Type 0} (f : A → List ℕ) (d : A) where
  -- the element that was found has the name, or none has it
  abbrev pub Found : ℕ → List A → List ℕ → Option ℕ → Type 0
  Found i xs n None = AllByRecursion (λ x. f x ≡ n → ⊥) xs
  Found i xs n (Some k) = Stands f d i xs n k

  found_more : (i : ℕ) (x : A) (xs : List A) (n : List ℕ) (o : Option ℕ) → (f x ≡ n → ⊥) → Found (i + 1) xs n o → Found i (x ∷ xs) n o
  found_more i x xs n None h g = (h, g)
  found_more i x xs n (Some k) h g =
      let e = g.is in
      let l = g.within in
      record { place = suc g.place; is = omega arith; within = omega arith; named = g.named }

  pub place_found : (i : ℕ) (xs : List A) (n : List ℕ) → Found i xs n (place_from_on f i xs n)
  place_found i [] n = tt
  place_found i (x ∷ xs) n =
      cond_both (bytes_eq (f x) n) (Some i) (place_from_on f (i + 1) xs n) (Found i (x ∷ xs) n)
      (λ e. record { place = 0; is = omega arith; within = omega arith; named = (bytes_eq-Decides (f x) n).0 e })
      (λ e. found_more i x xs n (place_from_on f (i + 1) xs n) (λ s. both_ways (bytes_eq (f x) n) e ((bytes_eq-Decides (f x) n).1 s)) (place_found (i + 1) xs n))

-- files with lawful paths that differ
pub record GoodFiles (fs : List FileData) : Type 0 where
  pub few : length fs ≤ 256
  pub paths : AllByRecursion (λ x. CleanText 1 128 x.path) fs
  pub same : (a b : ℕ) → a < length fs → b < length fs → path_at fs a ≡ path_at fs b → a ≡ b

pub path_clean : (fs : List FileData) (f : ℕ) → GoodFiles fs → Clean (path_at fs f)
path_clean fs f h = ⊎_elim
    (λ lt. (All-get_or (λ x. CleanText 1 128 x.path) fs f no_file lt h.paths).clean)
    (λ le. subst (λ (x : FileData). Clean x.path) (sym (get_or_past fs f no_file le)) tt)
    (cases_lt f (length fs))

-- a file was mentioned: it is there, and makers are as before
pub record GoodMention (fs : List FileData) (m : Mentioned) : Type 0 where
  pub files : GoodFiles m.files
  pub grown : length fs ≤ length m.files
  pub within : m.file < length m.files
  pub makers : (f : ℕ) → maker_at m.files f ≡ maker_at fs f

-- one more file that no edge makes
module _ (fs : List FileData) (p : List ℕ) where
  abbrev pushed : List FileData
  pushed = fs ++ record { path = p; maker = None } ∷ []

  path_old : (f : ℕ) → f < length fs → path_at pushed f ≡ path_at fs f
  path_old f l = ap (λ (x : FileData). x.path) (get_or_append_left fs (record { path = p; maker = None } ∷ []) no_file f l)

  path_new : (f : ℕ) → length fs ≡ f → path_at pushed f ≡ p
  path_new f e = ap (λ (x : FileData). x.path) (get_or_push fs (record { path = p; maker = None }) no_file f e)

  maker_pushed : (f : ℕ) → maker_at pushed f ≡ maker_at fs f
  maker_pushed f = ⊎_elim
      (λ lt. ap (λ (x : FileData). x.maker) (get_or_append_left fs (record { path = p; maker = None } ∷ []) no_file f lt))
      (λ le. ⊎_elim
      (λ e. ap (λ (x : FileData). x.maker) (get_or_push fs (record { path = p; maker = None }) no_file f e) ∙ sym (ap (λ (x : FileData). x.maker) (get_or_past fs f no_file le)))
      (λ n.
      let far : length pushed ≤ f = omega (arith, length_push fs (record { path = p; maker = None })) in
      ap (λ (x : FileData). x.maker) (get_or_past pushed f no_file far ∙ sym (get_or_past fs f no_file le)))
      (cases_eq (length fs) f))
      (cases_lt f (length fs))

  pushed_same : GoodFiles fs → AllByRecursion (λ x. x.path ≡ p → ⊥) fs → (a b : ℕ) → a < length pushed → b < length pushed → path_at pushed a ≡ path_at pushed b → a ≡ b
  pushed_same h none a b la lb e =
      let n = length_push fs (record { path = p; maker = None }) in
      ⊎_elim
      (λ x. ⊎_elim
      (λ y. h.same a b x y (sym (path_old a x) ∙ e ∙ path_old b y))
      (λ y. absurd (All-get_or (λ x. x.path ≡ p → ⊥) fs a no_file x none (sym (path_old a x) ∙ e ∙ path_new b (omega (arith, n)))))
      (cases_lt b (length fs)))
      (λ x. ⊎_elim
      (λ y. absurd (All-get_or (λ x. x.path ≡ p → ⊥) fs b no_file y none (sym (path_old b y) ∙ sym e ∙ path_new a (omega (arith, n)))))
      (λ y. omega (arith, n))
      (cases_lt b (length fs)))
      (cases_lt a (length fs))

  mention_new : GoodFiles fs → CleanText 1 128 p → AllByRecursion (λ x. x.path ≡ p → ⊥) fs → length fs < 256 → GoodMention fs (record { file = length fs; files = pushed })
  mention_new h t none l =
      let n = length_push fs (record { path = p; maker = None }) in
      record {
        files = record { few = omega (arith, n); paths = All-push (λ x. CleanText 1 128 x.path) fs (record { path = p; maker = None }) h.paths t; same = pushed_same h none };
        grown = omega (arith, n);
        within = omega (arith, n);
        makers = maker_pushed;
      }

mention_at_good : (fs : List FileData) (p : List ℕ) (o : Option ℕ) → GoodFiles fs → CleanText 1 128 p → Found (λ x. x.path) no_file 0 fs p o → GotAll (GoodMention fs) (mention_at o fs p)
mention_at_good fs p (Some i) h t g =
    let e = g.is in
    let l = g.within in
    record { files = h; grown = omega arith; within = omega arith; makers = λ f. refl }
mention_at_good fs p None h t g =
    cond_both (ltb (length fs) 256) (got _) (wrong Limit) (GotAll (GoodMention fs)) (λ e. mention_new fs p h t g (ltb-true (length fs) 256 e)) (λ _. tt)

pub mention_good : (fs : List FileData) (p : List ℕ) → GoodFiles fs → CleanText 1 128 p → GotAll (GoodMention fs) (mention fs p)
mention_good fs p h t = mention_at_good fs p (place_from_on (λ x. x.path) 0 fs p) h t (place_found (λ x. x.path) no_file 0 fs p)

-- each file stands among the outputs of its maker, and each output's maker is its edge; outputs of an edge differ
pub record Makers (M : ℕ → Option ℕ) (O : ℕ → List ℕ) : Type 0 where
  pub made : (f e : ℕ) → is_maker e (M f) ≡ true → holds f (O e) ≡ true
  pub makes : (e f : ℕ) → holds f (O e) ≡ true → is_maker e (M f) ≡ true
  pub apart : (e : ℕ) → Apart (O e)

pub makers_same : (M N : ℕ → Option ℕ) (O : ℕ → List ℕ) → ((f : ℕ) → N f ≡ M f) → Makers M O → Makers N O
makers_same M N O s h = record {
  made = λ f e t. h.made f e (subst (λ o. is_maker e o ≡ true) (s f) t);
  makes = λ e f t. subst (λ o. is_maker e o ≡ true) (sym (s f)) (h.makes e f t);
  apart = h.apart;
}

pub outputs_same : (M : ℕ → Option ℕ) (O U : ℕ → List ℕ) → ((e : ℕ) → U e ≡ O e) → Makers M O → Makers M U
outputs_same M O U s h = record {
  made = λ f e t. subst (λ xs. holds f xs ≡ true) (sym (s e)) (h.made f e t);
  makes = λ e f t. h.makes e f (subst (λ xs. holds f xs ≡ true) (s e) t);
  apart = λ e. subst Apart (sym (s e)) (h.apart e);
}

pub holds_get_or : (xs : List ℕ) (i : ℕ) → i < length xs → holds (get_or xs i 0) xs ≡ true
holds_get_or [] i l = absurd (omega arith)
holds_get_or (x ∷ xs) zero l = or_left (eqb x x) (holds x xs) (eq-eqb x x refl)
holds_get_or (x ∷ xs) (suc i) l = or_right (eqb (get_or xs i 0) x) (holds (get_or xs i 0) xs) (holds_get_or xs i (omega arith))

holds_left : (x : ℕ) (xs : List ℕ) (y : ℕ) → holds x xs ≡ true → holds x (xs ++ y ∷ []) ≡ true
holds_left x [] y h = absurd (false≢true h)
holds_left x (z ∷ xs) y h = ⊎_elim
    (λ a. or_left (eqb x z) (holds x (xs ++ y ∷ [])) a)
    (λ b. or_right (eqb x z) (holds x (xs ++ y ∷ [])) (holds_left x xs y b))
    (or_cases (eqb x z) (holds x xs) h)

holds_last : (x : ℕ) (xs : List ℕ) → holds x (xs ++ x ∷ []) ≡ true
holds_last x [] = or_left (eqb x x) false (eq-eqb x x refl)
holds_last x (z ∷ xs) = or_right (eqb x z) (holds x (xs ++ x ∷ [])) (holds_last x xs)

holds_push : (x : ℕ) (xs : List ℕ) (y : ℕ) → holds x (xs ++ y ∷ []) ≡ true → (holds x xs ≡ true) ⊎ (x ≡ y)
holds_push x [] y h = ⊎_elim (λ a. inr (eqb-true x y a)) (λ b. absurd (false≢true b)) (or_cases (eqb x y) false h)
holds_push x (z ∷ xs) y h = ⊎_elim
    (λ a. inl (or_left (eqb x z) (holds x xs) a))
    (λ b. ⊎_elim (λ c. inl (or_right (eqb x z) (holds x xs) c)) (λ c. inr c) (holds_push x xs y b))
    (or_cases (eqb x z) (holds x (xs ++ y ∷ [])) h)

apart_push : (xs : List ℕ) (x : ℕ) → Apart xs → (holds x xs ≡ true → ⊥) → Apart (xs ++ x ∷ [])
apart_push xs x h none i j li lj e =
    let n = length_push xs x in
    ⊎_elim
    (λ a. ⊎_elim
    (λ b. h i j a b (sym (get_or_append_left xs (x ∷ []) 0 i a) ∙ e ∙ get_or_append_left xs (x ∷ []) 0 j b))
    (λ b. absurd (none (subst (λ y. holds y xs ≡ true) (sym (get_or_append_left xs (x ∷ []) 0 i a) ∙ e ∙ get_or_push xs x 0 j (omega (arith, n))) (holds_get_or xs i a))))
    (cases_lt j (length xs)))
    (λ a. ⊎_elim
    (λ b. absurd (none (subst (λ y. holds y xs ≡ true) (sym (get_or_append_left xs (x ∷ []) 0 j b) ∙ sym e ∙ get_or_push xs x 0 i (omega (arith, n))) (holds_get_or xs j b))))
    (λ b. omega (arith, n))
    (cases_lt j (length xs)))
    (cases_lt i (length xs))

-- the edge n makes the file i, which no edge made
module _ (fs : List FileData) (i n : ℕ) (within : i < length fs) (free : maker_at fs i ≡ None) where
  abbrev claimed : List FileData
  claimed = set fs i (record { path = path_at fs i; maker = Some n })

  path_kept : (f : ℕ) → path_at claimed f ≡ path_at fs f
  path_kept f = ⊎_elim
      (λ e. subst (λ g. path_at claimed g ≡ path_at fs g) e (ap (λ (x : FileData). x.path) (get_or-set_same fs i (record { path = path_at fs i; maker = Some n }) no_file within)))
      (λ ne. ap (λ (x : FileData). x.path) (get_or-set_other fs i f (record { path = path_at fs i; maker = Some n }) no_file (λ e. ne (sym e))))
      (cases_eq i f)

  maker_here : maker_at claimed i ≡ Some n
  maker_here = ap (λ (x : FileData). x.maker) (get_or-set_same fs i (record { path = path_at fs i; maker = Some n }) no_file within)

  maker_other : (f : ℕ) → (i ≡ f → ⊥) → maker_at claimed f ≡ maker_at fs f
  maker_other f ne = ap (λ (x : FileData). x.maker) (get_or-set_other fs i f (record { path = path_at fs i; maker = Some n }) no_file (λ e. ne (sym e)))

  pub claimed_long : length claimed ≡ length fs
  claimed_long = length-set fs i (record { path = path_at fs i; maker = Some n })

  pub claimed_files : GoodFiles fs → GoodFiles claimed
  claimed_files h = record {
    few = omega (arith, claimed_long, h.few);
    paths = All-set (λ x. CleanText 1 128 x.path) fs i _ (All-get_or (λ x. CleanText 1 128 x.path) fs i no_file within h.paths) h.paths;
    same = λ a b la lb e. h.same a b (omega (arith, claimed_long)) (omega (arith, claimed_long)) (sym (path_kept a) ∙ e ∙ path_kept b);
  }

  -- no edge has the file among its outputs so far
  unheld : (O : ℕ → List ℕ) (e : ℕ) → Makers (maker_at fs) O → holds i (O e) ≡ true → ⊥
  unheld O e h t = false≢true (subst (λ o. is_maker e o ≡ true) free (h.makes e i t))

  pub claimed_makers : (O U : ℕ → List ℕ) → U n ≡ O n ++ i ∷ [] → ((e : ℕ) → (e ≡ n → ⊥) → U e ≡ O e) → Makers (maker_at fs) O → Makers (maker_at claimed) U
  claimed_makers O U here other h = record { made = made; makes = makes; apart = apart }
    where
      kept : (f e : ℕ) → holds f (O e) ≡ true → holds f (U e) ≡ true
      kept f e t = ⊎_elim
          (λ s. subst (λ d. holds f (U d) ≡ true) (sym s) (subst (λ xs. holds f xs ≡ true) (sym here) (holds_left f (O n) i (subst (λ d. holds f (O d) ≡ true) s t))))
          (λ ne. subst (λ xs. holds f xs ≡ true) (sym (other e ne)) t)
          (cases_eq e n)

      made : (f e : ℕ) → is_maker e (maker_at claimed f) ≡ true → holds f (U e) ≡ true
      made f e t = ⊎_elim
          (λ s.
          let is : e ≡ n = eqb-true e n (subst (λ o. is_maker e o ≡ true) (ap (maker_at claimed) (sym s) ∙ maker_here) t) in
          subst (λ d. holds f (U d) ≡ true) (sym is) (subst (λ xs. holds f xs ≡ true) (sym here) (subst (λ g. holds g (O n ++ i ∷ []) ≡ true) s (holds_last i (O n)))))
          (λ ne. kept f e (h.made f e (subst (λ o. is_maker e o ≡ true) (maker_other f ne) t)))
          (cases_eq i f)

      old : (e f : ℕ) → holds f (O e) ≡ true → is_maker e (maker_at claimed f) ≡ true
      old e f t = ⊎_elim
          (λ s. absurd (unheld O e h (subst (λ g. holds g (O e) ≡ true) (sym s) t)))
          (λ ne. subst (λ o. is_maker e o ≡ true) (sym (maker_other f ne)) (h.makes e f t))
          (cases_eq i f)

      makes : (e f : ℕ) → holds f (U e) ≡ true → is_maker e (maker_at claimed f) ≡ true
      makes e f t = ⊎_elim
          (λ s. ⊎_elim
          (λ o. old e f (subst (λ d. holds f (O d) ≡ true) (sym s) o))
          (λ is. subst (λ g. is_maker e (maker_at claimed g) ≡ true) (sym is) (subst (λ o. is_maker e o ≡ true) (sym maker_here) (eq-eqb e n s)))
          (holds_push f (O n) i (subst (λ xs. holds f xs ≡ true) here (subst (λ d. holds f (U d) ≡ true) s t))))
          (λ ne. old e f (subst (λ xs. holds f xs ≡ true) (other e ne) t))
          (cases_eq e n)

      apart : (e : ℕ) → Apart (U e)
      apart e = ⊎_elim
          (λ s. subst (λ d. Apart (U d)) (sym s) (subst Apart (sym here) (apart_push (O n) i (h.apart n) (unheld O n h))))
          (λ ne. subst Apart (sym (other e ne)) (h.apart e))
          (cases_eq e n)
