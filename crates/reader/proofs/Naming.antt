-- Steps that may go wrong, and names: what is computed and what the rules say are the same.
use Rattle.std.proofs.Common.{◌≡◌, ℕ, zero, suc, ◌+◌, ◌<◌, Bool, true, false, cond, ltb, List, [], ◌∷◌, ◌++◌, length, get_or, set, is_some as option_is_some, Some, None, Option, sym, refl, ap, ◌∙◌, subst, zero-add, arith}
use Rattle.std.specs.List.{AllByRecursion}
use Rattle.std.specs.Str.{bytes_eq}
use Rattle.std.proofs.lemmas.Bool.{cond_both, ltb-true, lt-ltb, false≢true}
use Rattle.parts.specs.Parts.{Entry}
use Rattle.store.specs.declared.wrong.Wrong.{Wrong}
use Rattle.store.specs.declared.wrong.Wrong.TheVariants.{Limit}
use Rattle.store.specs.Try.{Try, got, wrong, and_try}
use Rattle.values.specs.Expand.{find, Scope}
use Rattle.values.specs.Kept.{keep, bind, bound}
use Rattle.graph.specs.Data.{FileData, no_file, path_at, maker_at}
use Rattle.names.specs.Named.{place_from_on}
use Rattle.lists.specs.Each.{each_try}
use Rattle.lists.specs.Files.{mention_at, mention, claim_from, claim, listed}
use Rattle.reader.specs.Expands.{Lacks, Keeps}
use Rattle.reader.specs.Rules.{Steps, Sets, Names}
use Rattle.reader.proofs.Formed.{Formed}
use Rattle.reader.proofs.Expanding.{same_name, other_name, named, not_named, find_holds, holds_find, find_lacks, lacks_find, keep_full}

-- if a step gives a value, P holds of it
pub data Got {A : Type 0} (P : A → Type 0) : Try A → Type 0 where
  gives : {a : A} → P a → Got P (got a)
  fails : {w : Wrong} → Got P (wrong w)

pub then_got : {A B : Type 0} {P : A → Type 0} {Q : B → Type 0} {o : Try A} (f : A → Try B) → Got P o → ((a : A) → P a → Got Q (f a)) → Got Q (and_try o f)
then_got f (Got.gives {a = a} h) k = k a h
then_got f Got.fails k = Got.fails

-- the same after a step that only puts its value into another form
pub then_as : {A B C : Type 0} {P : A → Type 0} {Q : C → Type 0} {o : Try A} (g : A → B) (f : B → Try C) → Got P o → ((a : A) → P a → Got Q (f (g a))) → Got Q (and_try (and_try o (λ a. got (g a))) f)
then_as g f (Got.gives {a = a} h) k = k a h
then_as g f Got.fails k = Got.fails

pub got_more : {A : Type 0} {P Q : A → Type 0} {o : Try A} → Got P o → ((a : A) → P a → Q a) → Got Q o
got_more (Got.gives {a = a} h) k = Got.gives (k a h)
got_more Got.fails k = Got.fails

pub got_from : {A : Type 0} (P : A → Type 0) (o : Try A) → ((a : A) → o ≡ got a → P a) → Got P o
got_from P (got a) k = Got.gives (k a refl)
got_from P (wrong w) k = Got.fails

got_in : {A : Type 0} {P : A → Type 0} {a : A} → Got P (got a) → P a
got_in (Got.gives h) = h

pub got_at : {A : Type 0} (P : A → Type 0) {o : Try A} (a : A) → o ≡ got a → Got P o → P a
got_at P a e h = got_in (subst (Got P) e h)

pub got_cond : {A : Type 0} {P : A → Type 0} (t : Bool) (x y : Try A) → (t ≡ true → Got P x) → (t ≡ false → Got P y) → Got P (cond t x y)
got_cond {P = P} t x y h k = cond_both t x y (Got P) h k

-- one step after another, where the first gives a
pub after : {A B : Type 0} (o : Try A) (a : A) (f : A → Try B) (x : Try B) → o ≡ got a → f a ≡ x → and_try o f ≡ x
after o a f x p q = ap (λ z. and_try z f) p ∙ q

-- a step for each element
module _ {S A : Type 0} (f : S → A → Try S) (R : S → A → S → Type 0) where
  pub each_full : (F : A → Type 0) → ((s : S) (x : A) → F x → Got (R s x) (f s x)) → (s : S) (xs : List A) → AllByRecursion F xs → Got (Steps R s xs) (each_try f s xs)
  each_full F full s [] h = Got.gives Steps.none
  each_full F full s (x ∷ xs) h = then_got _ (full s x h.0) (λ t r. got_more (each_full F full t xs h.1) (λ u q. Steps.step r q))

  pub each_sound : ((s : S) (x : A) (t : S) → R s x t → f s x ≡ got t) → {s u : S} {xs : List A} → Steps R s xs u → each_try f s xs ≡ got u
  each_sound sound Steps.none = refl
  each_sound sound (Steps.step {s = s} {t = t} {x = x} r q) = after _ _ _ _ (sound s x t r) (each_sound sound q)

-- what each step keeps, all of them keep
pub steps_keep : {S A : Type 0} (R : S → A → S → Type 0) (P : S → Type 0) → ((s : S) (x : A) (t : S) → R s x t → P s → P t) → {s u : S} {xs : List A} → Steps R s xs u → P s → P u
steps_keep R P kept Steps.none p = p
steps_keep R P kept (Steps.step {s = s} {t = t} {x = x} r q) p = steps_keep R P kept q (kept s x t r p)

pub is_some : {A : Type 0} (o : Option A) → option_is_some o ≡ true → (a : A) × (o ≡ Some a)
is_some None e = absurd (false≢true e)
is_some (Some a) e = (a, refl)

pub is_none : {A : Type 0} (o : Option A) → option_is_some o ≡ false → o ≡ None
is_none None e = refl
is_none (Some a) e = absurd (false≢true (sym e))

pub kept_full : (low high : ℕ) (c : Scope) (s v : List ℕ) → Formed v → Got (λ k. Keeps low high c s v k.text k.store) (keep low high c s v)
kept_full low high c s v f = got_from _ (keep low high c s v) (λ k e. keep_full low high c s v k f e)

-- a variable that is not there yet comes last
bind_new : (es : List Entry) (e : Entry) → Lacks es e.name → bind es e ≡ es ++ e ∷ []
bind_new [] e h = refl
bind_new (d ∷ es) e h = rw (other_name d.name e.name h.0) (ap (λ z. d ∷ z) (bind_new es e h.1))

pub bound_full : (k : ℕ) (es : List Entry) (n t : List ℕ) → Got (Sets k es n t) (bound k es (record { name = n; value = t }))
bound_full k es n t =
    got_cond (option_is_some (find es n)) _ _
    (λ q. let w = is_some (find es n) q in Got.gives (Sets.replaces (find_holds es n w.0 w.1)))
    (λ q. let l = find_lacks es n (is_none (find es n) q) in
    got_cond (ltb (length es) k) _ _
    (λ b. Got.gives (subst (Sets k es n t) (sym (bind_new es (record { name = n; value = t }) l)) (Sets.adds l (ltb-true (length es) k b))))
    (λ _. Got.fails))

pub bound_sound : {k : ℕ} {es : List Entry} {n t : List ℕ} {vs : List Entry} → Sets k es n t vs → bound k es (record { name = n; value = t }) ≡ got vs
bound_sound (Sets.replaces h) = rw (holds_find h)
bound_sound {k = k} {n = n} {t = t} (Sets.adds {es = es} l b) =
    rw (lacks_find es n l, lt-ltb (length es) k b, bind_new es (record { name = n; value = t }) l)

-- the element at i is the first whose name is n
pub record First {A : Type 0} (f : A → List ℕ) (d : A) (xs : List A) (n : List ℕ) (i : ℕ) : Type 0 where
  pub within : i < length xs
  pub is : f (get_or xs i d) ≡ n
  pub first : (j : ℕ) → j < i → f (get_or xs j d) ≡ n → ⊥

module _ {A : Type 0} (f : A → List ℕ) (d : A) where
  -- what the place of a name, counted from i, says
  abbrev pub Placed : ℕ → List A → List ℕ → Option ℕ → Type 0
  Placed i xs n None = AllByRecursion (λ x. f x ≡ n → ⊥) xs
  Placed i xs n (Some k) = (j : ℕ) × (k ≡ i + j) × First f d xs n j

  first_next : (x : A) (xs : List A) (n : List ℕ) (j : ℕ) → (f x ≡ n → ⊥) → First f d xs n j → First f d (x ∷ xs) n (suc j)
  first_next x xs n j m h = record { within = omega (arith, h.within); is = h.is; first = λ i l. before i l }
    where
      before : (i : ℕ) → i < suc j → f (get_or (x ∷ xs) i d) ≡ n → ⊥
      before zero l = m
      before (suc i) l = h.first i (omega arith)

  placed_next : (i : ℕ) (x : A) (xs : List A) (n : List ℕ) (o : Option ℕ) → (f x ≡ n → ⊥) → Placed (i + 1) xs n o → Placed i (x ∷ xs) n o
  placed_next i x xs n None m h = (m, h)
  placed_next i x xs n (Some k) m h = (suc h.0, omega (arith, h.1), first_next x xs n h.0 m h.2)

  pub placed : (i : ℕ) (xs : List A) (n : List ℕ) → Placed i xs n (place_from_on f i xs n)
  placed i [] n = tt
  placed i (x ∷ xs) n =
      cond_both (bytes_eq (f x) n) (Some i) (place_from_on f (i + 1) xs n) (Placed i (x ∷ xs) n)
      (λ t. (0, omega arith, record { within = omega arith; is = named (f x) n t; first = λ j l. absurd (omega arith) }))
      (λ m. placed_next i x xs n _ (not_named (f x) n m) (placed (i + 1) xs n))

  first_tail : (x : A) (xs : List A) (n : List ℕ) (j : ℕ) → First f d (x ∷ xs) n (suc j) → First f d xs n j
  first_tail x xs n j h = record { within = omega (arith, h.within); is = h.is; first = λ i l. h.first (suc i) (omega arith) }

  place_from : (i : ℕ) (xs : List A) (n : List ℕ) (j : ℕ) → First f d xs n j → place_from_on f i xs n ≡ Some (i + j)
  place_from i [] n j h = absurd (omega (arith, h.within))
  place_from i (x ∷ xs) n zero h = rw (same_name (f x) n h.is) (ap (λ z. Some z) (omega arith))
  place_from i (x ∷ xs) n (suc j) h =
      rw (other_name (f x) n (h.first 0 (omega arith)))
      (place_from (i + 1) xs n j (first_tail x xs n j h) ∙ ap (λ z. Some z) (omega arith))

  pub place_first : (xs : List A) (n : List ℕ) (j : ℕ) → First f d xs n j → place_from_on f 0 xs n ≡ Some j
  place_first xs n j h = place_from 0 xs n j h ∙ ap (λ z. Some z) (zero-add j)

  pub place_none : (i : ℕ) (xs : List A) (n : List ℕ) → AllByRecursion (λ x. f x ≡ n → ⊥) xs → place_from_on f i xs n ≡ None
  place_none i [] n h = refl
  place_none i (x ∷ xs) n h = rw (other_name (f x) n h.0) (place_none (i + 1) xs n h.1)

  pub first_at : (xs : List A) (n : List ℕ) (k : ℕ) → Placed 0 xs n (Some k) → First f d xs n k
  first_at xs n k h = let e : h.0 ≡ k = omega (arith, h.1) in subst (First f d xs n) e h.2

mention_at_lem : (fs : List FileData) (p : List ℕ) (o : Option ℕ) → Placed (λ f. f.path) no_file 0 fs p o → Got (λ m. Names fs p m.file m.files) (mention_at o fs p)
mention_at_lem fs p None h =
    got_cond (ltb (length fs) 256) _ _ (λ t. Got.gives (Names.new h (ltb-true (length fs) 256 t))) (λ _. Got.fails)
mention_at_lem fs p (Some k) h = let w = first_at (λ f. f.path) no_file fs p k h in Got.gives (Names.known w.within w.is w.first)

pub mention_full : (fs : List FileData) (p : List ℕ) → Got (λ m. Names fs p m.file m.files) (mention fs p)
mention_full fs p = mention_at_lem fs p _ (placed (λ f. f.path) no_file 0 fs p)

pub mention_sound : {fs : List FileData} {p : List ℕ} {i : ℕ} {gs : List FileData} → Names fs p i gs → mention fs p ≡ got (record { file = i; files = gs })
mention_sound (Names.known {fs = fs} {p = p} {i = i} w e n) =
    ap (λ o. mention_at o fs p) (place_first (λ f. f.path) no_file fs p i (record { within = w; is = e; first = n }))
mention_sound (Names.new {fs = fs} {p = p} h l) =
    ap (λ o. mention_at o fs p) (place_none (λ f. f.path) no_file 0 fs p h) ∙ rw (lt-ltb (length fs) 256 l)

claim_at : {B : Type 0} (Q : B → Type 0) (o : Option ℕ) (fs : List FileData) (i e : ℕ) (f : List FileData → Try B) → maker_at fs i ≡ o → (maker_at fs i ≡ None → Got Q (f (set fs i (record { path = path_at fs i; maker = Some e })))) → Got Q (and_try (claim_from o fs i e) f)
claim_at Q None fs i e f p k = k p
claim_at Q (Some d) fs i e f p k = Got.fails

pub claim_full : {B : Type 0} (Q : B → Type 0) (fs : List FileData) (i e : ℕ) (f : List FileData → Try B) → (maker_at fs i ≡ None → Got Q (f (set fs i (record { path = path_at fs i; maker = Some e })))) → Got Q (and_try (claim fs i e) f)
claim_full Q fs i e f k = claim_at Q (maker_at fs i) fs i e f refl k

pub claim_sound : (fs : List FileData) (i e : ℕ) → maker_at fs i ≡ None → claim fs i e ≡ got (set fs i (record { path = path_at fs i; maker = Some e }))
claim_sound fs i e p = ap (λ o. claim_from o fs i e) p

pub listed_full : {B : Type 0} (Q : B → Type 0) (k : ℕ) (ns : List ℕ) (n : ℕ) (f : List ℕ → Try B) → (length ns < k → Got Q (f (ns ++ n ∷ []))) → Got Q (and_try (listed k ns n) f)
listed_full Q k ns n f h =
    cond_both (ltb (length ns) k) (got (ns ++ n ∷ [])) (wrong Limit) (λ o. Got Q (and_try o f)) (λ t. h (ltb-true (length ns) k t)) (λ _. Got.fails)

pub listed_sound : (k : ℕ) (ns : List ℕ) (n : ℕ) → length ns < k → listed k ns n ≡ got (ns ++ n ∷ [])
listed_sound k ns n l = rw (lt-ltb (length ns) k l)
