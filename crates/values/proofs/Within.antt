-- Texts within limits, and what is kept of them.
use Rattle.std.proofs.Common.{◌≡◌, ℕ, ◌<◌, ◌≤◌, true, false, ◌&&◌, leb, List, length, IfOk, Ok, Err, Result, sym, ap, ◌∙◌, subst, arith}
use Rattle.std.proofs.lemmas.Bool.{le-leb, lt-leb, and_from, and_left, and_right}
use Rattle.store.specs.declared.wrong.Wrong.{Wrong}
use Rattle.store.specs.declared.wrong.Wrong.TheVariants.{Limit}
use Rattle.store.specs.declared.wrong.Stop.{Stop}
use Rattle.store.specs.declared.wrong.Stop.TheVariants.{Because, Memory}
use Rattle.store.specs.Try.{Try, got, wrong, and_try, Stops, Gives}
use Rattle.store.specs.declared.text.Text.{Text}
use Rattle.store.specs.Held.{text_in}
use Rattle.values.specs.Scopes.{kept_in}
use Rattle.store.specs.Stores.{stored}
use Rattle.values.specs.Expand.{Scope, look, expand, dollar}
use Rattle.values.specs.Kept.{sized, received, keep}
use Rattle.values.specs.Fills.{Overruns}
use Rattle.values.proofs.Pieces.{no_dollar}

module _ (low high : ℕ) (t : List ℕ) where
  pub sized_got : (h : List ℕ) → h ≡ t → low ≤ length h → length t ≤ high → got h ≡ sized low high t
  sized_got h e l m =
      let b : (leb low (length t) && leb (length t) high) ≡ true = and_from _ _ (le-leb low (length t) (omega (arith, ap length e))) (le-leb (length t) high m) in
      rw (e, b)

  pub sized_short : length t < low → wrong Limit ≡ sized low high t
  sized_short l =
      let b : (leb low (length t) && leb (length t) high) ≡ false = and_left _ _ (lt-leb low (length t) l) in
      rw b

  pub sized_over : (e : Stop) → Overruns e high t → Stops e (sized low high t)
  sized_over (Because w) h =
      let b : (leb low (length t) && leb (length t) high) ≡ false = and_right _ _ (lt-leb (length t) high h.1) in
      rw (h.0, b)
  sized_over Memory h = tt

-- one step after another
module _ {A X Y : Type 0} (f : A → X) (o : Try X) where
  pub gives_then : (r : Result A Stop) (g : X → Y) → Gives f r o → Gives (λ a. g (f a)) r (and_try o (λ x. got (g x)))
  gives_then (Ok a) g h = rw (← h)
  gives_then (Err (Because w)) g h = rw (← h)
  gives_then (Err Memory) g h = tt

pub stops_then : {X Y : Type 0} (e : Stop) (o : Try X) (k : X → Try Y) → Stops e o → Stops e (and_try o k)
stops_then (Because w) o k h = rw (← h)
stops_then Memory o k h = tt

pub and_got : {X Y : Type 0} (o : Try X) (x : X) (k : X → Try Y) → got x ≡ o → and_try o k ≡ k x
and_got o x k h = rw (← h)

pub and_wrong : {X Y : Type 0} (o : Try X) (w : Wrong) (k : X → Try Y) → wrong w ≡ o → and_try o k ≡ wrong w
and_wrong o w k h = rw (← h)

module _ (low high : ℕ) (c : Scope) (s v : List ℕ) where
  pub keep_got : (t u : List ℕ) → got t ≡ sized low high (expand (look c) v) → got u ≡ received s v t → got (record { text = t; store = u }) ≡ keep low high c s v
  keep_got t u h k = sym (and_got (sized low high (expand (look c) v)) t _ h ∙ and_got (received s v t) u _ k)

  pub keep_full : (t : List ℕ) → got t ≡ sized low high (expand (look c) v) → (e : Stop) → Stops e (received s v t) → Stops e (keep low high c s v)
  keep_full t h (Because w) k = sym (and_got (sized low high (expand (look c) v)) t _ h ∙ and_wrong (received s v t) w _ k)
  keep_full t h Memory k = tt

  pub keep_unsized : (e : Stop) → Stops e (sized low high (expand (look c) v)) → Stops e (keep low high c s v)
  keep_unsized e h = stops_then e (sized low high (expand (look c) v)) _ h

  pub own_text : dollar v ≡ false → expand (look c) v ≡ v
  unfolding expand
  own_text d = no_dollar (look c) v d

  pub keep_own : dollar v ≡ false → (leb low (length v) && leb (length v) high) ≡ true → got (record { text = v; store = s }) ≡ keep low high c s v
  keep_own d b = keep_got v s (rw (own_text d, b)) (rw d)

  pub keep_no_own : dollar v ≡ false → (leb low (length v) && leb (length v) high) ≡ false → wrong Limit ≡ keep low high c s v
  keep_no_own d b = keep_unsized (Because Limit) (rw (own_text d, b))

-- the store receives a text that has a `$`
pub received_is : (s v t : List ℕ) → dollar v ≡ true → received s v t ≡ stored s t
received_is s v t d = rw d

-- a text that was put into the store, and what is kept of it
pub kept_after : (low high : ℕ) (c : Scope) (s v t u : List ℕ) → dollar v ≡ true → got t ≡ sized low high (expand (look c) v) → (r : Result Text Stop) → Gives (λ _. u) r (stored s t) → IfOk r (λ x. text_in u x ≡ t) → Gives (kept_in u) r (keep low high c s v)
kept_after low high c s v t u d h (Ok x) g e = rw e (keep_got low high c s v t u h (g ∙ sym (received_is s v t d)))
kept_after low high c s v t u d h (Err e) g _ = keep_full low high c s v t h e (subst (Stops e) (sym (received_is s v t d)) g)
