-- Runs of bytes at the front.
use Rattle.std.specs.Prelude.{◌==◌, ◌||◌}
use Rattle.std.proofs.Common.{◌≡◌, ℕ, suc, ◌+◌, ◌<◌, ◌≤◌, Bool, true, false, cond, not, ltb, List, [], ◌∷◌, length, take, drop, Some, None, Option, refl, ◌∙◌, ⊎_elim, arith}
use Rattle.std.proofs.lemmas.List.{length-take-le, length-drop}
use Rattle.std.proofs.lemmas.Bool.{cond_both, lt-ltb, le-ltb, cases_lt}
use Rattle.std.proofs.lemmas.List.Recursion.{is_position_or_len}
use Rattle.std.specs.List.{position_or_len, list_any}
use Rattle.std.specs.Option.{unwrap_or}
use Rattle.values.specs.Expand.{front, dollar}

pub front_within : (p : ℕ → Bool) (s : List ℕ) → front p s ≤ length s
front_within p [] = omega arith
front_within p (b ∷ s) =
    let h = front_within p s in
    cond_both (p b) (suc (front p s)) 0 (λ n. n ≤ suc (length s)) (λ _. omega arith) (λ _. omega arith)

module _ (p : ℕ → Bool) where
  front_is : (s : List ℕ) → front p s ≡ position_or_len (λ b. not (p b)) s
  front_is = is_position_or_len (front p) (λ b. not (p b)) refl (λ b s. at (p b) (front p s))
    where
      at : (t : Bool) (n : ℕ) → cond t (suc n) 0 ≡ cond (not t) 0 (1 + n)
      at true n = omega arith
      at false n = refl

  ended : (k l : ℕ) → k ≤ l → unwrap_or (cond (ltb k l) (Some k) None) l ≡ k
  ended k l h = ⊎_elim (λ a. rw (lt-ltb k l a)) (λ a. let e : l ≡ k = omega arith in rw (le-ltb k l a) e) (cases_lt k l)

  -- the run ends at the first byte that fails
  pub run_ends : (s : List ℕ) (r : Option ℕ) (n : ℕ) → r ≡ cond (ltb (position_or_len (λ b. not (p b)) s) (length s)) (Some (position_or_len (λ b. not (p b)) s)) None → n ≡ unwrap_or r (length s) → n ≡ front p s
  run_ends s r n e h = h ∙ rw (e, ← front_is s) (ended (front p s) (length s) (front_within p s))

-- a run at whose end nothing is before it
pub no_run : (p : ℕ → Bool) (s : List ℕ) → length (take (front p s) s) ≡ 0 → front p s ≡ 0
no_run p s h = omega (arith, length-take-le (front p s) s (front_within p s))

pub some_run : (p : ℕ → Bool) (s : List ℕ) → 0 < length (take (front p s) s) → length (drop (front p s) s) < length s
some_run p s h = omega (arith, length-take-le (front p s) s (front_within p s), length-drop (front p s) s, front_within p s)

-- whether there is a `$`, in the words of `contains`
pub dollar_any : (s : List ℕ) → list_any (λ b. b == 36) s ≡ dollar s
dollar_any [] = refl
dollar_any (b ∷ s) = at (b == 36) (dollar_any s)
  where
    at : (t : Bool) → list_any (λ b. b == 36) s ≡ dollar s → (t || list_any (λ b. b == 36) s) ≡ cond t true (dollar s)
    at true h = refl
    at false h = h
