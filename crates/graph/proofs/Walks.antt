-- Walks, and the recursion that finds them.
use Rattle.std.proofs.Common.{◌≡◌, ℕ, zero, suc, ◌<◌, Bool, true, ◌&&◌, subst, ⊎_elim, arith}
use Rattle.std.proofs.lemmas.Bool.{or_cases, or_left, or_right, and_parts, and_from, cases_lt}
use Rattle.graph.specs.Circle.{via, Walk}

module _ (R : ℕ → ℕ → Bool) where
  pub walk_join : {e m d : ℕ} → Walk R e m → Walk R m d → Walk R e d
  walk_join (Walk.one h) w = Walk.more h w
  walk_join (Walk.more h v) w = Walk.more h (walk_join v w)

  pub via_walk : (k e d : ℕ) → via R k e d ≡ true → Walk R e d
  via_walk zero e d h = Walk.one h
  via_walk (suc k) e d h =
      ⊎_elim (λ a. via_walk k e d a)
      (λ b. let p = and_parts (via R k e k) (via R k k d) b in walk_join (via_walk k e k p.0) (via_walk k k d p.1))
      (or_cases (via R k e d) (via R k e k && via R k k d) h)

  pub via_step : (k e d : ℕ) → R e d ≡ true → via R k e d ≡ true
  via_step zero e d h = h
  via_step (suc k) e d h = or_left (via R k e d) (via R k e k && via R k k d) (via_step k e d h)

  -- a walk by way of k
  through : (k e d : ℕ) → via R k e k ≡ true → via R k k d ≡ true → via R (suc k) e d ≡ true
  through k e d a b = or_right (via R k e d) (via R k e k && via R k k d) (and_from (via R k e k) (via R k k d) a b)

  -- a walk to k, or from it, does not pass k on the way
  to_end : (k e : ℕ) → via R (suc k) e k ≡ true → via R k e k ≡ true
  to_end k e h = ⊎_elim (λ a. a) (λ b. (and_parts (via R k e k) (via R k k k) b).0) (or_cases (via R k e k) (via R k e k && via R k k k) h)

  from_end : (k d : ℕ) → via R (suc k) k d ≡ true → via R k k d ≡ true
  from_end k d h = ⊎_elim (λ a. a) (λ b. (and_parts (via R k k k) (via R k k d) b).1) (or_cases (via R k k d) (via R k k k && via R k k d) h)

  pub via_join : (k e m d : ℕ) → m < k → via R k e m ≡ true → via R k m d ≡ true → via R k e d ≡ true
  via_join zero e m d l p q = absurd (omega arith)
  via_join (suc k) e m d l p q = ⊎_elim
      (λ low. ⊎_elim
      (λ a. ⊎_elim
      (λ b. or_left (via R k e d) (via R k e k && via R k k d) (via_join k e m d low a b))
      (λ b. let y = and_parts (via R k m k) (via R k k d) b in through k e d (via_join k e m k low a y.0) y.1)
      (or_cases (via R k m d) (via R k m k && via R k k d) q))
      (λ a.
      let x = and_parts (via R k e k) (via R k k m) a in
      ⊎_elim
      (λ b. through k e d x.0 (via_join k k m d low x.1 b))
      (λ b. through k e d x.0 (and_parts (via R k m k) (via R k k d) b).1)
      (or_cases (via R k m d) (via R k m k && via R k k d) q))
      (or_cases (via R k e m) (via R k e k && via R k k m) p))
      (λ high.
      let same : m ≡ k = omega arith in
      through k e d (to_end k e (subst (λ x. via R (suc k) e x ≡ true) same p)) (from_end k d (subst (λ x. via R (suc k) x d ≡ true) same q)))
      (cases_lt m k)

  module _ (n : ℕ) (low : (e d : ℕ) → R e d ≡ true → d < n) where
    pub walk_via : {e d : ℕ} → Walk R e d → via R n e d ≡ true
    walk_via {e = e} {d = d} (Walk.one h) = via_step n e d h
    walk_via {e = e} {d = d} (Walk.more {m = m} h w) = via_join n e m d (low e m h) (via_step n e m h) (walk_via w)

    pub walk_low : {e d : ℕ} → Walk R e d → d < n
    walk_low {e = e} {d = d} (Walk.one h) = low e d h
    walk_low (Walk.more h w) = walk_low w
