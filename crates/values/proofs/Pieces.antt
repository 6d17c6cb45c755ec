-- The text of a value, piece by piece.
use Rattle.std.proofs.Common.{◌≡◌, ℕ, zero, suc, ◌+◌, ◌-◌, ◌<◌, ◌≤◌, Bool, true, false, cond, not, eqb, List, [], ◌∷◌, ◌++◌, length, get_or, take, drop, sym, refl, ap, ◌∙◌, append_assoc, append-nil, arith, length-append}
use Rattle.std.proofs.lemmas.List.{take_rest, drop-drop}
use Rattle.store.specs.declared.wrong.Stop.{Stop}
use Rattle.store.specs.declared.wrong.Stop.TheVariants.{Because, Memory}
use Rattle.byteclass.specs.Class.{name_byte}
use Rattle.values.specs.Expand.{front, plain, dollar, piece, expand_from}
use Rattle.values.specs.Fills.{Overruns}

module _ (f : List ℕ → List ℕ) where
  -- what is passed over first
  pub expand_past : (k : ℕ) (s : List ℕ) → expand_from f k s ≡ expand_from f 0 (drop k s)
  expand_past zero s = refl
  expand_past (suc k) [] = refl
  expand_past (suc k) (b ∷ s) = expand_past k s

  -- a run of plain bytes is its own text
  pub plain_run : (s : List ℕ) → expand_from f 0 s ≡ take (front plain s) s ++ expand_from f 0 (drop (front plain s) s)
  plain_run [] = refl
  plain_run (b ∷ s) = at (eqb b 36) refl (plain_run s)
    where
      at : (t : Bool) → eqb b 36 ≡ t → expand_from f 0 s ≡ take (front plain s) s ++ expand_from f 0 (drop (front plain s) s) → expand_from f 0 (b ∷ s) ≡ take (front plain (b ∷ s)) (b ∷ s) ++ expand_from f 0 (drop (front plain (b ∷ s)) (b ∷ s))
      at true e h = simp e
      at false e h = rw e (ap (λ z. b ∷ z) h)

  -- a value without a `$` is its own text
  pub no_dollar : (s : List ℕ) → dollar s ≡ false → expand_from f 0 s ≡ s
  no_dollar [] h = refl
  no_dollar (b ∷ s) h = at (eqb b 36) h (no_dollar s)
    where
      at : (t : Bool) → cond t true (dollar s) ≡ false → (dollar s ≡ false → expand_from f 0 s ≡ s) → cond t ((piece f s).text ++ expand_from f (piece f s).taken s) (b ∷ expand_from f 0 s) ≡ b ∷ s
      at true g k = let z : ◌≡◌ {A = ℕ} 0 1 = cc in absurd (omega arith)
      at false g k = ap (λ z. b ∷ z) (k g)

  -- a `$` at the front
  pub at_dollar : (s a x r : List ℕ) → front plain s ≡ 0 → a ≡ drop 1 s → x ≡ (piece f a).text → r ≡ drop (piece f a).taken a → expand_from f 0 s ≡ x ++ expand_from f 0 r
  at_dollar [] a x r h q p m = rw (p, m, q)
  at_dollar (b ∷ s) a x r h q p m = at (eqb b 36) refl h
    where
      at : (t : Bool) → eqb b 36 ≡ t → cond (not t) (suc (front plain s)) 0 ≡ 0 → expand_from f 0 (b ∷ s) ≡ x ++ expand_from f 0 r
      at true e g = rw (p, m, q, e, expand_past (piece f s).taken s)
      at false e g = absurd (omega arith)

  -- what follows a name in braces
  pub after_brace : (s r : List ℕ) → 0 < length s → get_or s 0 0 ≡ 123 → r ≡ drop 1 (drop (front name_byte (take (length s - 1) (drop 1 s))) (take (length s - 1) (drop 1 s))) → r ≡ drop (piece f s).taken s
  after_brace [] r h e v = absurd (omega arith)
  after_brace (b ∷ s) r h e v =
      let t = take_rest (b ∷ s) 1 in
      let k : front name_byte s + 1 ≡ suc (front name_byte s) = omega arith in
      v ∙ rw (t, e, drop-drop, k)

module _ (have want x t y : List ℕ) (same : have ++ x ≡ want) (cut : x ≡ t ++ y) where
  -- one piece more
  pub step : (next : List ℕ) → next ≡ have ++ t → next ++ y ≡ want
  step next e = rw (e, append_assoc, ← cut) same

  -- a piece that is too long
  pub broken : (e : Stop) (limit : ℕ) → Overruns e limit (have ++ t) → Overruns e limit want
  broken (Because w) limit h = (h.0, rw (← same, cut) (simp length-append (omega (arith, simp length-append at h.1))))
  broken Memory limit h = tt

-- nothing is left
pub finished : (f : List ℕ → List ℕ) (have want s : List ℕ) (limit n : ℕ) → have ++ expand_from f 0 s ≡ want → length s ≡ 0 → n ≡ length have → n ≤ limit → (have ≡ want) × (length want ≤ limit)
finished f have want [] limit n h e l m =
    let g : have ≡ want = sym (append-nil have) ∙ h in
    (g, omega (arith, ap length g))
finished f have want (b ∷ s) limit n h e l m = absurd (omega arith)
