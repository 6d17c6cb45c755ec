-- The bytes of a store, before and after a text is added.
use Rattle.std.proofs.Common.{◌≡◌, ℕ, ◌+◌, ◌-◌, ◌≤◌, List, ◌++◌, length, take, drop, replicate, sym, ap, ◌∙◌, arith}
use borrow.Rule.Slice.PartMut.{put_mid}
use Rattle.std.proofs.lemmas.List.{length-take-le, drop-drop, drop-replicate, drop_at, take_at, append_assoc, length-append, length-drop}

module _ (u : ℕ) (xs t ys : List ℕ) (b : u + length t ≤ length xs) (e : ys ≡ take u xs ++ (t ++ drop (u + length t) xs)) where
  -- what lies behind it is what lay there
  pub rest_after : (n : ℕ) → drop u xs ≡ replicate (n - u) 0 → drop (u + length t) ys ≡ replicate (n - (u + length t)) 0
  rest_after n h =
      let f : length (take u xs ++ t) ≡ u + length t = length-append (take u xs) t ∙ ap (λ n. n + length t) (length-take-le u xs (omega arith)) in
      let k : n - u - length t ≡ n - (u + length t) = omega arith in
      ap (drop (u + length t)) (e ∙ sym (append_assoc (take u xs) t (drop (u + length t) xs))) ∙ drop_at (take u xs ++ t) (drop (u + length t) xs) (u + length t) f
      ∙ sym (drop-drop (length t) u xs) ∙ ap (drop (length t)) h ∙ drop-replicate (length t) (n - u) 0 ∙ ap (λ m. replicate m 0) k

-- a Vec of m bytes, of which k from the place a on were written
pub put_is : (a k m : ℕ) (xs ms ys t rest : List ℕ) → ms ≡ xs → m ≡ length xs → ys ≡ t → k ≡ length t → a + length t ≤ m → take m (put_mid a k ms ys ++ rest) ≡ take a xs ++ (t ++ drop (a + length t) xs)
put_is a k m xs ms ys t rest p l q n b =
    let zs : List ℕ = take a xs ++ (t ++ drop (a + length t) xs) in
    let e : put_mid a k ms ys ≡ zs = rw (p, q, n, drop-drop) in
    let c : length zs ≡ m = omega (arith, length-append (take a xs) (t ++ drop (a + length t) xs), length-append t (drop (a + length t) xs), length-take-le a xs (omega arith), length-drop (a + length t) xs) in
    ap (λ z. take m (z ++ rest)) e ∙ take_at zs rest m c
