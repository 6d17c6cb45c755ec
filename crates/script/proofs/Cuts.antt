-- A line is cut at its first colon with a space behind it.
use Rattle.std.proofs.Common.{◌≡◌, ℕ, zero, suc, ◌+◌, ◌-◌, ◌<◌, Bool, false, ◌&&◌, eqb, List, [], ◌∷◌, ◌++◌, length, get_or, take, drop, Some, None, sym, refl, ap, ◌∙◌, inl, inr, arith}
use Rattle.std.proofs.lemmas.List.{append-nil, append_assoc, take_rest}
use Rattle.std.proofs.lemmas.Bool.{cond-true, cond-false, eq-eqb, ne_eqb, eqb-true, cases_Bool, and_left, and_right}
use Rattle.script.specs.Colons.{Colon, NoColon, spaced, cut_from, cut_of}

-- a colon with a space behind it, in front
cut_here : (h : List ℕ) (b : ℕ) (bs : List ℕ) → b ≡ 58 → 0 < length bs → get_or bs 0 0 ≡ 32 → cut_from h (b ∷ bs) ≡ Some (h, drop 1 bs)
cut_here h b [] e l s = absurd (omega arith)
cut_here h b (d ∷ bs) e l s =
    cond-true (eqb b 58 && eqb d 32) (Some (h, bs)) (cut_from (h ++ (b ∷ [])) (d ∷ bs)) (ap (λ (v : Bool). v && eqb d 32) (eq-eqb b 58 e) ∙ eq-eqb d 32 s)

spaced_not : (bs : List ℕ) → (0 < length bs → get_or bs 0 0 ≡ 32 → ⊥) → spaced bs ≡ false
spaced_not [] n = refl
spaced_not (d ∷ bs) n = ne_eqb d 32 (n (omega arith))

-- none in front
cut_on : (h : List ℕ) (b : ℕ) (bs : List ℕ) → (b ≡ 58 → 0 < length bs → get_or bs 0 0 ≡ 32 → ⊥) → cut_from h (b ∷ bs) ≡ cut_from (h ++ (b ∷ [])) bs
cut_on h b bs n = cond-false (eqb b 58 && spaced bs) (Some (h, drop 1 bs)) (cut_from (h ++ (b ∷ [])) bs) off where
  off : (eqb b 58 && spaced bs) ≡ false
  off = elim (cases_Bool (eqb b 58)) [
    | inl on ↦ and_right (eqb b 58) (spaced bs) (spaced_not bs (n (eqb-true b 58 on)))
    | inr out ↦ and_left (eqb b 58) (spaced bs) out
  ]

cut_at : (h line : List ℕ) (i : ℕ) → i + 1 < length line → get_or line i 0 ≡ 58 → get_or line (i + 1) 0 ≡ 32 → ((j : ℕ) → j < i → get_or line j 0 ≡ 58 → get_or line (j + 1) 0 ≡ 32 → ⊥) → cut_from h line ≡ Some (h ++ take i line, drop (i + 2) line)
cut_at h [] i l c s before = absurd (omega arith)
cut_at h (b ∷ bs) zero l c s before = cut_here h b bs c (omega arith) s ∙ ap (λ (v : List ℕ). Some (v, drop 1 bs)) (sym (append-nil h))
cut_at h (b ∷ bs) (suc i) l c s before =
    cut_on h b bs (λ e l' s'. before 0 (omega arith) e s')
    ∙ (cut_at (h ++ (b ∷ [])) bs i (omega arith) c s' (λ j l' c' s''. before (suc j) (omega arith) c' (moved j s''))
    ∙ (ap (λ (v : List ℕ). Some (v, drop (i + 2) bs)) (append_assoc h (b ∷ []) (take i bs)) ∙ ap (λ (k : ℕ). Some (h ++ (b ∷ take i bs), drop k (b ∷ bs))) two)) where
      two : suc (i + 2) ≡ suc i + 2
      two = omega arith

      one : (j : ℕ) → suc j + 1 ≡ suc (j + 1)
      one j = omega arith

      s' : get_or bs (i + 1) 0 ≡ 32
      s' = ap (λ (k : ℕ). get_or (b ∷ bs) k 0) (sym (one i)) ∙ s

      moved : (j : ℕ) → get_or bs (j + 1) 0 ≡ 32 → get_or (b ∷ bs) (suc j + 1) 0 ≡ 32
      moved j e = ap (λ (k : ℕ). get_or (b ∷ bs) k 0) (one j) ∙ e

pub cut_none : (h line : List ℕ) → ((j : ℕ) → j + 1 < length line → get_or line j 0 ≡ 58 → get_or line (j + 1) 0 ≡ 32 → ⊥) → cut_from h line ≡ None
cut_none h [] n = refl
cut_none h (b ∷ bs) n = cut_on h b bs (λ e l s. n 0 (omega arith) e s) ∙ cut_none (h ++ (b ∷ [])) bs (λ j l c s. n (suc j) (omega arith) c (moved j s)) where
  one : (j : ℕ) → suc j + 1 ≡ suc (j + 1)
  one j = omega arith

  moved : (j : ℕ) → get_or bs (j + 1) 0 ≡ 32 → get_or (b ∷ bs) (suc j + 1) 0 ≡ 32
  moved j e = ap (λ (k : ℕ). get_or (b ∷ bs) k 0) (one j) ∙ e

-- the parts, as slices of the line have them
pub cut_made : (line : List ℕ) (i : ℕ) → Colon line i → NoColon line (i + 1) → Some (take i line, take (length line - (i + 2)) (drop (i + 2) line)) ≡ cut_of line
cut_made line i c n =
    ap (λ (v : List ℕ). Some (take i line, v)) (take_rest line (i + 2)) ∙ sym (cut_at [] line i c.0 c.1 c.2 (λ j l. n j (omega arith)))
