-- A run of bytes that a path takes as they are is passed at once.
use Rattle.std.proofs.Common.{◌≡◌, ℕ, suc, ◌+◌, true, false, List, [], ◌∷◌, length, drop, sym, refl, ap, ◌∙◌, subst, arith}
use Rattle.std.specs.List.{prefix_len, take_while}
use Rattle.std.proofs.lemmas.List.Folds.{length-prefix_len}
use Rattle.std.proofs.lemmas.Bool.{cond_both, false≢true}
use Rattle.cursor.specs.Scan.{walk}
use Rattle.cursor.specs.Runs.{inner}
use Rattle.cursor.proofs.Steps.{walk_plain}

-- a byte that is none of those
off : (b k : ℕ) → inner k ≡ false → inner b ≡ true → b ≡ k → ⊥
off b k n t e = false≢true (sym n ∙ subst (λ x. inner x ≡ true) e t)

walk_run : (i : ℕ) (s : List ℕ) → walk false (i + prefix_len inner s) (drop (prefix_len inner s) s) ≡ walk false i s
walk_run i [] = ap (λ j. walk false j []) (omega arith)
walk_run i (b ∷ s) =
    let n = prefix_len inner s in
    let one : 1 + n ≡ suc n = omega arith in
    cond_both (inner b) (1 + n) 0 (λ m. walk false (i + m) (drop m (b ∷ s)) ≡ walk false i (b ∷ s))
    (λ t.
    rw one (ap (λ j. walk false j (drop n s)) (omega arith) ∙ walk_run (i + 1) s
    ∙ walk_plain false i (i + 1) (b ∷ s) s (omega arith) (off b 32 refl t) (off b 58 refl t) (off b 124 refl t) (off b 10 refl t) (off b 36 refl t) refl refl))
    (λ _. ap (λ j. walk false j (b ∷ s)) (omega arith))

-- the same, by what is left and its place
pub walk_inner : (i j n : ℕ) (s t : List ℕ) → n ≡ length (take_while inner s) → j ≡ i + n → t ≡ drop n s → walk false j t ≡ walk false i s
walk_inner i j n s t m p q = rw (q, p, m ∙ length-prefix_len inner s) (walk_run i s)
