-- A list of file numbers has one twice if the number at some place stands again after it.
use Rattle.std.proofs.Common.{◌≡◌, ℕ, ◌+◌, ◌-◌, ◌<◌, ◌≤◌, Bool, ◌||◌, List, [], ◌∷◌, length, take, drop, sym, refl, ap, ◌∙◌, arith, length-drop}
use Rattle.std.proofs.lemmas.List.{drop_more, take_rest}
use Rattle.std.specs.List.{list_any, enumerate_from}
use Rattle.host.specs.Refusals.{holds_number, repeats}

-- whether the file at a place stands again after it; what is after it is as `&files[place + 1..]` has it
abbrev pub again : List ℕ → ℕ × ℕ → Bool
again fs p = holds_number (take (length fs - (p.0 + 1)) (drop (p.0 + 1) fs)) p.1

again_from : (fs rest : List ℕ) (i : ℕ) → rest ≡ drop i fs → i ≤ length fs → list_any (again fs) (enumerate_from i rest) ≡ repeats rest
again_from fs [] i e l = refl
again_from fs (f ∷ rest) i e l =
    let n : i < length fs = omega (arith, ap length e, length-drop i fs) in
    let later : rest ≡ drop (i + 1) fs = ap tail_of (e ∙ drop_more fs i f n) in
    ap (λ (z : List ℕ). holds_number z f || list_any (again fs) (enumerate_from (i + 1) rest)) (take_rest fs (i + 1) ∙ sym later)
    ∙ ap (λ (b : Bool). holds_number rest f || b) (again_from fs rest (i + 1) later (omega arith)) where
      tail_of : List ℕ → List ℕ
      tail_of [] = []
      tail_of (x ∷ xs) = xs

pub repeats_again : (fs : List ℕ) → list_any (again fs) (enumerate_from 0 fs) ≡ repeats fs
repeats_again fs = again_from fs fs 0 refl (omega arith)
