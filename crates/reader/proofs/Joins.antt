-- Paths put one after the other.
use Rattle.std.proofs.Common.{◌≡◌, ℕ, ◌-◌, ◌<◌, List, [], ◌∷◌, ◌++◌, length, get_or, take, drop, Ok, Err, vec_items, Result, Vec, sym, refl, ap, ◌∙◌, append_assoc, append-nil, arith}
use Rattle.std.proofs.lemmas.List.{take_rest}
use Rattle.std.specs.List.{flat_map}
use Rattle.std.specs.declared.alloc.AllocError.{AllocError}
use Rattle.std.specs.declared.alloc.Global.{Global}
use Rattle.graph.specs.Data.{FileData, path_at}
use Rattle.graph.specs.Question.{ended}
use Rattle.reader.specs.Values.{spaced, paths_at}
use Rattle.reader.specs.Told.{Puts, Asks}

pub then_two : (x y z a b : List ℕ) → y ≡ x ++ a → z ≡ y ++ b → z ≡ x ++ (a ++ b)
then_two x y z a b h k = k ∙ ap (λ w. w ++ b) h ∙ append_assoc x a b

pub then_puts : (r : Result (Unit {0}) AllocError) (x y z : Vec ℕ Global) (a b w : List ℕ) → vec_items y ≡ vec_items x ++ a → Puts r y z b → w ≡ a ++ b → Puts r x z w
then_puts (Ok u) x y z a b w h k e = then_two (vec_items x) (vec_items y) (vec_items z) a b h k ∙ ap (λ v. vec_items x ++ v) (sym e)
then_puts (Err e) x y z a b w h k q = tt

-- each path with a space before it, and nothing after it
behind_map : (ps : List (List ℕ)) → flat_map (λ q. 32 ∷ q) ps ≡ flat_map (λ q. 32 ∷ (q ++ [])) ps
behind_map [] = refl
behind_map (p ∷ ps) = ap (λ x. 32 ∷ (x ++ flat_map (λ q. 32 ∷ q) ps)) (sym (append-nil p)) ∙ ap (λ x. 32 ∷ ((p ++ []) ++ x)) (behind_map ps)

pub spaced_first : (fs : List FileData) (ns : List ℕ) → 0 < length ns → spaced (paths_at fs ns) ≡ path_at fs (get_or ns 0 0) ++ flat_map (λ q. 32 ∷ (q ++ [])) (paths_at fs (take (length ns - 1) (drop 1 ns)))
spaced_first fs [] h = absurd (omega arith)
spaced_first fs (n ∷ ns) h = rw (take_rest (n ∷ ns) 1) (ap (λ x. path_at fs n ++ x) (behind_map (paths_at fs ns)))

-- each path with a byte 0 after it, put by a map
ended_map : (ps : List (List ℕ)) → flat_map (λ p. p ++ 0 ∷ []) ps ≡ ended ps
ended_map [] = refl
ended_map (p ∷ ps) = append_assoc p (0 ∷ []) (flat_map (λ q. q ++ 0 ∷ []) ps) ∙ ap (λ x. p ++ 0 ∷ x) (ended_map ps)

pub asks_all : (r : Result (Unit {0}) AllocError) (a b c d e : Vec ℕ Global) (rs os : List (List ℕ)) → vec_items b ≡ vec_items a ++ 0 ∷ [] → vec_items c ≡ vec_items b ++ flat_map (λ p. p ++ 0 ∷ []) rs → vec_items d ≡ vec_items c ++ 0 ∷ [] → Puts r d e (flat_map (λ p. p ++ 0 ∷ []) os) → Asks r a e rs os
asks_all (Ok u) a b c d e rs os p q s t =
    t ∙ rw (s, q, p) (simp append_assoc (ap (λ x. vec_items a ++ 0 ∷ (x ++ 0 ∷ flat_map (λ p. p ++ 0 ∷ []) os)) (ended_map rs) ∙ ap (λ y. vec_items a ++ 0 ∷ (ended rs ++ 0 ∷ y)) (ended_map os)))
asks_all (Err x) a b c d e rs os p q s t = tt
