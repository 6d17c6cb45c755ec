-- The first byte that no manifest may hold, by its place.
use Rattle.std.proofs.Common.{◌≡◌, ℕ, zero, suc, ◌+◌, ◌<◌, true, false, List, [], ◌∷◌, length, get_or, Some, None, sym, ap, ◌∙◌, arith}
use Rattle.std.specs.List.{position}
use Rattle.std.proofs.lemmas.List.Quantifiers.{position-Some}
use Rattle.byteclass.specs.Class.{banned_byte}
use Rattle.cursor.specs.Scan.{spot}
use Rattle.cursor.specs.declared.place.Fault.TheVariants.{Banned}
use Rattle.cursor.proofs.Steps.{position_none}
use Rattle.text.specs.Text.{first_banned}
use Rattle.text.proofs.Law.{clean_none}

banned_at : (i n : ℕ) (s : List ℕ) → n < length s → banned_byte (get_or s n 0) ≡ true → ((k : ℕ) → k < n → banned_byte (get_or s k 0) ≡ false) → Some (Banned (spot (i + n))) ≡ first_banned i s
banned_at i n [] h t f = absurd (omega arith)
banned_at i zero (b ∷ s) h t f = rw t (ap (λ j. Some (Banned (spot j))) (omega arith))
banned_at i (suc n) (b ∷ s) h t f =
    rw (f 0 (omega arith)) (ap (λ j. Some (Banned (spot j))) (omega arith) ∙ banned_at (i + 1) n s (omega arith) t (λ k g. f (suc k) (omega arith)))

pub banned_found : (n : ℕ) (s : List ℕ) → position banned_byte s ≡ Some n → Some (Banned (spot n)) ≡ first_banned 0 s
banned_found n s e =
    let h = position-Some banned_byte s n 0 e in
    ap (λ j. Some (Banned (spot j))) (omega arith) ∙ banned_at 0 n s h.0 h.1 h.2

pub banned_none : (s : List ℕ) → position banned_byte s ≡ None → None ≡ first_banned 0 s
banned_none s e = sym (clean_none 0 s (position_none banned_byte s e))
