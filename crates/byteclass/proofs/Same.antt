-- Bytes that are no text are no word.
use Rattle.std.proofs.Common.{◌≡◌, ℕ, Bool, true, false, ◌&&◌, ltb, List, [], ◌∷◌, codes, IsUtf8, IsAscii, sym, refl, subst, ⊎_elim}
use Rattle.std.specs.Str.{bytes_eq}
use Rattle.std.proofs.lemmas.Str.{IsUtf8-from_ascii}
use Rattle.std.proofs.lemmas.Str.Ascii.{IsAscii-nil, IsAscii-cons}
use Rattle.std.proofs.lemmas.Slice.Eq.{bytes_eq-Decides}
use Rattle.std.proofs.lemmas.Bool.{cases_Bool, and_parts, ltb-true}
use Rattle.byteclass.specs.Words.{word_tests, rule_tests, pool_tests}
use Rattle.byteclass.specs.declared.words.Word.TheVariants.{Plain}

abbrev low : List ℕ → Bool
low [] = true
low (b ∷ s) = ltb b 128 && low s

low_ascii : (s : List ℕ) → low s ≡ true → IsAscii s
low_ascii [] e = IsAscii-nil
low_ascii (b ∷ s) e = let p = and_parts (ltb b 128) (low s) e in IsAscii-cons b s (ltb-true b 128 p.0) (low_ascii s p.1)

-- what is no text is no word of ASCII
no_word : (n w : List ℕ) → (IsUtf8 n → ⊥) → low w ≡ true → bytes_eq n w ≡ false
no_word n w none l =
    ⊎_elim (λ t. absurd (none (subst IsUtf8 (sym ((bytes_eq-Decides n w).0 t)) (IsUtf8-from_ascii w (low_ascii w l))))) (λ f. f) (cases_Bool (bytes_eq n w))

pub plain_word : (n : List ℕ) → (IsUtf8 n → ⊥) → Plain ≡ word_tests n
plain_word n none =
    rw (no_word n (codes "rule") none refl, no_word n (codes "pool") none refl, no_word n (codes "build") none refl, no_word n (codes "default") none refl, no_word n (codes "include") none refl, no_word n (codes "subninja") none refl)

pub not_in_rule : (n : List ℕ) → (IsUtf8 n → ⊥) → false ≡ rule_tests n
not_in_rule n none =
    rw (no_word n (codes "command") none refl, no_word n (codes "description") none refl, no_word n (codes "pool") none refl, no_word n (codes "restat") none refl)

pub not_in_pool : (n : List ℕ) → (IsUtf8 n → ⊥) → false ≡ pool_tests n
not_in_pool n none = sym (no_word n (codes "depth") none refl)
