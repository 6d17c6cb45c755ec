-- The bytes of a number in hexadecimal digits.
use Rattle.std.proofs.Common.{◌≡◌, ℕ, ◌/◌, ◌%◌, ◌≤◌, List, [], ◌∷◌, ◌++◌, drop, length, w32, sym, ap, ◌∙◌, append-nil, arith}
use Rattle.std.proofs.lemmas.List.{drop_all}
use Rattle.std.specs.Int.{to_be_bytes, byte_at}
use Rattle.std.specs.List.{flat_map}
use Rattle.listing.specs.Listing.{hex_digit, hex2, hex8}

-- a byte has the last two digits of its number
hex2_low : (b : ℕ) → hex2 (b % 256) ≡ hex2 b
hex2_low b =
    let p : b % 256 / 16 % 16 ≡ b / 16 % 16 = omega arith in
    let q : b % 256 % 16 ≡ b % 16 = omega arith in
    ap (λ x. hex_digit x ∷ hex_digit (b % 256 % 16) ∷ []) p ∙ ap (λ x. hex_digit (b / 16 % 16) ∷ hex_digit x ∷ []) q

-- the bytes of a number, the highest first
hex_bytes : (n : ℕ) → flat_map hex2 (to_be_bytes w32 n) ≡ hex8 n
hex_bytes n =
    ap (λ x. x ++ flat_map hex2 (byte_at 2 n ∷ byte_at 1 n ∷ byte_at 0 n ∷ [])) (hex2_low (n / 16777216))
    ∙ ap (λ x. hex2 (n / 16777216) ++ (x ++ flat_map hex2 (byte_at 1 n ∷ byte_at 0 n ∷ []))) (hex2_low (n / 65536))
    ∙ ap (λ x. hex2 (n / 16777216) ++ (hex2 (n / 65536) ++ (x ++ flat_map hex2 (byte_at 0 n ∷ [])))) (hex2_low (n / 256))
    ∙ ap (λ x. hex2 (n / 16777216) ++ (hex2 (n / 65536) ++ (hex2 (n / 256) ++ (x ++ [])))) (hex2_low n)

-- what a loop over the bytes of a number has put once none is left
pub hex_put : (n i : ℕ) (out was bs : List ℕ) → bs ≡ to_be_bytes w32 n → length bs ≤ i → out ++ flat_map hex2 (drop i bs) ≡ was ++ flat_map hex2 bs → out ≡ was ++ hex8 n
hex_put n i out was bs e l h =
    sym (append-nil out)
    ∙ (ap (λ x. out ++ flat_map hex2 x) (sym (drop_all i bs l)) ∙ (h ∙ (ap (λ x. was ++ flat_map hex2 x) e ∙ ap (λ x. was ++ x) (hex_bytes n))))
