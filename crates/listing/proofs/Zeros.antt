-- Zeros in a hash.
use Rattle.std.proofs.Common.{◌≡◌, ℕ, zero, suc, ◌+◌, ◌*◌, ◌/◌, ◌%◌, ◌^◌, ◌<◌, List, [], ◌∷◌, ◌++◌, length, take, drop, replicate, sym, refl, ap, ◌∙◌, mod-eq_of_lt, mul_assoc, mul_comm, add-mul, pow-suc, mul-one, mul_right_comm, arith}
use native.Mathlib.Nat.{pow-zero, mod-add-div', add-mul-mod_self_right}
use lib.Bits.{bit_xor, xor_zero_r}
use Rattle.std.proofs.lemmas.List.{take-append-drop}
use Rattle.machine.specs.Fnv.{fnv_step, fnv_more, fnv_1a}

mod_mul : (a b m : ℕ) → (a % m * b) % m ≡ (a * b) % m
mod_mul a b m =
    sym (ap (λ (x : ℕ). (x * b) % m) (sym (mod-add-div' a m))
    ∙ ap (λ (x : ℕ). x % m) (add-mul (a % m) (a / m * m) b ∙ ap (λ (x : ℕ). a % m * b + x) (mul_right_comm (a / m) m b))
    ∙ add-mul-mod_self_right (a % m * b) (a / m * b) m)

mul_mod : (a b m : ℕ) → (a * (b % m)) % m ≡ (a * b) % m
mul_mod a b m = ap (λ (x : ℕ). x % m) (mul_comm a (b % m)) ∙ mod_mul b a m ∙ ap (λ (x : ℕ). x % m) (mul_comm b a)

-- zeros multiply a hash by a power of the prime
zeros_pow : (k h : ℕ) → h < 4294967296 → fnv_more h (replicate k 0) ≡ (h * 16777619 ^ k) % 4294967296
zeros_pow zero h l = sym (ap (λ (x : ℕ). (h * x) % 4294967296) (pow-zero 16777619) ∙ ap (λ (x : ℕ). x % 4294967296) (mul-one h) ∙ mod-eq_of_lt l)
zeros_pow (suc k) h l =
    zeros_pow k (fnv_step h 0) (omega arith)
    ∙ mod_mul (bit_xor h 0 * 16777619) (16777619 ^ k) 4294967296
    ∙ ap (λ (x : ℕ). (x * 16777619 * 16777619 ^ k) % 4294967296) (xor_zero_r h)
    ∙ ap (λ (x : ℕ). x % 4294967296) (mul_right_comm h 16777619 (16777619 ^ k) ∙ mul_assoc h (16777619 ^ k) 16777619 ∙ ap (λ (x : ℕ). h * x) (sym (pow-suc 16777619 k)))

pub zeros_hash : (k h p : ℕ) → h < 4294967296 → p ≡ 16777619 ^ k % 4294967296 → (h * p) % 4294967296 ≡ fnv_more h (replicate k 0)
zeros_hash k h p l e = ap (λ (x : ℕ). (h * x) % 4294967296) e ∙ mul_mod h (16777619 ^ k) 4294967296 ∙ sym (zeros_pow k h l)

-- the hash of some bytes and then others
hash_append : (h : ℕ) (s t : List ℕ) → fnv_more h (s ++ t) ≡ fnv_more (fnv_more h s) t
hash_append h [] t = refl
hash_append h (b ∷ s) t = hash_append (fnv_step h b) s t

-- the hash of a store in two parts, w and z, where zeros are the second
pub store_hash : (s w z : List ℕ) (n : ℕ) → w ≡ take n s → z ≡ drop n s → z ≡ replicate (length z) 0 → fnv_more (fnv_1a w) (replicate (length z) 0) ≡ fnv_1a s
store_hash s w z n p q e =
    ap (fnv_more (fnv_1a w)) (sym e)
    ∙ ap (λ x. fnv_more (fnv_1a x) z) p
    ∙ ap (fnv_more (fnv_1a (take n s))) q
    ∙ sym (hash_append 2166136261 (take n s) (drop n s))
    ∙ ap fnv_1a (take-append-drop n s)
