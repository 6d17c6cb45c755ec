-- 32-bit FNV-1a, and the marks that commands make by it. Assumes nothing.
use Rattle.std.specs.Prelude.{ℕ, ◌*◌, ◌/◌, ◌%◌, Bool, true, false, cond, ◌&&◌, List, [], ◌∷◌, ◌++◌, map, Some, None, codes, ◌==◌, bit_xor}
use Rattle.std.specs.List.{range_with_len, flat_map, fold}
use Rattle.host.specs.Calls.{Makes}

-- one byte more: xor, then times 16,777,619, of which 32 bits stay
abbrev pub fnv_step : ℕ → ℕ → ℕ
fnv_step h b = (bit_xor h b * 16777619) % 4294967296

-- some bytes more
abbrev pub fnv_more : ℕ → List ℕ → ℕ
fnv_more h bs = fold fnv_step h bs

-- the hash of some bytes
abbrev pub fnv_1a : List ℕ → ℕ
fnv_1a bs = fnv_more 2166136261 bs

-- the four bytes of a mark, the low one first
abbrev pub low_first : ℕ → List ℕ
low_first m = (m % 256) ∷ (m / 256 % 256) ∷ (m / 65536 % 256) ∷ (m / 16777216 % 256) ∷ []

-- the command of a question: its bytes up to the first byte 0, or all
abbrev pub command_text : List ℕ → List ℕ
command_text [] = []
command_text (b ∷ bs) = cond (b == 0) [] (b ∷ command_text bs)

-- whether a text begins with another
abbrev pub begins : List ℕ → List ℕ → Bool
begins [] text = true
begins (b ∷ bs) [] = false
begins (b ∷ bs) (c ∷ cs) = c == b && begins bs cs

-- a question fails whose command begins with `fail`
abbrev pub fails : List ℕ → Bool
fails question = begins (codes "fail") (command_text question)

-- the mark of output j: the hash of the question, the read marks and byte j
abbrev pub mark_of : List ℕ → List ℕ → ℕ → ℕ
mark_of question reads j = fnv_1a (question ++ (flat_map low_first reads ++ (j ∷ [])))

-- what both hosts make of a question: a failure, or the marks of the outputs
abbrev pub hashes : Makes
hashes question reads n = cond (fails question) None (Some (map (mark_of question reads) (range_with_len 0 n)))
