-- The lines that tell a whole graph.
use Rattle.std.specs.Prelude.{◌≡◌, ℕ, suc, ◌+◌, ◌/◌, ◌%◌, Bool, true, cond, not, ◌&&◌, List, [], ◌∷◌, ◌++◌, Some, None, Ok, Err, vec_items, codes, decimal, Option, Result, Vec, ◌==◌, nat_le, nat_lt}
use Rattle.std.specs.declared.alloc.AllocError.{AllocError}
use Rattle.std.specs.declared.alloc.Global.{Global}
use Rattle.graph.specs.Data.{FileData, PoolData, EdgeData}
use Rattle.machine.specs.Fnv.{fnv_1a, command_text}

-- a hexadecimal digit, in lower case: what stands for d below 16
abbrev pub hex_digit : ℕ → ℕ
hex_digit d = cond (nat_lt d 10) (48 + d) (87 + d)

-- the last two hexadecimal digits of a number
abbrev pub hex2 : ℕ → List ℕ
hex2 n = hex_digit (n / 16 % 16) ∷ hex_digit (n % 16) ∷ []

-- eight hexadecimal digits
abbrev pub hex8 : ℕ → List ℕ
hex8 n = hex2 (n / 16777216) ++ (hex2 (n / 65536) ++ (hex2 (n / 256) ++ hex2 n))

-- a byte that stands for itself: from 32 to 126, and no backslash
abbrev pub plain_byte : ℕ → Bool
plain_byte b = nat_le 32 b && (nat_le b 126 && not (b == 92))

-- any other byte: a backslash is doubled, the rest are told by two digits after `\x`
abbrev pub escaped : ℕ → List ℕ
escaped b = cond (b == 92) (92 ∷ 92 ∷ []) (92 ∷ 120 ∷ hex2 b)

-- a path, a name or a text, byte by byte
abbrev pub shown : List ℕ → List ℕ
shown [] = []
shown (b ∷ s) = cond (plain_byte b) (b ∷ []) (escaped b) ++ shown s

-- whether each byte passes a test
abbrev pub every : (ℕ → Bool) → List ℕ → Bool
every test [] = true
every test (b ∷ s) = test b && every test s

-- how many plain bytes a text begins with
abbrev pub plain_len : List ℕ → ℕ
plain_len [] = 0
plain_len (b ∷ s) = cond (plain_byte b) (suc (plain_len s)) 0

-- a text after a space, and nothing for an empty one
abbrev pub spaced : List ℕ → List ℕ
spaced [] = []
spaced (b ∷ s) = (32 ∷ []) ++ shown (b ∷ s)

-- numbers, each after a space
abbrev pub numbers : List ℕ → List ℕ
numbers [] = []
numbers (n ∷ ns) = ((32 ∷ []) ++ decimal n) ++ numbers ns

-- the edge that makes a file
abbrev pub maker_shown : Option ℕ → List ℕ
maker_shown None = codes " source"
maker_shown (Some e) = codes " made " ++ decimal e

-- the line of the file n: who makes it, and its path
abbrev pub file_line : ℕ → FileData → List ℕ
file_line n f = codes "file " ++ (decimal n ++ (maker_shown f.maker ++ (spaced f.path ++ codes "\n")))

-- the line of the pool n: its depth and its name
abbrev pub pool_line : ℕ → PoolData → List ℕ
pool_line n p = codes "pool " ++ (decimal n ++ (codes " depth " ++ (decimal p.depth ++ (spaced p.name ++ codes "\n"))))

-- a pool by its number, and `-` for none
abbrev pub pool_shown : Option ℕ → List ℕ
pool_shown None = codes "-"
pool_shown (Some p) = decimal p

-- whether an edge is restat, to the line's end
abbrev pub restat_shown : Bool → List ℕ
restat_shown b = cond b (codes " restat yes\n") (codes " restat no\n")

-- how a line of the edge n begins: its number and the line's subject
abbrev pub subject : ℕ → List ℕ → List ℕ
subject n what = codes "edge " ++ (decimal n ++ what)

-- the line of the edge n that tells where it stands, its pool, and whether it is restat
abbrev pub place_line : ℕ → EdgeData → List ℕ
place_line n e = subject n (codes " at ") ++ (decimal e.place ++ (codes " pool " ++ (pool_shown e.pool ++ restat_shown e.restat)))

-- the line of the edge n that tells how many of its outputs, and of its reads, are explicit
abbrev pub explicit_line : ℕ → EdgeData → List ℕ
explicit_line n e = subject n (codes " explicit ") ++ (decimal e.explicit_outputs ++ (codes " " ++ (decimal e.explicit_reads ++ codes "\n")))

-- a line of the edge n that tells files by number
abbrev pub files_line : ℕ → List ℕ → List ℕ → List ℕ
files_line n what files = subject n what ++ (numbers files ++ codes "\n")

-- a line of the edge n that tells a text
abbrev pub text_line : ℕ → List ℕ → List ℕ → List ℕ
text_line n what text = subject n what ++ (spaced text ++ codes "\n")

-- the eight lines of the edge n
abbrev pub edge_lines : ℕ → EdgeData → List ℕ
edge_lines n e =
    place_line n e
    ++ (explicit_line n e
    ++ (files_line n (codes " outputs") e.outputs
    ++ (files_line n (codes " reads") e.reads
    ++ (files_line n (codes " order-only") e.order_only
    ++ (files_line n (codes " validations") e.validations
    ++ (text_line n (codes " description") e.description
    ++ text_line n (codes " command") (command_text e.question)))))))

-- the byte 0
abbrev pub zero_byte : ℕ → Bool
zero_byte b = b == 0

-- the line of the store: how many of its bytes are used, and the hash of them all
abbrev pub store_line : ℕ → List ℕ → List ℕ
store_line used store = codes "store " ++ (decimal used ++ (codes " fnv " ++ (hex8 (fnv_1a store) ++ codes "\n")))

-- the lines of things by number, from n on
abbrev pub counted : {X : Type 0} → (ℕ → X → List ℕ) → ℕ → List X → List ℕ
counted line n [] = []
counted line n (x ∷ xs) = line n x ++ counted line (n + 1) xs

-- the lines of a graph: files, pools, edges, and the store
abbrev pub listing_of : List FileData → List PoolData → List EdgeData → ℕ → List ℕ → List ℕ
listing_of files pools edges used store = counted file_line 0 files ++ (counted pool_line 0 pools ++ (counted edge_lines 0 edges ++ store_line used store))

-- the line of a refusal: its number and its place
abbrev pub refusal_line : ℕ → ℕ → List ℕ
refusal_line number place = codes "refused " ++ (decimal number ++ (codes " at " ++ (decimal place ++ codes "\n")))

-- a call that puts w after what is there, if there is memory
abbrev pub Puts : Result (Unit {0}) AllocError → Vec ℕ Global → Vec ℕ Global → List ℕ → Type 0
Puts (Ok u) a b w = vec_items b ≡ vec_items a ++ w
Puts (Err e) a b w = Unit {0}

-- a call that makes w, if there is memory
abbrev pub Shows : Result (Vec ℕ Global) AllocError → List ℕ → Type 0
Shows (Ok v) w = vec_items v ≡ w
Shows (Err e) w = Unit {0}
