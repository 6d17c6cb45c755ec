-- The words that have a meaning of their own.
use Rattle.std.specs.Prelude.{ℕ, Bool, cond, ◌||◌, List, codes}
use Rattle.std.specs.Str.{bytes_eq}
use Rattle.byteclass.specs.declared.words.Word.{Word}
use Rattle.byteclass.specs.declared.words.Word.TheVariants.{Rule, Pool, Build, LeftOut, Plain}

-- the statement that the name n begins at a line's start, tried word by word
abbrev pub word_tests : List ℕ → Word
word_tests n =
    cond (bytes_eq n (codes "rule")) Rule
    (cond (bytes_eq n (codes "pool")) Pool
    (cond (bytes_eq n (codes "build")) Build
    (cond (bytes_eq n (codes "default") || (bytes_eq n (codes "include") || bytes_eq n (codes "subninja"))) LeftOut Plain)))

-- the names that the block of a rule takes, tried one by one
abbrev pub rule_tests : List ℕ → Bool
rule_tests n =
    bytes_eq n (codes "command")
    || (bytes_eq n (codes "description") || (bytes_eq n (codes "pool") || bytes_eq n (codes "restat")))

-- the name that the block of a pool takes
abbrev pub pool_tests : List ℕ → Bool
pool_tests n = bytes_eq n (codes "depth")

-- the statement that the name n begins, shut to whoever only cites it
unfoldable pub word_of : List ℕ → Word
word_of n = word_tests n

-- the names that a rule's block takes, shut likewise
unfoldable pub rule_takes : List ℕ → Bool
rule_takes n = rule_tests n

-- the name that a pool's block takes, shut likewise
unfoldable pub pool_takes : List ℕ → Bool
pool_takes n = pool_tests n
