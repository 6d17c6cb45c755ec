-- An edge's question: the command, the paths that it reads and the paths that it writes, as one text.
use Rattle.std.specs.Prelude.{ℕ, Bool, false, cond, ◌||◌, List, [], ◌∷◌, ◌++◌, ◌==◌}

-- each path, and a byte 0 after it
abbrev pub ended : List (List ℕ) → List ℕ
ended [] = []
ended (p ∷ ps) = p ++ 0 ∷ ended ps

-- the command and a byte 0, the read paths, a byte 0, the output paths
abbrev pub question_of : List ℕ → List (List ℕ) → List (List ℕ) → List ℕ
question_of c rs os = c ++ 0 ∷ (ended rs ++ 0 ∷ ended os)

-- the bytes before the first byte 0
abbrev pub command_of : List ℕ → List ℕ
command_of [] = []
command_of (b ∷ s) = cond (b == 0) [] (b ∷ command_of s)

-- x stands among the numbers
abbrev pub holds : ℕ → List ℕ → Bool
holds x [] = false
holds x (y ∷ ys) = x == y || holds x ys
