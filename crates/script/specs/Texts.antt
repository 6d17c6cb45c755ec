-- The lines of a script, and the words of a line. Assumes nothing.
use Rattle.std.specs.Prelude.{ℕ, Bool, true, false, cond, ◌&&◌, ◌||◌, List, [], ◌∷◌, ◌++◌, length, ◌==◌, nat_lt, slice_index}

-- a word in front of others; no bytes are no word
abbrev pub word_before : List ℕ → List (List ℕ) → List (List ℕ)
word_before [] ws = ws
word_before (b ∷ w) ws = (b ∷ w) ∷ ws

-- the words of what is left of a line, where these bytes of a word came before it
abbrev pub words_from : List ℕ → List ℕ → List (List ℕ)
words_from w [] = word_before w []
words_from w (b ∷ bs) = cond (b == 32) (word_before w (words_from [] bs)) (words_from (w ++ (b ∷ [])) bs)

-- the words of a line: what runs of spaces part
abbrev pub words_of : List ℕ → List (List ℕ)
words_of line = words_from [] line

-- the lines of what is left of a script, where these bytes of a line came before it; a last line needs no end
abbrev pub lines_from : List ℕ → List ℕ → List (List ℕ)
lines_from l [] = word_before l []
lines_from l (b ∷ bs) = cond (b == 10) (l ∷ lines_from [] bs) (lines_from (l ++ (b ∷ [])) bs)

-- the lines of a script, without their line ends
abbrev pub lines_of : List ℕ → List (List ℕ)
lines_of script = lines_from [] script

-- a comment begins with a `#` and a space
abbrev pub comment : List ℕ → Bool
comment line = nat_lt 1 (length line) && (slice_index line 0 == 35 && slice_index line 1 == 32)

abbrev pub wordless : List (List ℕ) → Bool
wordless [] = true
wordless (w ∷ ws) = false

-- a line that is passed over: a comment, or one without words
abbrev pub passed_over : List ℕ → Bool
passed_over line = comment line || wordless (words_of line)
