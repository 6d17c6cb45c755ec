-- What people are shown of a manifest.
use Rattle.std.specs.Prelude.{◌≡◌, ℕ, cond, List, [], ◌∷◌, ◌++◌, Ok, Err, vec_items, codes, decimal, Result, Vec, ◌==◌}
use Rattle.std.specs.declared.alloc.AllocError.{AllocError}
use Rattle.std.specs.declared.alloc.Global.{Global}
use Rattle.cursor.specs.Scan.{Out, ok, bad, numbered}
use Rattle.cursor.specs.declared.place.Fault.{Fault}
use Rattle.parts.specs.Parts.{Entry}
use Rattle.text.specs.Text.{Head, Work, Said, variable, rule, pool, build, Stated}

-- a line end within a part is shown as a space
abbrev pub shown_byte : ℕ → ℕ
shown_byte b = cond (b == 10) 32 b

-- a part of the manifest
abbrev pub shown : List ℕ → List ℕ
shown [] = []
shown (b ∷ s) = shown_byte b ∷ shown s

-- parts, each after a space
abbrev pub words : List (List ℕ) → List ℕ
words [] = []
words (p ∷ ps) = (32 ∷ []) ++ (shown p ++ words ps)

-- parts after their mark, if there are any
abbrev pub marked : List ℕ → List (List ℕ) → List ℕ
marked m [] = []
marked m (p ∷ ps) = m ++ words (p ∷ ps)

-- the names that a block sets
abbrev pub names : List Entry → List (List ℕ)
names [] = []
names (e ∷ es) = e.name ∷ names es

-- a rule or a pool
abbrev pub head_shown : List ℕ → Head → List ℕ
head_shown kind h = kind ++ (shown h.name ++ marked (codes " with") (names h.lines))

-- a build statement
abbrev pub work_shown : Work → List ℕ
work_shown w =
    codes "build"
    ++ (words w.outs.explicit
    ++ (marked (codes " |") w.outs.implicit
    ++ (codes ": "
    ++ (shown w.rule
    ++ (words w.ins.explicit
    ++ (marked (codes " |") w.ins.implicit
    ++ (marked (codes " ||") w.ins.order_only
    ++ (marked (codes " |@") w.ins.validations
    ++ marked (codes " with") (names w.lines)))))))))

-- a statement's kind and names
abbrev pub said_shown : Said → List ℕ
said_shown (variable e) = codes "variable " ++ shown e.name
said_shown (rule h) = head_shown (codes "rule ") h
said_shown (pool h) = head_shown (codes "pool ") h
said_shown (build w) = work_shown w

-- a statement: its place, its kind and its names
abbrev pub line_of : Stated → List ℕ
line_of x = decimal x.place ++ (codes " " ++ (said_shown x.says ++ codes "\n"))

-- a fault: its number and its place
abbrev pub fault_line : Fault → List ℕ
fault_line f = codes "refused " ++ (decimal (numbered f).0 ++ (codes " at " ++ (decimal (numbered f).1 ++ codes "\n")))

-- the lines of statements
abbrev pub lines_shown : List Stated → List ℕ
lines_shown [] = []
lines_shown (x ∷ xs) = line_of x ++ lines_shown xs

-- what a whole text is shown as
abbrev pub outline_of : Out (List Stated) → List ℕ
outline_of (ok xs j r) = lines_shown xs
outline_of (bad f) = fault_line f

-- a call that puts w after what is there, if there is memory
abbrev pub Puts : Result (Unit {0}) AllocError → Vec ℕ Global → Vec ℕ Global → List ℕ → Type 0
Puts (Ok u) a b w = vec_items b ≡ vec_items a ++ w
Puts (Err e) a b w = Unit {0}

-- a call that makes w, if there is memory
abbrev pub Shows : Result (Vec ℕ Global) AllocError → List ℕ → Type 0
Shows (Ok v) w = vec_items v ≡ w
Shows (Err e) w = Unit {0}
