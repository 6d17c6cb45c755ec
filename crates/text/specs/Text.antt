-- Statements, and the whole manifest.
use Rattle.std.specs.Prelude.{◌≡◌, ℕ, ◌+◌, cond, List, [], ◌∷◌, map, length, Some, None, Ok, Err, vec_items, Option, Result, Vec, nat_lt}
use Rattle.std.specs.declared.alloc.Global.{Global}
use Rattle.byteclass.specs.Class.{banned_byte}
use Rattle.byteclass.specs.Words.{word_of}
use Rattle.byteclass.specs.declared.words.Word.{Word}
use Rattle.byteclass.specs.declared.words.Word.TheVariants.{Rule, Pool, Build, LeftOut, Plain}
use Rattle.cursor.specs.Scan.{Out, ok, bad, and_then, spot, gap, name, byte}
use Rattle.cursor.specs.declared.place.Cursor.{Cursor}
use Rattle.cursor.specs.declared.place.Fault.{Fault}
use Rattle.cursor.specs.declared.place.Fault.TheVariants.{TooLong, Banned, LeftOut as LeftOutAt}
use Rattle.cursor.specs.declared.place.Opens.TheVariants.{Nothing, Gap}
use Rattle.parts.specs.Many.{repeat, each}
use Rattle.parts.specs.Parts.{Entry, entry_of, Outs, outs_of, outputs, Ins, ins_of, inputs, set_to, block, skipped}
use Rattle.parts.specs.declared.refusal.Refusal.{Refusal}
use Rattle.parts.specs.declared.refusal.Refusal.TheVariants.{Faulty, Memory}
use Rattle.parts.specs.declared.kinds.Binding.{Binding}
use Rattle.parts.specs.declared.kinds.Block.{Block}
use Rattle.parts.specs.declared.kinds.Block.TheVariants.{Rule as RuleBlock, Pool as PoolBlock, Build as BuildBlock}
use Rattle.text.specs.declared.kinds.Declared.{Declared}
use Rattle.text.specs.declared.kinds.Edge.{Edge}
use Rattle.text.specs.declared.kinds.Body.{Body}
use Rattle.text.specs.declared.kinds.Body.TheVariants.{Variable, Rule as RuleBody, Pool as PoolBody, Build as BuildBody}
use Rattle.text.specs.declared.kinds.Statement.{Statement}

-- a rule or a pool: its name and the lines of its block
pub record Head : Type 0 where
  pub name : List ℕ
  pub lines : List Entry

-- a build statement: its lists of paths, its rule, and the lines of its block
pub record Work : Type 0 where
  pub outs : Outs
  pub rule : List ℕ
  pub ins : Ins
  pub lines : List Entry

-- what a statement says
pub data Said : Type 0 where
  variable : Entry → Said
  rule : Head → Said
  pool : Head → Said
  build : Work → Said

-- a statement and the place of its first byte
pub record Stated : Type 0 where
  pub place : ℕ
  pub says : Said

-- the lines that a vector of bindings holds
abbrev pub lines_of : Vec Binding Global → List Entry
lines_of v = map entry_of (vec_items v)

-- the rule or pool that the code's struct holds
abbrev pub head_of : Declared → Head
head_of d = record { name = d.name.now; lines = lines_of d.lines }

-- the build statement that the code's struct holds
abbrev pub work_of : Edge → Work
work_of e =
    record { outs = outs_of e.outputs; rule = e.rule.now; ins = ins_of e.inputs; lines = lines_of e.lines }

-- what the code's enum says
abbrev pub said_of : Body → Said
said_of (Variable b) = variable (entry_of b)
said_of (RuleBody d) = rule (head_of d)
said_of (PoolBody d) = pool (head_of d)
said_of (BuildBody e) = build (work_of e)

-- the statement that the code's struct holds
abbrev pub stated_of : Statement → Stated
stated_of x = record { place = x.place.byte; says = said_of x.body }

-- after `rule` or `pool`: the name, the line's end and the block
abbrev pub declared : Block → ℕ → List ℕ → Out Head
declared b i s =
    and_then (gap i s) (λ _ j1 r1.
    and_then (name Gap j1 r1) (λ n j2 r2.
    and_then (gap j2 r2) (λ _ j3 r3.
    and_then (byte 10 Gap j3 r3) (λ _ j4 r4.
    and_then (block b j4 r4) (λ ls j5 r5. ok (record { name = n; lines = ls }) j5 r5)))))

-- after `build`: outputs, the rule's name, inputs and the block
abbrev pub edge : ℕ → List ℕ → Out Work
edge i s =
    and_then (outputs i s) (λ os j1 r1.
    and_then (gap j1 r1) (λ _ j2 r2.
    and_then (name Gap j2 r2) (λ n j3 r3.
    and_then (inputs j3 r3) (λ is j4 r4.
    and_then (block BuildBlock j4 r4) (λ ls j5 r5. ok (record { outs = os; rule = n; ins = is; lines = ls }) j5 r5)))))

-- what follows the name n, which stands at i in the first column and is the word w
abbrev pub by_word : Word → List ℕ → ℕ → ℕ → List ℕ → Out Said
by_word Plain n i j r = and_then (set_to n j r) (λ e k t. ok (variable e) k t)
by_word Rule n i j r = and_then (declared RuleBlock j r) (λ d k t. ok (rule d) k t)
by_word Pool n i j r = and_then (declared PoolBlock j r) (λ d k t. ok (pool d) k t)
by_word Build n i j r = and_then (edge j r) (λ e k t. ok (build e) k t)
by_word LeftOut n i j r = bad (LeftOutAt (spot i))

-- a statement, which begins in the first column
abbrev pub statement : ℕ → List ℕ → Out Said
statement i s = and_then (name Nothing i s) (λ n j r. by_word (word_of n) n i j r)

-- a statement, unless the manifest ends here
abbrev pub at_start : ℕ → List ℕ → Out (Option Stated)
at_start i [] = ok None i []
at_start i (b ∷ s) = and_then (statement i (b ∷ s)) (λ x j r. ok (Some (record { place = i; says = x })) j r)

-- the next statement, if there is one
unfoldable pub next : ℕ → List ℕ → Out (Option Stated)
next i s = and_then (skipped i s) (λ _ j r. at_start j r)

-- all statements
abbrev pub statements : ℕ → List ℕ → Out (List Stated)
statements i s = repeat (each next) [] i s

-- the first byte, from place i on, that no manifest may hold
abbrev pub first_banned : ℕ → List ℕ → Option Fault
first_banned i [] = None
first_banned i (b ∷ s) = cond (banned_byte b) (Some (Banned (spot i))) (first_banned (i + 1) s)

-- faults of all bytes, which come before any other
abbrev pub checked : List ℕ → Option Fault
checked s = cond (nat_lt 65535 (length s)) (Some TooLong) (first_banned 0 s)

-- o, unless there is a fault that comes before
abbrev pub unless : {A : Type 0} → Option Fault → Out A → Out A
unless None o = o
unless (Some f) o = bad f

-- what a whole text comes to
abbrev pub manifest_of : List ℕ → Out (List Stated)
manifest_of s = unless (checked s) (statements 0 s)

-- the fault of a check that was refused
abbrev pub refused_by : Result (Unit {0}) Fault → Option Fault
refused_by (Ok u) = None
refused_by (Err f) = Some f

-- o comes to the statements xs
abbrev pub Comes : Out (List Stated) → List Stated → Type 0
Comes (ok ys j r) xs = ys ≡ xs
Comes (bad f) xs = ⊥

-- what `manifest` answered is o; where memory fails it may answer so at any text
abbrev pub Answers : Result (Vec Statement Global) Refusal → Out (List Stated) → Type 0
Answers (Ok v) o = Comes o (map stated_of (vec_items v))
Answers (Err (Faulty f)) o = bad f ≡ o
Answers (Err Memory) o = Unit {0}

-- a refused call leaves the reader as it was
abbrev pub Kept : {A : Type 0} → Result A Refusal → Cursor → Cursor → Type 0
Kept (Ok a) c d = Unit {0}
Kept (Err e) c d = d ≡ c
