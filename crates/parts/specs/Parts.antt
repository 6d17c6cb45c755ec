-- Lists of paths, blocks, and the lines between statements.
use Rattle.std.specs.Prelude.{◌≡◌, ℕ, Bool, true, false, cond, List, [], ◌∷◌, map, Ok, Err, vec_items, Result, Vec}
use Rattle.std.specs.Borrow.{Bor}
use Rattle.std.specs.declared.alloc.Global.{Global}
use Rattle.byteclass.specs.Words.{rule_takes, pool_takes}
use Rattle.cursor.specs.Scan.{Out, ok, bad, and_then, spot, gap, name, byte, value, next_path, first_path, bar, pair, lead}
use Rattle.cursor.specs.declared.place.Cursor.{Cursor}
use Rattle.cursor.specs.declared.place.Fault.TheVariants.{Syntax, LeftOut}
use Rattle.cursor.specs.declared.place.Opens.{Opens}
use Rattle.cursor.specs.declared.place.Opens.TheVariants.{Nothing, Gap, Mark}
use Rattle.cursor.specs.declared.lines.Lead.{Lead}
use Rattle.cursor.specs.declared.lines.Lead.TheVariants.{Ends, Blank, Remark, Flush, Indented}
use Rattle.parts.specs.Many.{Turn, stop, more, repeat, each}
use Rattle.parts.specs.declared.refusal.Refusal.{Refusal}
use Rattle.parts.specs.declared.refusal.Refusal.TheVariants.{Faulty, Memory}
use Rattle.parts.specs.declared.kinds.Binding.{Binding}
use Rattle.parts.specs.declared.kinds.Block.{Block}
use Rattle.parts.specs.declared.kinds.Block.TheVariants.{Rule, Pool, Build}
use Rattle.parts.specs.declared.kinds.Outputs.{Outputs}
use Rattle.parts.specs.declared.kinds.Inputs.{Inputs}
use Rattle.parts.specs.declared.blocks.Line.{Line}
use Rattle.parts.specs.declared.blocks.Line.TheVariants.{Last, Skip, Sets}

-- a call that found no memory may answer so at any text; else e is the fault of o
abbrev pub Stops : {B : Type 0} → Refusal → Out B → Type 0
Stops (Faulty f) o = bad f ≡ o
Stops Memory o = Unit {0}

-- what a call that allocates answered, with where it left the reader, is o
abbrev pub Tells : {A B : Type 0} → (A → B) → Result A Refusal → Cursor → Out B → Type 0
Tells f (Ok a) d o = ok (f a) d.at d.rest.now ≡ o
Tells f (Err e) d o = Stops e o

-- a name and its value
pub record Entry : Type 0 where
  pub name : List ℕ
  pub value : List ℕ

-- the entry that a binding holds
abbrev pub entry_of : Binding → Entry
entry_of b = record { name = b.name.now; value = b.value.now }

-- paths of a list that go on after those in ps
abbrev pub paths : List (List ℕ) → ℕ → List ℕ → Out (List (List ℕ))
paths ps i s = repeat (each next_path) ps i s

-- a list with at least one path
abbrev pub some_paths : ℕ → List ℕ → Out (List (List ℕ))
some_paths i s = and_then (first_path i s) (λ p j r. paths (p ∷ []) j r)

-- a list if its mark stood before it
abbrev pub list_if : Bool → ℕ → List ℕ → Out (List (List ℕ))
list_if true i s = paths [] i s
list_if false i s = ok [] i s

-- after a list with a mark of its own no longer mark can follow
abbrev pub open_after : Bool → Opens
open_after true = Nothing
open_after false = Mark

-- the last list, if its mark m stood before it, and the byte k that ends the lists
abbrev pub last_list : ℕ → Bool → ℕ → List ℕ → Out (List (List ℕ))
last_list k m i s =
    and_then (list_if m i s) (λ ps j1 r1. and_then (byte k (open_after m) j1 r1) (λ _ j2 r2. ok ps j2 r2))

-- the lists of outputs
pub record Outs : Type 0 where
  pub explicit : List (List ℕ)
  pub implicit : List (List ℕ)

-- the lists of inputs
pub record Ins : Type 0 where
  pub explicit : List (List ℕ)
  pub implicit : List (List ℕ)
  pub order_only : List (List ℕ)
  pub validations : List (List ℕ)

-- OUTS | OUTS :
abbrev pub outputs : ℕ → List ℕ → Out Outs
outputs i s =
    and_then (some_paths i s) (λ es j1 r1.
    and_then (bar j1 r1) (λ m j2 r2.
    and_then (last_list 58 m j2 r2) (λ is j3 r3. ok (record { explicit = es; implicit = is }) j3 r3)))

-- INS | INS || INS |@ FILES and the line's end
abbrev pub inputs : ℕ → List ℕ → Out Ins
inputs i s =
    and_then (paths [] i s) (λ es j1 r1.
    and_then (bar j1 r1) (λ m j2 r2.
    and_then (list_if m j2 r2) (λ is j3 r3.
    and_then (pair 124 j3 r3) (λ n j4 r4.
    and_then (list_if n j4 r4) (λ os j5 r5.
    and_then (pair 64 j5 r5) (λ l j6 r6.
    and_then (last_list 10 l j6 r6) (λ vs j7 r7.
    ok (record { explicit = es; implicit = is; order_only = os; validations = vs }) j7 r7)))))))

-- the paths that a vector of parts holds
abbrev pub paths_of : Vec (Bor (List ℕ)) Global → List (List ℕ)
paths_of v = map (λ x. x.now) (vec_items v)

-- the outputs that the code's struct holds
abbrev pub outs_of : Outputs → Outs
outs_of o = record { explicit = paths_of o.explicit; implicit = paths_of o.implicit }

-- the inputs that the code's struct holds
abbrev pub ins_of : Inputs → Ins
ins_of o =
    record { explicit = paths_of o.explicit; implicit = paths_of o.implicit; order_only = paths_of o.order_only; validations = paths_of o.validations }

-- what follows the name n in NAME = VALUE, with the line's end
abbrev pub set_to : List ℕ → ℕ → List ℕ → Out Entry
set_to n i s =
    and_then (gap i s) (λ _ j1 r1.
    and_then (byte 61 Gap j1 r1) (λ _ j2 r2.
    and_then (gap j2 r2) (λ _ j3 r3.
    and_then (value j3 r3) (λ v j4 r4.
    and_then (byte 10 Nothing j4 r4) (λ _ j5 r5. ok (record { name = n; value = v }) j5 r5)))))

-- the block takes a variable of the name n
abbrev pub takes : Block → List ℕ → Bool
takes Rule n = rule_takes n
takes Pool n = pool_takes n
takes Build n = true

-- the name n, which stood at i, in a block
abbrev pub set_in : Block → List ℕ → ℕ → ℕ → List ℕ → Out Entry
set_in b n i j r = cond (takes b n) (set_to n j r) (bad (LeftOut (spot i)))

-- a line of a block after its first spaces
abbrev pub setting : Block → ℕ → List ℕ → Out Entry
setting b i s = and_then (gap i s) (λ _ j1 r1. and_then (name Gap j1 r1) (λ n j2 r2. set_in b n j1 j2 r2))

-- what a line means for the block that is open
abbrev pub block_line : Block → Lead → ℕ → List ℕ → Out (Turn Entry)
block_line b Ends i s = ok stop i s
block_line b Blank i s = ok stop i s
block_line b Flush i s = ok stop i s
block_line b Remark i s = ok (more []) i s
block_line b Indented i s = and_then (setting b i s) (λ e j r. ok (more (e ∷ [])) j r)

-- the next line of a block
abbrev pub block_turn : Block → ℕ → List ℕ → Out (Turn Entry)
block_turn b i s = and_then (lead i s) (λ l j r. block_line b l j r)

-- the lines of a block
abbrev pub block : Block → ℕ → List ℕ → Out (List Entry)
block b i s = repeat (block_turn b) [] i s

-- what a line of a block came out as
abbrev pub turn_in : Line → Turn Entry
turn_in Last = stop
turn_in Skip = more []
turn_in (Sets b) = more (entry_of b ∷ [])

-- what a line means where no block is open
abbrev pub between : Lead → ℕ → List ℕ → Out (Turn (Unit {0}))
between Ends i s = ok stop i s
between Flush i s = ok stop i s
between Blank i s = ok (more []) i s
between Remark i s = ok (more []) i s
between Indented i s = bad (Syntax (spot i))

-- the next line between statements
abbrev pub skip_turn : ℕ → List ℕ → Out (Turn (Unit {0}))
skip_turn i s = and_then (lead i s) between

-- the lines before a statement, or before the end
abbrev pub skipped : ℕ → List ℕ → Out (List (Unit {0}))
skipped i s = repeat skip_turn [] i s

-- whether a line was passed
abbrev pub passed : Bool → Turn (Unit {0})
passed true = more []
passed false = stop
