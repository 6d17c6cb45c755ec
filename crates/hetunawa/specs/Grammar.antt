-- Which call the words of a line are, but for a start. Assumes nothing.
use Rattle.std.specs.Prelude.{ℕ, List, [], ◌∷◌, Some, None, vec_items, Option}
use Rattle.std.specs.Option.{option_map}
use Rattle.hetunawa.specs.declared.call.Call.{Call}
use Rattle.hetunawa.specs.declared.call.Call.TheVariants as calls
use Rattle.hetunawa.specs.declared.verb.Verb.{Verb}
use Rattle.hetunawa.specs.declared.verb.Verb.TheVariants as verbs
use Rattle.script.specs.Decimals.{decimal_of, mark_of, file_of}

-- what a call means: its numbers, its lists, its text
pub data Meant : Type 0 where
  write : ℕ → ℕ → Meant
  remove : ℕ → Meant
  tell : ℕ → Meant
  clock : Meant
  start : ℕ → List ℕ → List ℕ → List ℕ → Meant
  poll : Meant
  break_off : ℕ → Meant

abbrev pub meaning : Call → Meant
meaning (calls.Write f m) = write f m
meaning (calls.Remove f) = remove f
meaning (calls.Tell f) = tell f
meaning calls.Clock = clock
meaning (calls.Start c) = start c.edge (vec_items c.question) (vec_items c.reads) (vec_items c.outputs)
meaning calls.Poll = poll
meaning (calls.BreakOff e) = break_off e

abbrev pub and_then : {X Y : Type 0} → Option X → (X → Option Y) → Option Y
and_then None f = None
and_then (Some x) f = f x

-- the word of a list that has one word
abbrev pub only : List (List ℕ) → Option (List ℕ)
only [] = None
only (w ∷ []) = Some w
only (w ∷ (v ∷ ws)) = None

-- a call with nothing behind its verb; with a file; with an edge; with a file and a mark
abbrev pub bare_call : Meant → List (List ℕ) → Option Meant
bare_call m [] = Some m
bare_call m (w ∷ ws) = None

abbrev pub file_call : (ℕ → Meant) → List (List ℕ) → Option Meant
file_call make ws = option_map make (and_then (only ws) file_of)

abbrev pub edge_call : (ℕ → Meant) → List (List ℕ) → Option Meant
edge_call make ws = option_map make (and_then (only ws) decimal_of)

abbrev pub marked_call : (ℕ → ℕ → Meant) → List (List ℕ) → Option Meant
marked_call make [] = None
marked_call make (w ∷ ws) = and_then (file_of w) (λ f. option_map (make f) (and_then (only ws) mark_of))

-- the call of a verb and the words behind it; a start has another form
abbrev pub short_call_of : Verb → List (List ℕ) → Option Meant
short_call_of verbs.Write ws = marked_call write ws
short_call_of verbs.Remove ws = file_call remove ws
short_call_of verbs.Tell ws = file_call tell ws
short_call_of verbs.Clock ws = bare_call clock ws
short_call_of verbs.Start ws = None
short_call_of verbs.Poll ws = bare_call poll ws
short_call_of verbs.BreakOff ws = edge_call break_off ws
