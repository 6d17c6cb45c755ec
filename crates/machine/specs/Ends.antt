-- What the machine's commands leave as they end, exactly. Assumes nothing.
use Rattle.std.specs.Prelude.{ℕ, ◌+◌, Bool, false, cond, not, ◌&&◌, List, [], ◌∷◌, length, is_some, Some, None, Ok, Err, Option, Result, ◌==◌, nat_lt, slice_index_or, slice_set}
use Rattle.std.specs.List.{remove, position_from}
use Rattle.host.specs.declared.Stamped.{Stamped}
use Rattle.host.specs.declared.Ended.{Ended}
use Rattle.host.specs.declared.Refusal.{Refusal}
use Rattle.host.specs.declared.Refusal.TheVariants.{BadCall}
use Rattle.host.specs.State.{Files, State, Command, at, no_command}
use Rattle.host.specs.Calls.{stamped}

-- files and the clock that stamps them
pub record Volume : Type 0 where
  pub files : Files
  pub clock : ℕ

-- whether a file is there and has this mark
abbrev pub has : Option Stamped → ℕ → Bool
has None m = false
has (Some x) m = x.mark == m

-- a mark comes into a file: the clock rises and stamps it; a file that has the mark is left alone unless all is rewritten
abbrev pub settled : Bool → Volume → ℕ → ℕ → Volume
settled rewrites v f m =
    cond (not rewrites && has (at v.files f) m) v (record { files = slice_set v.files f (stamped (v.clock + 1) m); clock = v.clock + 1 })

-- marks come into files, one after the other
abbrev pub all_settled : Bool → Volume → List ℕ → List ℕ → Volume
all_settled rewrites v [] ms = v
all_settled rewrites v (f ∷ fs) [] = v
all_settled rewrites v (f ∷ fs) (m ∷ ms) = all_settled rewrites (settled rewrites v f m) fs ms

-- files are removed; the clock stays
abbrev pub all_removed : Files → List ℕ → Files
all_removed fs [] = fs
all_removed fs (f ∷ rest) = all_removed (slice_set fs f None) rest

-- what a command of these outputs leaves: its marks, or after a failure no outputs
abbrev pub left_by : Bool → Volume → List ℕ → Option (List ℕ) → Volume
left_by rewrites v outs (Some ms) = all_settled rewrites v outs ms
left_by rewrites v outs None = record { files = all_removed v.files outs; clock = v.clock }

-- the files and the clock of a moment
abbrev pub volume_of : State → Volume
volume_of s = record { files = s.files; clock = s.clock }

-- a volume, with the commands but the one at a place
abbrev pub without : State → ℕ → Volume → State
without s k v = record { files = v.files; clock = v.clock; pending = remove s.pending k }

-- the command at a place has ended
abbrev pub finished : Bool → State → ℕ → State
finished rewrites s k = without s k (left_by rewrites (volume_of s) (slice_index_or s.pending k no_command).outputs (slice_index_or s.pending k no_command).outcome)

-- the command at a place is broken off
abbrev pub broken_at : State → ℕ → State
broken_at s k = without s k (left_by false (volume_of s) (slice_index_or s.pending k no_command).outputs None)

-- how the end of the command at a place is told
abbrev pub ending : State → ℕ → Ended
ending s k = record { edge = (slice_index_or s.pending k no_command).edge; good = is_some (slice_index_or s.pending k no_command).outcome }

-- the edge of the command at a place, if there is one
abbrev pub edge_in : List Command → ℕ → Option ℕ
edge_in cs k = cond (nat_lt k (length cs)) (Some (slice_index_or cs k no_command).edge) None

abbrev pub edge_here : State → ℕ → Option ℕ
edge_here s k = edge_in s.pending k

-- the place of the command of an edge, counted from i on
abbrev pub place_from : ℕ → List Command → ℕ → Option ℕ
place_from i cs e = position_from (λ (c : Command). c.edge == e) i cs

-- the place of the pending command of an edge
abbrev pub place_of : State → ℕ → Option ℕ
place_of s e = place_from 0 s.pending e

-- the command at a place, if there is one, is broken off
abbrev pub broken_by : State → Option ℕ → State
broken_by s None = s
broken_by s (Some k) = broken_at s k

-- the end of the command at a place, if there is one
abbrev pub ending_at : State → ℕ → Option Ended
ending_at s k = cond (nat_lt k (length s.pending)) (Some (ending s k)) None

-- the moment after it
abbrev pub finished_at : Bool → State → ℕ → State
finished_at rewrites s k = cond (nat_lt k (length s.pending)) (finished rewrites s k) s

-- whether a command was broken off; no edge is above 127
abbrev pub break_answer : State → ℕ → Result Bool Refusal
break_answer s e = cond (nat_lt 127 e) (Err BadCall) (Ok (is_some (place_of s e)))

-- the moment after a break-off
abbrev pub broken : State → ℕ → State
broken s e = cond (nat_lt 127 e) s (broken_by s (place_of s e))
