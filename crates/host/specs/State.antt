-- What a host means: its files, its clock, its pending commands; and what holds of them at every moment. Assumes nothing.
use Rattle.std.specs.Prelude.{◌≡◌, ℕ, ◌+◌, ◌*◌, ◌<◌, ◌≤◌, Bool, List, [], length, Some, None, Option, ◌==◌, ◌≢◌, slice_index_or}
use Rattle.std.specs.List.{list_any}
use Rattle.host.specs.declared.Stamped.{Stamped}

-- the files by number: absent, or a stamp and a mark
abbrev pub Files : Type 0
Files = List (Option Stamped)

-- a started command: its edge, its outputs, and what it comes to, a failure or one mark for each output
pub record Command : Type 0 where
  pub edge : ℕ
  pub outputs : List ℕ
  pub outcome : Option (List ℕ)

-- a host at one moment; its commands pend in the order in which they started
pub record State : Type 0 where
  pub files : Files
  pub clock : ℕ
  pub pending : List Command

-- what stands at a file number; past the last file it is absent
abbrev pub at : Files → ℕ → Option Stamped
at fs f = slice_index_or fs f None

-- whether a command of this edge is pending
abbrev pub pends : List Command → ℕ → Bool
pends cs e = list_any (λ (c : Command). c.edge == e) cs

-- what a read past the end of the pending commands gives
abbrev pub no_command : Command
no_command = record { edge = 0; outputs = []; outcome = None }

-- the edge of the command at a place
abbrev pub edge_at : List Command → ℕ → ℕ
edge_at cs k = (slice_index_or cs k no_command).edge

-- each stamp lies between 1 and the clock
abbrev pub Stamps : Files → ℕ → Type 0
Stamps fs t = (f : ℕ) (x : Stamped) → at fs f ≡ Some x → (1 ≤ x.stamp) × (x.stamp ≤ t)

-- pending commands are of edges up to 127
abbrev pub Small : List Command → Type 0
Small cs = (k : ℕ) → k < length cs → edge_at cs k ≤ 127

-- and no two are of one edge
abbrev pub Distinct : List Command → Type 0
Distinct cs = (j k : ℕ) → j < k → k < length cs → edge_at cs j ≢ edge_at cs k

-- what holds of a host of this capacity at every moment
pub record Lawful (capacity : ℕ) (s : State) : Type 0 where
  pub count : length s.files ≡ 256
  pub stamps : Stamps s.files s.clock
  pub few : length s.pending ≤ capacity
  pub small : Small s.pending
  pub distinct : Distinct s.pending
  pub room : s.clock + 8 * length s.pending ≤ 4000000513
  deriving IsProp as lawful_prop
