-- What each call of a host does to its meaning: an equation where the rules decide, a relation where the host does. Assumes nothing.
use Rattle.std.specs.Prelude.{◌≡◌, ℕ, ◌+◌, ◌<◌, ◌≤◌, Bool, true, false, ◌⊎◌, List, [], ◌∷◌, ◌++◌, length, is_some, Some, None, Ok, Err, Option, Result, slice_index_or, slice_set}
use Rattle.std.specs.List.{remove}
use Rattle.host.specs.declared.Stamped.{Stamped}
use Rattle.host.specs.declared.Ended.{Ended}
use Rattle.host.specs.declared.Refusal.{Refusal}
use Rattle.host.specs.declared.Refusal.TheVariants.{BadCall}
use Rattle.host.specs.State.{Files, State, Command, at, pends, no_command}
use Rattle.host.specs.Refusals.{start_refusal, write_refusal, clock_answer}

-- the function that a host's commands work out: question, marks of the reads, count of outputs; a failure or one mark each
abbrev pub Makes : Type 0
Makes = List ℕ → List ℕ → ℕ → Option (List ℕ)

-- a mark put in front of others, none if one is absent
abbrev pub with_mark : Option Stamped → Option (List ℕ) → Option (List ℕ)
with_mark None ms = None
with_mark (Some x) None = None
with_mark (Some x) (Some ms) = Some (x.mark ∷ ms)

-- the present marks of files, none if one is absent
abbrev pub marks : Files → List ℕ → Option (List ℕ)
marks fs [] = Some []
marks fs (f ∷ rest) = with_mark (at fs f) (marks fs rest)

-- what comes of a question on these read marks; a failure where a read is absent
abbrev pub outcome_of : Makes → List ℕ → ℕ → Option (List ℕ) → Option (List ℕ)
outcome_of makes question n None = None
outcome_of makes question n (Some ms) = makes question ms n

-- the command that a start of now leads to
abbrev pub command_of : Makes → State → ℕ → List ℕ → List ℕ → List ℕ → Command
command_of makes s e question reads outputs =
    record { edge = e; outputs = outputs; outcome = outcome_of makes question (length outputs) (marks s.files reads) }

-- accepted, the clock rises by 1 and the command pends; refused, nothing changes
abbrev pub started : Option Refusal → State → Command → State
started None s c = record { files = s.files; clock = s.clock + 1; pending = s.pending ++ (c ∷ []) }
started (Some r) s c = s

-- a file that is present
abbrev pub stamped : ℕ → ℕ → Option Stamped
stamped t m = Some (record { stamp = t; mark = m })

-- the file is there and has this mark
abbrev pub Holds : Option Stamped → ℕ → Type 0
Holds None m = ⊥
Holds (Some x) m = x.mark ≡ m

-- an output after success: written with the risen clock as its stamp, or untouched if it had its mark
abbrev pub Wrote : Files → ℕ → ℕ → ℕ → Files → ℕ → Type 0
Wrote fs t f m fs' t' =
    ((fs' ≡ slice_set fs f (stamped (t + 1) m)) × (t' ≡ t + 1)) ⊎ (Holds (at fs f) m × (fs' ≡ fs) × (t' ≡ t))

-- an output after failure: untouched, absent, or written with some mark
abbrev pub Ruined : Files → ℕ → ℕ → Files → ℕ → Type 0
Ruined fs t f fs' t' =
    ((fs' ≡ fs) × (t' ≡ t)) ⊎ (((fs' ≡ slice_set fs f None) × (t' ≡ t)) ⊎ ((m : ℕ) × (fs' ≡ slice_set fs f (stamped (t + 1) m)) × (t' ≡ t + 1)))

-- all outputs after success, one after the other
abbrev pub AllWrote : Files → ℕ → List ℕ → List ℕ → Files → ℕ → Type 0
AllWrote fs t [] [] fs' t' = (fs' ≡ fs) × (t' ≡ t)
AllWrote fs t [] (m ∷ ms) fs' t' = ⊥
AllWrote fs t (f ∷ outs) [] fs' t' = ⊥
AllWrote fs t (f ∷ outs) (m ∷ ms) fs' t' = (fs₁ : Files) × (t₁ : ℕ) × Wrote fs t f m fs₁ t₁ × AllWrote fs₁ t₁ outs ms fs' t'

-- all outputs after failure
abbrev pub AllRuined : Files → ℕ → List ℕ → Files → ℕ → Type 0
AllRuined fs t [] fs' t' = (fs' ≡ fs) × (t' ≡ t)
AllRuined fs t (f ∷ outs) fs' t' = (fs₁ : Files) × (t₁ : ℕ) × Ruined fs t f fs₁ t₁ × AllRuined fs₁ t₁ outs fs' t'

-- what a command leaves as it ends
abbrev pub Leaves : State → List ℕ → Option (List ℕ) → State → Type 0
Leaves s outs (Some ms) s' = AllWrote s.files s.clock outs ms s'.files s'.clock
Leaves s outs None s' = AllRuined s.files s.clock outs s'.files s'.clock

-- one pending command, the host's choice, ends and is answered: good unless it comes to a failure
pub record Ends (s : State) (e : Ended) (s' : State) : Type 0 where
  pub place : ℕ
  pub within : place < length s.pending
  pub edge : e.edge ≡ (slice_index_or s.pending place no_command).edge
  pub good : e.good ≡ is_some (slice_index_or s.pending place no_command).outcome
  pub rest : s'.pending ≡ remove s.pending place
  pub leaves : Leaves s (slice_index_or s.pending place no_command).outputs (slice_index_or s.pending place no_command).outcome s'

-- a poll answers none, and changes nothing, where nothing is pending
abbrev pub Polls : State → Option Ended → State → Type 0
Polls s None s' = (s.pending ≡ []) × (s' ≡ s)
Polls s (Some e) s' = Ends s e s'

-- the command of the edge is removed, with its outputs as after failure
pub record Breaks (s : State) (e : ℕ) (s' : State) : Type 0 where
  pub place : ℕ
  pub within : place < length s.pending
  pub edge : (slice_index_or s.pending place no_command).edge ≡ e
  pub rest : s'.pending ≡ remove s.pending place
  pub leaves : AllRuined s.files s.clock (slice_index_or s.pending place no_command).outputs s'.files s'.clock

-- a break-off is refused above edge 127; else it answers whether a command was pending, and touches nothing if not
abbrev pub BreaksOff : State → ℕ → Result Bool Refusal → State → Type 0
BreaksOff s e (Ok true) s' = (e ≤ 127) × Breaks s e s'
BreaksOff s e (Ok false) s' = (e ≤ 127) × (pends s.pending e ≡ false) × (s' ≡ s)
BreaksOff s e (Err r) s' = (127 < e) × (r ≡ BadCall) × (s' ≡ s)

-- a mark with this stamp, or absence
abbrev pub placed : ℕ → Option ℕ → Option Stamped
placed t None = None
placed t (Some m) = stamped t m

-- an outside write: the clock rises by 1, and the file gets the mark with that stamp or is removed
abbrev pub written : Option Refusal → State → ℕ → Option ℕ → State
written None s f m = record { files = slice_set s.files f (placed (s.clock + 1) m); clock = s.clock + 1; pending = s.pending }
written (Some r) s f m = s

-- what a start answers on a host of this capacity, and the moment after it
abbrev pub start_answer : ℕ → State → ℕ → List ℕ → List ℕ → List ℕ → Result ℕ Refusal
start_answer capacity s e question reads outputs = clock_answer (start_refusal capacity s e question reads outputs) s

abbrev pub after_start : ℕ → Makes → State → ℕ → List ℕ → List ℕ → List ℕ → State
after_start capacity makes s e question reads outputs =
    started (start_refusal capacity s e question reads outputs) s (command_of makes s e question reads outputs)

-- what an outside write answers, and the moment after it
abbrev pub write_answer : State → ℕ → Result ℕ Refusal
write_answer s f = clock_answer (write_refusal s f) s

abbrev pub after_write : State → ℕ → Option ℕ → State
after_write s f m = written (write_refusal s f) s f m
