-- The refusals of a host and their numbers, and which call is refused with which. Assumes nothing.
use Rattle.std.specs.Prelude.{ℕ, ◌+◌, Bool, false, cond, ◌||◌, List, [], ◌∷◌, length, Some, None, Ok, Err, Option, Result, ◌==◌, nat_le, nat_lt}
use Rattle.std.specs.List.{list_any}
use Rattle.host.specs.declared.Refusal.{Refusal}
use Rattle.host.specs.declared.Refusal.TheVariants.{Busy, ClockSpent, BadCall}
use Rattle.host.specs.declared.Stamped.{Stamped}
use Rattle.host.specs.State.{Files, State, at, pends}

-- the number by which each refusal is known
abbrev pub number_of : Refusal → ℕ
number_of Busy = 26
number_of ClockSpent = 27
number_of BadCall = 28

-- whether a number stands in a list
abbrev pub holds_number : List ℕ → ℕ → Bool
holds_number fs f = list_any (λ g. g == f) fs

-- whether a list has a number twice
abbrev pub repeats : List ℕ → Bool
repeats [] = false
repeats (f ∷ fs) = holds_number fs f || repeats fs

-- whether a list names a file above 255
abbrev pub strays : List ℕ → Bool
strays fs = list_any (λ f. nat_lt 255 f) fs

-- whether a start is no lawful call: its edge above 127 or pending, a question over 1,024 bytes, over 64 reads, no outputs, over 8
-- or equal ones, a file above 255
abbrev pub bad_start : State → ℕ → List ℕ → List ℕ → List ℕ → Bool
bad_start s e question reads outputs =
    nat_lt 127 e || (pends s.pending e || (nat_lt 1024 (length question) || (nat_lt 64 (length reads) || (length outputs == 0
    || (nat_lt 8 (length outputs) || (strays reads || (strays outputs || repeats outputs)))))))

-- whether the clock has run so far that nothing more may start or be written from outside
abbrev pub clock_spent : State → Bool
clock_spent s = nat_lt 4000000000 s.clock

-- the first refusal that fits a start: 28, then 26, then 27
abbrev pub start_refusal : ℕ → State → ℕ → List ℕ → List ℕ → List ℕ → Option Refusal
start_refusal capacity s e question reads outputs =
    cond (bad_start s e question reads outputs) (Some BadCall)
    (cond (nat_le capacity (length s.pending)) (Some Busy)
    (cond (clock_spent s) (Some ClockSpent) None))

-- the first refusal that fits an outside write: 28, then 27
abbrev pub write_refusal : State → ℕ → Option Refusal
write_refusal s f = cond (nat_lt 255 f) (Some BadCall) (cond (clock_spent s) (Some ClockSpent) None)

-- an accepted start or outside write answers the risen clock
abbrev pub clock_answer : Option Refusal → State → Result ℕ Refusal
clock_answer None s = Ok (s.clock + 1)
clock_answer (Some r) s = Err r

-- what a view tells of a file number
abbrev pub tell_answer : Files → ℕ → Result (Option Stamped) Refusal
tell_answer fs f = cond (nat_lt 255 f) (Err BadCall) (Ok (at fs f))
