-- What every step of every host keeps: a file not written since is as it was. Assumes nothing.
use Rattle.std.specs.Prelude.{◌≡◌, ℕ, zero, suc, ◌<◌, ◌≤◌, Bool, ◌⊎◌, List, [], ◌∷◌, Some, None, Option, Result}
use Rattle.host.specs.declared.Stamped.{Stamped}
use Rattle.host.specs.declared.Ended.{Ended}
use Rattle.host.specs.declared.Refusal.{Refusal}
use Rattle.host.specs.State.{State, at}
use Rattle.host.specs.Calls.{Makes, after_start, after_write, Polls, BreaksOff}

-- one call on a host of this capacity, with what it was given and what it answered
pub data Call : Type 0 where
  start : ℕ → List ℕ → List ℕ → List ℕ → Call
  poll : Option Ended → Call
  break_off : ℕ → Result Bool Refusal → Call
  write : ℕ → Option ℕ → Call

-- the call leads from one moment to the other, as the promises of a host say it
abbrev pub Step : ℕ → Makes → Call → State → State → Type 0
Step capacity makes (start e q rs os) s t = t ≡ after_start capacity makes s e q rs os
Step capacity makes (poll r) s t = Polls s r t
Step capacity makes (break_off e r) s t = BreaksOff s e r t
Step capacity makes (write f m) s t = t ≡ after_write s f m

-- the calls, one after the other, lead from one moment to the other
abbrev pub Steps : ℕ → Makes → List Call → State → State → Type 0
Steps capacity makes [] s t = t ≡ s
Steps capacity makes (c ∷ cs) s t = (u : State) × Step capacity makes c s u × Steps capacity makes cs u t

-- the edges below n are broken off, by number
abbrev pub BreaksBelow : ℕ → State → State → Type 0
BreaksBelow zero s t = t ≡ s
BreaksBelow (suc n) s t = (u : State) × (r : Result Bool Refusal) × BreaksBelow n s u × BreaksOff u n r t

-- Of two moments of a host, the later against the earlier: the clock has not fallen, and each file is as it was, absent, or
-- stamped above the earlier clock.
abbrev pub Since : ℕ → Option Stamped → Option Stamped → Type 0
Since t x None = Unit {0}
Since t x (Some y) = (x ≡ Some y) ⊎ (t < y.stamp)

pub record Later (s t : State) : Type 0 where
  pub clock : s.clock ≤ t.clock
  pub files : (f : ℕ) → Since s.clock (at s.files f) (at t.files f)

-- No calls in any order on any host change a file and leave it with a stamp that the earlier clock had reached.
abbrev pub UnwrittenKept : Type 0
UnwrittenKept = (capacity : ℕ) (makes : Makes) (cs : List Call) (s t : State) → Steps capacity makes cs s t → Later s t
