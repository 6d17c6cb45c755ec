-- What a call of a script answers, and what it does to the host. Assumes nothing.
use Rattle.std.specs.Prelude.{◌≡◌, ℕ, Bool, true, false, cond, Some, None, Ok, Err, Option, Result}
use Rattle.host.specs.declared.Ended.{Ended}
use Rattle.host.specs.declared.Refusal.{Refusal}
use Rattle.host.specs.declared.Stamped.{Stamped}
use Rattle.host.specs.State.{State}
use Rattle.host.specs.Calls.{Makes, command_of, started, written, Polls, BreaksOff}
use Rattle.host.specs.Refusals.{start_refusal, write_refusal, clock_answer, tell_answer}
use Rattle.hetunawa.specs.declared.answer.Answer.{Answer}
use Rattle.hetunawa.specs.declared.answer.Answer.TheVariants as answers
use Rattle.hetunawa.specs.Grammar.{Meant, write, remove, tell, clock, start, poll, break_off}

-- what the host's answer is called in a script
abbrev pub write_said : Result ℕ Refusal → Answer
write_said (Ok n) = answers.Written n
write_said (Err r) = answers.Refused r

abbrev pub remove_said : Result ℕ Refusal → Answer
remove_said (Ok n) = answers.Removed n
remove_said (Err r) = answers.Refused r

abbrev pub start_said : Result ℕ Refusal → Answer
start_said (Ok n) = answers.Started n
start_said (Err r) = answers.Refused r

abbrev pub tell_said : Result (Option Stamped) Refusal → Answer
tell_said (Ok None) = answers.Absent
tell_said (Ok (Some x)) = answers.Present x
tell_said (Err r) = answers.Refused r

abbrev pub poll_said : Option Ended → Answer
poll_said None = answers.NoEnding
poll_said (Some e) = cond e.good (answers.Good e.edge) (answers.Failed e.edge)

abbrev pub break_said : Result Bool Refusal → Answer
break_said (Ok true) = answers.BrokenOff
break_said (Ok false) = answers.NothingPending
break_said (Err r) = answers.Refused r

-- Of a host of this capacity and this `makes`: the call leads from one moment to the other, and this is its answer.
abbrev pub Performs : ℕ → Makes → Meant → State → Answer → State → Type 0
Performs capacity makes (write f m) s a t =
    (a ≡ write_said (clock_answer (write_refusal s f) s)) × (t ≡ written (write_refusal s f) s f (Some m))
Performs capacity makes (remove f) s a t =
    (a ≡ remove_said (clock_answer (write_refusal s f) s)) × (t ≡ written (write_refusal s f) s f None)
Performs capacity makes (tell f) s a t = (a ≡ tell_said (tell_answer s.files f)) × (t ≡ s)
Performs capacity makes clock s a t = (a ≡ answers.Clock s.clock) × (t ≡ s)
Performs capacity makes (start e q rs os) s a t =
    (a ≡ start_said (clock_answer (start_refusal capacity s e q rs os) s))
    × (t ≡ started (start_refusal capacity s e q rs os) s (command_of makes s e q rs os))
Performs capacity makes poll s a t = (r : Option Ended) × Polls s r t × (a ≡ poll_said r)
Performs capacity makes (break_off e) s a t = (r : Result Bool Refusal) × BreaksOff s e r t × (a ≡ break_said r)

-- The same of a line that is this call, or none.
abbrev pub Answers : ℕ → Makes → Option Meant → State → Answer → State → Type 0
Answers capacity makes None s a t = (a ≡ answers.NotUnderstood) × (t ≡ s)
Answers capacity makes (Some m) s a t = Performs capacity makes m s a t
