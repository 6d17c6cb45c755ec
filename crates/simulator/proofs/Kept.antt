-- The simulator's invariant after each call.
use Rattle.std.proofs.Common.{◌≡◌, ℕ, ◌+◌, ◌<◌, ◌≤◌, Bool, List, [], ◌∷◌, ◌++◌, length, get_or, vec_items, Some, None, Ok, Err, is_ok, is_some, ltb, inl, inr, Option, MatchOption, IfSome, sym, ap, ◌∙◌, subst, arith}
use Rattle.std.specs.List.{remove}
use Rattle.std.proofs.lemmas.List.{get_or_read}
use Rattle.std.proofs.lemmas.Bool.{cond-true, cond-false, lt-ltb, le-ltb, cases_lt, both_ways}
use Rattle.host.specs.declared.Ended.{Ended}
use Rattle.host.specs.declared.Refusal.{Refusal}
use Rattle.host.specs.declared.Refusal.TheVariants.{BadCall}
use Rattle.host.specs.Calls.{started, start_answer, after_start, command_of, Ends}
use Rattle.host.specs.Refusals.{start_refusal}
use Rattle.host.specs.State.{State}
use Rattle.host.proofs.Keeps.{answered}
use Rattle.host.proofs.Since.{later_poll}
use Rattle.machine.specs.Ends.{ending, ending_at, broken, broken_by, broken_at, place_of, break_answer}
use Rattle.machine.specs.Fnv.{hashes, command_text}
use Rattle.machine.specs.Machines.{capacity_of}
use Rattle.machine.proofs.Finishes.{ending_is, finish_ends, found_within}
use Rattle.machine.proofs.Hashes.{text_short}
use Rattle.machine.proofs.Laws.{accepted}
use Rattle.order.specs.Earliest.{Earliest}
use Rattle.simulator.specs.declared.due.Due.{Due}
use Rattle.simulator.specs.declared.simulator.Simulator.{Simulator}
use Rattle.simulator.specs.Dues.{by_due, no_due}
use Rattle.simulator.specs.Sims.{Sim, sim_started, DueFirst}
use Rattle.simulator.specs.Simulators.{sim_of, host_of}
use Rattle.simulator.proofs.Timed.{Timed, paired_at, paired_length, timed_start, timed_gone}

pub timed_of : (s : Simulator) → Timed (sim_of s)
timed_of s = record { paired = s.paired; now = s.current; later = s.later }

-- a command that was accepted
was_accepted : (s : Simulator) (e : ℕ) (q rs os : List ℕ) (clock : ℕ) → Ok clock ≡ start_answer (capacity_of s.machine) (host_of s) e q rs os → start_refusal (capacity_of s.machine) (host_of s) e q rs os ≡ None
was_accepted s e q rs os clock h = answered (start_refusal (capacity_of s.machine) (host_of s) e q rs os) (host_of s) clock h

-- has a short text, and the clock is far from its end
pub start_bounds : (s : Simulator) (e : ℕ) (q rs os : List ℕ) (clock : ℕ) → Ok clock ≡ start_answer (capacity_of s.machine) (host_of s) e q rs os → (length (command_text q) ≤ 1024) × (s.tick ≤ 4200000000000)
start_bounds s e q rs os clock h =
    let a = accepted (capacity_of s.machine) (host_of s) e q rs os (was_accepted s e q rs os clock h) in
    (omega (arith, text_short q, a.question), omega (arith, s.current, a.clock))

pub start_timed : (s : Simulator) (e : ℕ) (q rs os : List ℕ) (clock t : ℕ) (h : State) (ds : List Due) →
    Ok clock ≡ start_answer (capacity_of s.machine) (host_of s) e q rs os → h ≡ after_start (capacity_of s.machine) hashes (host_of s) e q rs os →
    ds ≡ vec_items s.dues ++ (record { tick = s.tick + t; edge = e } ∷ []) → t ≡ length (command_text q) → Timed (record { host = h; tick = s.tick; dues = ds })
start_timed s e q rs os clock t h ds answer after push bytes =
    let c = command_of hashes (host_of s) e q rs os in
    let host : h ≡ started None (host_of s) c = after ∙ ap (λ (r : Option Refusal). started r (host_of s) c) (was_accepted s e q rs os clock answer) in
    let same : sim_started None (sim_of s) c (length (command_text q)) ≡ record { host = h; tick = s.tick; dues = ds } =
    λ i. record { host = sym host i; tick = s.tick; dues = sym (push ∙ ap (λ (n : ℕ). vec_items s.dues ++ (record { tick = s.tick + n; edge = e } ∷ [])) bytes) i } in
    subst Timed same (timed_start (sim_of s) c (length (command_text q)) ((start_bounds s e q rs os clock answer).0) (timed_of s))

-- an edge whose break-off is not refused is small
small_edge : (s : State) (e : ℕ) (b : Bool) → Ok b ≡ break_answer s e → e ≤ 127
small_edge s e b h = elim (cases_lt 127 e) [
  | inl a ↦ absurd (both_ways (is_ok (break_answer s e)) (ap is_ok (cond-true (ltb 127 e) (Err BadCall) (Ok (is_some (place_of s e))) (lt-ltb 127 e a))) (sym (ap is_ok h)))
  | inr l ↦ l
]

drop_state : (s : State) (e k : ℕ) (h : State) → e ≤ 127 → Some k ≡ place_of s e → h ≡ broken s e → h ≡ broken_at s k
drop_state s e k h l at hs = hs ∙ cond-false (ltb 127 e) s (broken_by s (place_of s e)) (le-ltb 127 e l) ∙ ap (broken_by s) (sym at)

-- the command at a place ends
pub end_timed : (s : Simulator) (k : ℕ) (P : Type 0) (o : Option Ended) (h : State) (d : Due) (ds : List Due) → k < length (vec_items s.dues) → k < length (host_of s).pending →
    o ≡ ending_at (host_of s) k → h.pending ≡ remove (host_of s).pending k → MatchOption o P (λ e. Ends (host_of s) e h) →
    d ≡ get_or (vec_items s.dues) k d → ds ≡ remove (vec_items s.dues) k → Timed (record { host = h; tick = d.tick; dues = ds })
end_timed s k P o h d ds due within answer gone ends is e =
    let up = (later_poll (host_of s) (Some (ending (host_of s) k)) h (finish_ends P o (host_of s) h k within answer ends)).clock in
    let tick = ap (λ (x : Due). x.tick) (get_or_read (vec_items s.dues) k d due is no_due) in
    timed_gone (sim_of s) k h d.tick ds due gone e up (omega (arith, s.later k due)) (timed_of s)

-- the command at a place is broken off
pub drop_timed : (s : Simulator) (e k : ℕ) (b : Bool) (h : State) (ds : List Due) → Ok b ≡ break_answer (host_of s) e → Some k ≡ place_of (host_of s) e → h ≡ broken (host_of s) e →
    ds ≡ remove (vec_items s.dues) k → Timed (record { host = h; tick = s.tick; dues = ds })
drop_timed s e k b h ds answer at after gone =
    let host = drop_state (host_of s) e k h (small_edge (host_of s) e b answer) at after in
    timed_gone (sim_of s) k h s.tick ds (omega (arith, found_within (host_of s) e k at, paired_length (sim_of s) (timed_of s))) (ap (λ (z : State). z.pending) host) gone (omega (arith, ap (λ (z : State). z.clock) host)) s.current (timed_of s)

pub end_first : (s : Simulator) (k : ℕ) (o : Option Ended) (t : Sim) (d : Due) → k < length (vec_items s.dues) → k < length (host_of s).pending → o ≡ ending_at (host_of s) k → Earliest by_due (vec_items s.dues) k →
    d ≡ get_or (vec_items s.dues) k d → t.tick ≡ d.tick → IfSome o (λ e. DueFirst (sim_of s) e t)
end_first s k o t d due within answer first is tick =
    subst (λ (z : Option Ended). IfSome z (λ e. DueFirst (sim_of s) e t)) (sym (answer ∙ ending_is (host_of s) k within)) (record {
      place = k;
      first = first;
      edge = paired_at (sim_of s) k (timed_of s) due;
      tick = tick ∙ ap (λ (x : Due). x.tick) (get_or_read (vec_items s.dues) k d due is no_due);
    })
