-- The machine's invariant through its calls.
use Rattle.std.proofs.Common.{◌≡◌, ℕ, ◌+◌, ◌<◌, ◌≤◌, Bool, true, false, cond, ltb, leb, List, [], ◌∷◌, ◌++◌, map, length, set, replicate, Some, None, Option, sym, refl, ap, ◌∙◌, subst, arith}
use Rattle.std.proofs.lemmas.List.{length-map, map_push}
use Rattle.std.proofs.lemmas.Bool.{or_parts, ltb-false, leb-false}
use Rattle.std.specs.Option.{option_map}
use Rattle.host.specs.declared.Refusal.{Refusal}
use Rattle.host.specs.declared.Refusal.TheVariants.{Busy, ClockSpent, BadCall}
use Rattle.host.specs.Refusals.{bad_start, clock_spent, start_refusal}
use Rattle.host.specs.State.{Files, State, Command, Lawful, pends}
use Rattle.host.specs.Calls.{placed, started, command_of, outcome_of, marks}
use Rattle.host.proofs.Keeps.{held, lawful_blank, lawful_write, lawful_start}
use Rattle.machine.specs.declared.command.Pending.{Pending}
use Rattle.machine.specs.Fnv.{hashes}
use Rattle.machine.specs.Ends.{Volume}
use Rattle.machine.specs.Pendings.{told, marks_from, state_from}
use Rattle.machine.specs.Outcomes.{hash_of}
use Rattle.machine.proofs.Outcomes.{outcome_kept}
use Rattle.machine.specs.declared.machine.Machine.{Machine}
use Rattle.machine.specs.Machines.{state_of, capacity_of}

-- the machine with another volume
abbrev pub state_on : Volume → List Pending → State
state_on v ps = state_from v.files v.clock ps

-- a Vec's count is that of the commands it means
pub each_counted : (ps : List Pending) (n : ℕ) → n ≡ length ps → length (map told ps) ≡ n
each_counted ps n e = length-map ps told ∙ sym e

pub new_lawful : (n : ℕ) (v : Volume) (ps : List Pending) → v ≡ record { files = replicate 256 None; clock = 0 } → ps ≡ [] → ∥ Lawful n (state_on v ps) ∥₁
new_lawful n v ps e q = ∣ subst (Lawful n) (sym (ap (λ (z : Volume). state_on z ps) e ∙ ap (λ (z : List Pending). state_on (record { files = replicate 256 None; clock = 0 }) z) q)) (lawful_blank n) ∣₁

pub write_lawful : (n : ℕ) (v u : Volume) (ps : List Pending) (f : ℕ) (m : Option ℕ) → u ≡ record { files = set v.files f (placed (v.clock + 1) m); clock = v.clock + 1 } → ∥ Lawful n (state_on v ps) ∥₁ → n ≤ 64 → v.clock ≤ 4000000000 → ∥ Lawful n (state_on u ps) ∥₁
write_lawful n v u ps f m e ok small t = ∣ subst (Lawful n) (sym (ap (λ (z : Volume). state_on z ps) e)) (lawful_write n (state_on v ps) f m (held ok) small t) ∣₁

pub write_clock : (v u : Volume) (f : ℕ) (m : Option ℕ) → u ≡ record { files = set v.files f (placed (v.clock + 1) m); clock = v.clock + 1 } → u.clock ≡ v.clock + 1
write_clock v u f m e = ap (λ (z : Volume). z.clock) e

-- what an accepted start may count on
pub record Accepted (n : ℕ) (s : State) (e : ℕ) (q : List ℕ) : Type 0 where
  pub edge : e ≤ 127
  pub off : pends s.pending e ≡ false
  pub few : length s.pending < n
  pub clock : s.clock ≤ 4000000000
  pub question : length q ≤ 1024

some_none : (r : Refusal) → ◌≡◌ {A = Option Refusal} (Some r) None → ⊥
some_none r e = let z : ◌≡◌ {A = ℕ} 0 1 = cc in omega arith

not_chosen : (b : Bool) (r : Refusal) (o : Option Refusal) → cond b (Some r) o ≡ None → (b ≡ false) × (o ≡ None)
not_chosen true r o h = absurd (some_none r h)
not_chosen false r o h = (refl, h)

pub accepted : (n : ℕ) (s : State) (e : ℕ) (q rs os : List ℕ) → start_refusal n s e q rs os ≡ None → Accepted n s e q
accepted n s e q rs os h =
    let bad = not_chosen (bad_start s e q rs os) BadCall _ h in
    let full = not_chosen (leb n (length s.pending)) Busy _ bad.1 in
    let spent = not_chosen (clock_spent s) ClockSpent None full.1 in
    let edge = or_parts (ltb 127 e) _ bad.0 in
    record {
      edge = ltb-false 127 e edge.0;
      off = (or_parts (pends s.pending e) _ edge.1).0;
      few = leb-false n (length s.pending) full.0;
      clock = ltb-false 4000000000 s.clock spent.0;
      question = ltb-false 1024 (length q) (or_parts (ltb 1024 (length q)) _ (or_parts (pends s.pending e) _ edge.1).1).0;
    }

-- the command that is kept is the one that the host means
told_started : (fs : Files) (t : ℕ) (ps : List Pending) (p : Pending) (q rs os : List ℕ) → p.outputs.items ≡ os → p.hash ≡ hash_of fs q rs → told p ≡ command_of hashes (state_from fs t ps) p.edge q rs os
told_started fs t ps p q rs os outputs_are hash_is =
    let k : option_map (marks_from (length p.outputs.items)) p.hash ≡ outcome_of hashes q (length os) (marks fs rs) = ap (λ (z : List ℕ). option_map (marks_from (length z)) p.hash) outputs_are ∙ ap (option_map (marks_from (length os))) hash_is ∙ outcome_kept fs q rs (length os) in
    λ i. record { edge = p.edge; outputs = outputs_are i; outcome = k i }

-- the clock has risen, and a command more is pending
start_state : (v u : Volume) (ps ps' : List Pending) (p : Pending) (c : Command) → u ≡ record { files = v.files; clock = v.clock + 1 } → ps' ≡ ps ++ (p ∷ []) → told p ≡ c → state_on u ps' ≡ started None (state_on v ps) c
start_state v u ps ps' p c rises e q =
    ap (λ (z : Volume). state_on z ps') rises
    ∙ ap (λ (z : List Command). record { files = v.files; clock = v.clock + 1; pending = z }) (ap (map told) e ∙ map_push told ps p ∙ ap (λ (z : Command). map told ps ++ (z ∷ [])) q)

pub admitted : (v u : Volume) (ps ps' : List Pending) (p : Pending) (q rs os : List ℕ) → u ≡ record { files = v.files; clock = v.clock + 1 } → ps' ≡ ps ++ (p ∷ []) → p.outputs.items ≡ os → p.hash ≡ hash_of v.files q rs → state_on u ps' ≡ started None (state_on v ps) (command_of hashes (state_on v ps) p.edge q rs os)
admitted v u ps ps' p q rs os rises e outputs_are hash_is = start_state v u ps ps' p _ rises e (told_started v.files v.clock ps p q rs os outputs_are hash_is)

pub start_lawful : (n : ℕ) (v u : Volume) (ps ps' : List Pending) (p : Pending) (q : List ℕ) → u ≡ record { files = v.files; clock = v.clock + 1 } → ps' ≡ ps ++ (p ∷ []) → ∥ Lawful n (state_on v ps) ∥₁ → n ≤ 64 → Accepted n (state_on v ps) p.edge q → ∥ Lawful n (state_on u ps') ∥₁
start_lawful n v u ps ps' p q rises e ok small a =
    ∣ subst (Lawful n) (sym (start_state v u ps ps' p (told p) rises e refl)) (lawful_start n (state_on v ps) (told p) (held ok) small a.edge a.off a.few a.clock) ∣₁

-- what a machine keeps
pub machine_lawful : (m : Machine) → Lawful (capacity_of m) (state_of m)
machine_lawful m = held m.lawful
