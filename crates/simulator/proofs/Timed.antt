-- What the simulator's invariant says of its dues, through each call.
use Rattle.std.proofs.Common.{◌≡◌, ℕ, ◌+◌, ◌*◌, ◌<◌, ◌≤◌, List, [], ◌∷◌, ◌++◌, map, length, get_or, None, sym, ap, ◌∙◌, subst, inl, inr, arith}
use Rattle.std.specs.List.{remove}
use Rattle.std.proofs.lemmas.List.{length-map, length_push, map_push, get_or-map, get_or_push, get_or_append_left}
use Rattle.std.proofs.lemmas.List.Edits.{length-remove, get_or-remove_below, get_or-remove_above}
use Rattle.std.proofs.lemmas.Bool.{cases_lt}
use Rattle.host.specs.State.{State, Command, no_command}
use Rattle.host.proofs.Pends.{map_removed}
use Rattle.simulator.specs.declared.due.Due.{Due}
use Rattle.simulator.specs.Dues.{due_edge, no_due}
use Rattle.simulator.specs.Sims.{Sim, pending_edges, sim_started}

-- the dues are those of the pending commands, and no tick is past what the clock allows
pub record Timed (s : Sim) : Type 0 where
  pub paired : map due_edge s.dues ≡ pending_edges s.host
  pub now : s.tick ≤ 1024 * s.host.clock
  pub later : (k : ℕ) → k < length s.dues → (get_or s.dues k no_due).tick ≤ 1024 * s.host.clock

-- as many dues as commands
pub paired_length : (s : Sim) → Timed s → length s.host.pending ≡ length s.dues
paired_length s h = sym (length-map s.host.pending (λ (c : Command). c.edge)) ∙ ap length (sym h.paired) ∙ length-map s.dues due_edge

-- the due at a place is of the edge of the command there
pub paired_at : (s : Sim) (k : ℕ) → Timed s → k < length s.dues → (get_or s.dues k no_due).edge ≡ (get_or s.host.pending k no_command).edge
paired_at s k h l =
    sym (get_or-map due_edge s.dues k no_due 0 l) ∙ ap (λ (z : List ℕ). get_or z k 0) h.paired
    ∙ get_or-map (λ (c : Command). c.edge) s.host.pending k no_command 0 (omega (arith, paired_length s h))

-- an accepted start
pub timed_start : (s : Sim) (c : Command) (bytes : ℕ) → bytes ≤ 1024 → Timed s → Timed (sim_started None s c bytes)
timed_start s c bytes le h =
    let d : Due = record { tick = s.tick + bytes; edge = c.edge } in
    record {
      paired = map_push due_edge s.dues d ∙ ap (λ (z : List ℕ). z ++ (c.edge ∷ [])) h.paired ∙ sym (map_push (λ (c : Command). c.edge) s.host.pending c);
      now = omega (arith, h.now);
      later = λ k l. elim (cases_lt k (length s.dues)) [
        | inl a ↦ omega (arith, h.later k a, ap (λ (x : Due). x.tick) (get_or_append_left s.dues (d ∷ []) no_due k a))
        | inr b ↦ omega (arith, h.now, ap (λ (x : Due). x.tick) (get_or_push s.dues d no_due k (omega (arith, length_push s.dues d))))
      ];
    }

-- the command at a place is gone, and the clock has not fallen
pub timed_gone : (s : Sim) (k : ℕ) (t : State) (tick : ℕ) (ds : List Due) → k < length s.dues → t.pending ≡ remove s.host.pending k → ds ≡ remove s.dues k → s.host.clock ≤ t.clock → tick ≤ 1024 * s.host.clock → Timed s → Timed (record { host = t; tick = tick; dues = ds })
timed_gone s k t tick ds l p e up le h =
    let n = length-remove s.dues k l in
    let base : Timed (record { host = t; tick = tick; dues = remove s.dues k }) = record {
      paired = map_removed due_edge s.dues k ∙ ap (λ (z : List ℕ). remove z k) h.paired ∙ sym (map_removed (λ (c : Command). c.edge) s.host.pending k) ∙ ap (map (λ (c : Command). c.edge)) (sym p);
      now = omega arith;
      later = λ j lt. elim (cases_lt j k) [
        | inl a ↦ omega (arith, h.later j (omega arith), ap (λ (x : Due). x.tick) (get_or-remove_below s.dues k no_due j a l))
        | inr b ↦ omega (arith, h.later (j + 1) (omega arith), ap (λ (x : Due). x.tick) (get_or-remove_above s.dues k no_due j b l))
      ];
    } in
    subst (λ (z : List Due). Timed (record { host = t; tick = tick; dues = z })) (sym e) base
