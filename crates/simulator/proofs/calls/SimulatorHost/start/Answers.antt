use Rattle.std.proofs.Common.{◌≤◌, length, vec_items, sym, ◌∙◌, rules}
use Rattle.machine.specs.Machines.{state_of}
use Rattle.machine.specs.Fnv.{command_text}
use Rattle.simulator.proofs.Timed.{Timed, paired_length}
use Rattle.simulator.proofs.Kept.{start_bounds, start_timed}
use Rattle.simulator.proofs.calls.SimulatorHost.start.Goals as goal

pub overflow_add-tick : goal.overflow_add-tick
overflow_add-tick c =
    let b : (length (command_text c.args.job.question.now) ≤ 1024) × (c.args.self.now.tick ≤ 4200000000000) = search (rules, start_bounds) in
    let t = b.1 in
    let n = b.0 in
    search rules

pub invariant_of-self-2 : goal.invariant_of-self-2
invariant_of-self-2 c =
    let answer = c.in_ok-clock.ensures.answer in
    let after = c.start.ensures.after in
    let timed : Timed (record { host = state_of c.start.new.self; tick = c.args.self.now.tick; dues = vec_items c.push_reserved.new.self }) = search (rules, start_timed) in
    record {
      capacity = c.start.ensures.capacity ∙ c.args.self.now.capacity;
      room = search rules;
      paired = timed.paired;
      each = paired_length _ timed ∙ sym c.push_reserved.new.self.ok.0;
      current = timed.now;
      later = timed.later;
    }
