use Rattle.std.proofs.Common.{vec_items, sym, ◌∙◌, rules}
use Rattle.machine.specs.Machines.{state_of}
use Rattle.simulator.proofs.Timed.{Timed, paired_length}
use Rattle.simulator.proofs.Kept.{drop_timed}
use Rattle.simulator.proofs.calls.SimulatorHost.break_off.Goals as goal

pub invariant_of-self-in-Some : goal.invariant_of-self-in-Some
invariant_of-self-in-Some c =
    let answer = c.in_ok-was_pending.ensures.answer in
    let at = c.in-Some.ensures in
    let after = c.break_off.ensures.after in
    let timed : Timed (record { host = state_of c.break_off.new.self; tick = c.args.self.now.tick; dues = vec_items c.remove.new.self }) = search (rules, drop_timed) in
    record {
      capacity = c.break_off.ensures.capacity ∙ c.args.self.now.capacity;
      room = search rules;
      paired = timed.paired;
      each = paired_length _ timed ∙ sym c.remove.new.self.ok.0;
      current = timed.now;
      later = timed.later;
    }
