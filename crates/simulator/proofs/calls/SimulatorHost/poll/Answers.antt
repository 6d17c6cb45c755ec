use Rattle.std.proofs.Common.{◌≡◌, ◌<◌, length, sym, refl, ◌∙◌, arith, rules}
use Rattle.std.specs.List.{remove}
use Rattle.machine.specs.Machines.{state_of}
use Rattle.simulator.specs.Simulators.{host_of}
use Rattle.simulator.proofs.Timed.{paired_length}
use Rattle.simulator.proofs.Kept.{end_timed, end_first}
use Rattle.simulator.proofs.calls.SimulatorHost.poll.Goals as goal

pub invariant_of-self : goal.invariant_of-self
invariant_of-self c =
    let self = c.args.self.now in
    let first = c.in_ok-place.ensures.first in
    let within : c.in_ok-place.place < length (host_of self).pending = omega (arith, first.within, self.each, self.dues.ok.0) in
    let gone : (state_of c.finish.new.self).pending ≡ remove (host_of self).pending c.in_ok-place.place = search rules in
    let timed = end_timed self _ _ _ _ _ _ first.within within c.finish.ensures.answer gone c.finish.ensures.ends c.remove.ensures.value c.remove.ensures.items in
    record {
      capacity = c.finish.ensures.capacity ∙ self.capacity;
      room = search rules;
      paired = timed.paired;
      each = paired_length _ timed ∙ sym c.remove.new.self.ok.0;
      current = timed.now;
      later = timed.later;
    }

pub returns-clause-first : goal.returns-clause-first
returns-clause-first c =
    let self = c.args.self.now in
    let first = c.in_ok-place.ensures.first in
    end_first self _ _ _ _ first.within (omega (arith, first.within, self.each, self.dues.ok.0)) c.finish.ensures.answer first c.remove.ensures.value refl
