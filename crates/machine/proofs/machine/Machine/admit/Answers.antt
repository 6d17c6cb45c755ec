use Rattle.std.proofs.Common.{vec_items, ap, arith, rules}
use Rattle.machine.specs.Ends.{Volume}
use Rattle.machine.specs.Disks.{volume}
use Rattle.machine.specs.Machines.{state_of}
use Rattle.machine.proofs.Laws.{accepted, admitted, each_counted, start_lawful}
use Rattle.machine.proofs.machine.Machine.admit.Goals as goal

pub invariant_of-self : goal.invariant_of-self
invariant_of-self c =
    let self = c.args.self.now in
    let a = accepted self.capacity (state_of self) c.args.job.edge c.args.job.question.now c.args.job.reads.now c.args.job.outputs.now c.requires in
    let n = c.push_reserved.ensures.len in
    let t = ap (λ (v : Volume). v.clock) c.rise.ensures in
    record {
      small = self.small;
      room = search rules;
      few = omega (arith, n, a.few, self.each);
      clock = omega (arith, n, t, a.clock, a.few, self.each, self.small);
      each = each_counted _ _ c.push_reserved.new.self.ok.0;
      lawful = start_lawful self.capacity (volume self.disk) (volume c.rise.new.self) (vec_items self.pending) _ _ c.args.job.question.now c.rise.ensures c.push_reserved.ensures.items self.lawful self.small a;
    }

pub returns : goal.returns
returns c =
    let self = c.args.self.now in
    record {
      answer = ap (λ (v : Volume). v.clock) c.rise.ensures;
      after = admitted (volume self.disk) (volume c.rise.new.self) (vec_items self.pending) _ _ c.args.job.question.now c.args.job.reads.now c.args.job.outputs.now c.rise.ensures c.push_reserved.ensures.items c.kept-outputs.ensures c.hash_of-hash.ensures;
      capacity = search rules;
    }
