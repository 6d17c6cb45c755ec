use Rattle.std.proofs.Common.{◌≡◌, ◌<◌, false, length, None, vec_items, arith, rules}
use Rattle.host.proofs.Keeps.{held}
use Rattle.machine.specs.Disks.{volume}
use Rattle.machine.specs.Ends.{left_by}
use Rattle.machine.proofs.Laws.{each_counted}
use Rattle.machine.proofs.Finishes.{left_clock, left_lawful, drop_state}
use Rattle.machine.proofs.machine.Machine.drop_at.Goals as goal

pub invariant_of-self : goal.invariant_of-self
invariant_of-self c =
    let self = c.args.self.now in
    let ps = vec_items self.pending in
    let lt : c.args.place < length ps = omega (arith, self.pending.ok.0, c.requires) in
    let p = c.remove-command.result in
    let n = c.remove-command.ensures.len in
    let left : volume c.remove_all.new.self ≡ left_by false (volume self.disk) p.outputs.items None = cc in
    let t = left_clock false (volume self.disk) (volume c.remove_all.new.self) p None (held self.lawful).stamps left in
    record {
      small = self.small;
      room = search rules;
      few = omega (arith, n, self.few);
      clock = omega (arith, n, t, self.clock);
      each = each_counted _ _ c.remove-command.new.self.ok.0;
      lawful = left_lawful self.capacity false (volume self.disk) (volume c.remove_all.new.self) ps _ c.args.place p None lt c.remove-command.ensures.items left self.lawful;
    }

pub returns : goal.returns
returns c =
    let self = c.args.self.now in
    let ps = vec_items self.pending in
    let lt : c.args.place < length ps = omega (arith, self.pending.ok.0, c.requires) in
    let left : volume c.remove_all.new.self ≡ left_by false (volume self.disk) c.remove-command.result.outputs.items None = cc in
    record {
      after = drop_state (volume self.disk) (volume c.remove_all.new.self) ps _ c.args.place c.remove-command.result lt c.remove-command.ensures.value c.remove-command.ensures.items left;
      capacity = search rules;
    }
