use Rattle.std.proofs.Common.{◌<◌, length, vec_items, arith, rules}
use Rattle.host.proofs.Keeps.{held}
use Rattle.machine.specs.Disks.{volume}
use Rattle.machine.specs.Machines.{state_of}
use Rattle.machine.specs.Pendings.{told}
use Rattle.machine.proofs.Laws.{each_counted}
use Rattle.machine.proofs.Finishes.{left_clock, left_lawful, finish_state, finished_ends, ending_told, ends_as}
use Rattle.machine.proofs.machine.Machine.end_at.Goals as goal

pub invariant_of-self : goal.invariant_of-self
invariant_of-self c =
    let self = c.args.self.now in
    let ps = vec_items self.pending in
    let lt : c.args.place < length ps = omega (arith, self.pending.ok.0, c.requires) in
    let p = c.remove-command.result in
    let n = c.remove-command.ensures.len in
    let t = left_clock c.args.rewrites (volume self.disk) (volume c.leave.new.self) p (told p).outcome (held self.lawful).stamps c.leave.ensures in
    record {
      small = self.small;
      room = search rules;
      few = omega (arith, n, self.few);
      clock = omega (arith, n, t, self.clock);
      each = each_counted _ _ c.remove-command.new.self.ok.0;
      lawful = left_lawful self.capacity c.args.rewrites (volume self.disk) (volume c.leave.new.self) ps _ c.args.place p (told p).outcome lt c.remove-command.ensures.items c.leave.ensures self.lawful;
    }

pub returns : goal.returns
returns c =
    let self = c.args.self.now in
    let ps = vec_items self.pending in
    let lt : c.args.place < length ps = omega (arith, self.pending.ok.0, c.requires) in
    let p = c.remove-command.result in
    let at = c.remove-command.ensures.value in
    let after = finish_state c.args.rewrites (volume self.disk) (volume c.leave.new.self) ps _ c.args.place p lt at c.remove-command.ensures.items c.leave.ensures in
    let answer = ending_told (vec_items self.disk.files) self.disk.clock ps c.args.place p _ lt at c.is_some.ensures in
    record {
      answer = answer;
      after = after;
      ends = ends_as (state_of self) _ _ _ _ answer after (finished_ends c.args.rewrites (vec_items self.disk.files) self.disk.clock ps c.args.place p lt at);
      capacity = search rules;
    }
