use Rattle.std.proofs.Common.{ap, arith, rules}
use Rattle.machine.specs.Ends.{Volume}
use Rattle.machine.specs.Disks.{volume}
use Rattle.machine.proofs.Laws.{new_lawful, each_counted}
use Rattle.machine.proofs.machine.Machine.blank.Goals as goal

pub invariant_of-result : goal.invariant_of-result
invariant_of-result c =
    let p = c.in_ok-pending.ensures in
    let d = c.in_ok-disk.ensures in
    let t = ap (λ (v : Volume). v.clock) d in
    record {
      small = search rules;
      room = search rules;
      few = omega (arith, p.capacity);
      clock = omega (arith, t, p.capacity);
      each = each_counted _ _ c.in_ok-pending.pending.ok.0;
      lawful = new_lawful _ (volume c.in_ok-disk.disk) _ d p.items;
    }
