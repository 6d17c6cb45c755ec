use Rattle.std.proofs.Common.{vec_items, arith}
use Rattle.machine.specs.Disks.{volume}
use Rattle.machine.proofs.Laws.{write_lawful, write_clock}
use Rattle.machine.proofs.machine.Machine.put.Goals as goal

pub invariant_of-self : goal.invariant_of-self
invariant_of-self c =
    let self = c.args.self.now in
    let t = write_clock (volume self.disk) (volume c.place.new.self) c.args.file c.args.mark c.place.ensures in
    record {
      small = self.small;
      room = self.room;
      few = self.few;
      clock = omega (arith, t, self.small, self.few, c.requires);
      each = self.each;
      lawful = write_lawful self.capacity (volume self.disk) (volume c.place.new.self) (vec_items self.pending) c.args.file c.args.mark c.place.ensures self.lawful self.small c.requires;
    }
