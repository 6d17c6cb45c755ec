use Rattle.std.proofs.Common.{vec_items, refl, arith}
use Rattle.machine.specs.Machines.{state_of}
use Rattle.machine.proofs.Finishes.{breaks_none, breaks_some, found_within}
use Rattle.machine.proofs.machine.Machine.drop_of.Goals as goal

pub drop_at-requires : goal.drop_at-requires
drop_at-requires c = omega (arith, found_within (state_of c.args.self.now) c.args.edge c.in-Some.place c.in-Some.ensures, c.args.self.now.each)

pub returns-in_default-clause-breaks : goal.returns-in_default-clause-breaks
returns-in_default-clause-breaks c = let s = state_of c.args.self.now in λ l. breaks_none s s c.args.edge c.in_default.ensures refl l

pub returns-clause-breaks : goal.returns-clause-breaks
returns-clause-breaks c =
    let self = c.args.self.now in
    λ l. breaks_some (vec_items self.disk.files) self.disk.clock (vec_items self.pending) _ c.args.edge c.in-Some.place c.in-Some.ensures c.drop_at.ensures.after l
