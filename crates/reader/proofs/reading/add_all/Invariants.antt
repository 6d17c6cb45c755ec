use Rattle.std.proofs.Common.{length}
use Rattle.draft.specs.Drafts.{state_of}
use Rattle.reader.specs.Reading.{read_rest}
use Rattle.reader.proofs.Turns.{Left}
use Rattle.reader.proofs.reading.add_all.Given as goal

abbrev pub invariant-loop-x : goal.invariant-loop-x
invariant-loop-x l =
    Left (read_rest l.initial.c.at l.initial.c.rest.now (state_of l.initial.d)) l.c.at l.c.rest.now (state_of l.d)

abbrev pub decreases-loop-x : goal.decreases-loop-x
decreases-loop-x l = length l.c.rest.now
