use Rattle.text.specs.Text.{stated_of}
use Rattle.draft.specs.Drafts.{state_of}
use Rattle.reader.proofs.Turns.{begun, shorter, read_some, go_on}
use Rattle.reader.proofs.reading.add_all.Goals as goal

pub loop-x-init : goal.loop-x-init
loop-x-init c = begun _ _ _

pub loop-x-smaller : goal.loop-x-smaller
loop-x-smaller c =
    shorter c.loop-x.c.at c.loop-x.c.rest.now (stated_of c.in-Some.x) c.next.new.c.at c.next.new.c.rest.now
    (read_some c.loop-x.c.at c.loop-x.c.rest.now _ _ _ c.in-Some.x c.in-Some.is c.in_ok-x.ensures.says)

pub loop-x-preserved : goal.loop-x-preserved
loop-x-preserved c =
    go_on _ c.loop-x.c.at c.loop-x.c.rest.now (state_of c.loop-x.d) c.loop-x.invariant (stated_of c.in-Some.x) c.next.new.c.at c.next.new.c.rest.now (state_of c.add_at.new.d)
    (read_some c.loop-x.c.at c.loop-x.c.rest.now _ _ _ c.in-Some.x c.in-Some.is c.in_ok-x.ensures.says) c.in_ok-add_at.ensures
