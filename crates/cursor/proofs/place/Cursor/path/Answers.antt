use Rattle.std.proofs.Common.{◌∙◌, length, ap, arith, length-drop, rules}
use Rattle.cursor.proofs.Steps.{walk_blank, walk_escape, walk_plain}
use Rattle.cursor.proofs.place.Cursor.path.Goals as goal

pub loop-self-preserved-in-32 : goal.loop-self-preserved-in-32
loop-self-preserved-in-32 c = (search (rules, walk_blank), search rules)

pub loop-self-preserved-in-36 : goal.loop-self-preserved-in-36
loop-self-preserved-in-36 c = (search (rules, walk_escape), search rules)

pub loop-self-preserved : goal.loop-self-preserved
loop-self-preserved c = (c.skip_inner.ensures.run ∙ search (rules, walk_plain), omega (arith, c.skip_inner.ensures.less, ap length c.advance-in_default.ensures.rest, length-drop 1 c.loop-self.self.rest.now))
