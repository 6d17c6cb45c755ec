use Rattle.std.proofs.Common.{length, ap, arith, length-drop, rules}
use Rattle.cursor.proofs.Inner.{walk_inner}
use Rattle.cursor.proofs.place.Cursor.skip_inner.Goals as goal

pub returns : goal.returns
returns c = record { run = search (rules, walk_inner); less = omega (arith, ap length c.advance.ensures.rest, length-drop c.inner_len-n.result c.args.self.now.rest.now) }
