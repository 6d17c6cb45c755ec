use Rattle.std.proofs.Common.{rules}
use Rattle.cursor.proofs.Steps.{scan_escape, scan_plain}
use Rattle.cursor.proofs.place.Cursor.value.Goals as goal

pub loop-self-preserved-in-36 : goal.loop-self-preserved-in-36
loop-self-preserved-in-36 c = (search (rules, scan_escape), search rules)

pub loop-self-preserved : goal.loop-self-preserved
loop-self-preserved c = (search (rules, scan_plain), search rules)
