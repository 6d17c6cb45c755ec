-- The reading of all statements, by itself.
use Rattle.std.specs.Prelude.{ℕ, suc, List, length, Some, None, Option}
use Rattle.cursor.specs.declared.place.Fault.{Fault as TextFault}
use Rattle.draft.specs.State.{State}
use Rattle.reader.specs.declared.fault.Fault.TheVariants.{Text}
use Rattle.reader.specs.Answers.{Answer, failed}
use Rattle.reader.specs.Load.{read_on, read_all}

-- the statements in s, the first of whose bytes stands at i, added to st
unfoldable pub read_rest : ℕ → List ℕ → State → Answer State
read_rest i s st = read_on (suc (length s)) i s st

-- all statements of s, unless all its bytes have a fault that comes before
abbrev pub read_by : Option TextFault → List ℕ → Answer State
read_by (Some f) s = failed (Text f)
read_by None s = read_all s
