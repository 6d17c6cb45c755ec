-- What reading comes to: an answer, or a fault with its number and place.
use Rattle.std.specs.Prelude.{ℕ}
use Rattle.cursor.specs.Scan.{spot, numbered as textNumbered}
use Rattle.store.specs.declared.wrong.Wrong.{Wrong}
use Rattle.store.specs.declared.wrong.Wrong.TheVariants.{Unknown, Again, Made, Limit, Lacks, Circle}
use Rattle.store.specs.Try.{Try, got, wrong}
use Rattle.reader.specs.declared.fault.Fault.{Fault}
use Rattle.reader.specs.declared.fault.Fault.TheVariants.{Text, Meaning}

-- the number of what is wrong
abbrev pub wrong_number : Wrong → ℕ
wrong_number Unknown = 6
wrong_number Again = 7
wrong_number Made = 8
wrong_number Limit = 9
wrong_number Lacks = 10
wrong_number Circle = 12

-- each fault's number and place
abbrev pub numbered : Fault → ℕ × ℕ
numbered (Text f) = textNumbered f
numbered (Meaning w p) = (wrong_number w, p.byte)

-- an answer, or a fault
pub data Answer (A : Type 0) : Type 0 where
  done : A → Answer A
  failed : Fault → Answer A

-- one answer after another
abbrev pub and_done : {A B : Type 0} → Answer A → (A → Answer B) → Answer B
and_done (done a) f = f a
and_done (failed e) f = failed e

-- what a statement at the place p comes to
abbrev pub at : {A : Type 0} → ℕ → Try A → Answer A
at p (got a) = done a
at p (wrong w) = failed (Meaning w (spot p))
