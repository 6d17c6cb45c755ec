-- What calls answer, tied to what the definitions say.
use Rattle.std.specs.Prelude.{◌≡◌, ℕ, List, ◌++◌, Ok, Err, vec_items, Result, Vec}
use Rattle.std.specs.declared.alloc.AllocError.{AllocError}
use Rattle.std.specs.declared.alloc.Global.{Global}
use Rattle.graph.specs.Question.{question_of}
use Rattle.reader.specs.declared.fault.Refusal.{Refusal}
use Rattle.reader.specs.declared.fault.Refusal.TheVariants.{Faulty, Memory}
use Rattle.cursor.specs.declared.place.Place.{Place}
use Rattle.store.specs.declared.wrong.Stop.{Stop}
use Rattle.store.specs.declared.wrong.Stop.TheVariants.{Because, Memory as NoMemory}
use Rattle.reader.specs.declared.fault.Fault.TheVariants.{Meaning}
use Rattle.reader.specs.Answers.{Answer, done, failed}

-- a call that puts w after what is there, if there is memory
abbrev pub Puts : Result (Unit {0}) AllocError → Vec ℕ Global → Vec ℕ Global → List ℕ → Type 0
Puts (Ok u) a b w = vec_items b ≡ vec_items a ++ w
Puts (Err e) a b w = Unit {0}

-- a call that makes w, if there is memory
abbrev pub Makes : Result (Vec ℕ Global) AllocError → List ℕ → Type 0
Makes (Ok v) w = vec_items v ≡ w
Makes (Err e) w = Unit {0}

-- a call that makes the question of a command, if there is memory
abbrev pub Asks : Result (Unit {0}) AllocError → Vec ℕ Global → Vec ℕ Global → List (List ℕ) → List (List ℕ) → Type 0
Asks (Ok u) a b rs os = vec_items b ≡ question_of (vec_items a) rs os
Asks (Err e) a b rs os = Unit {0}

-- a call's answer, seen by f, is o; where memory fails it may answer so at any time
abbrev pub Tells : {A B : Type 0} → (A → B) → Result A Refusal → Answer B → Type 0
Tells f (Ok a) o = done (f a) ≡ o
Tells f (Err (Faulty e)) o = failed e ≡ o
Tells f (Err Memory) o = Unit {0}

-- a step that stopped for s in the statement at the place p
abbrev pub StopsAt : Refusal → Stop → Place → Type 0
StopsAt r (Because w) p = r ≡ Faulty (Meaning w p)
StopsAt r NoMemory p = r ≡ Memory
