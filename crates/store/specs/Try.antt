-- What a step of the reading comes to: a value, or what is wrong.
use Rattle.std.specs.Prelude.{◌≡◌, Ok, Err, Result}
use Rattle.store.specs.declared.wrong.Wrong.{Wrong}
use Rattle.store.specs.declared.wrong.Stop.{Stop}
use Rattle.store.specs.declared.wrong.Stop.TheVariants.{Because, Memory}

-- a value, or what is wrong
pub data Try (A : Type 0) : Type 0 where
  got : A → Try A
  wrong : Wrong → Try A

-- one step after another
abbrev pub and_try : {A B : Type 0} → Try A → (A → Try B) → Try B
and_try (got a) f = f a
and_try (wrong w) f = wrong w

-- a call that found no memory may answer so at any time; else what it refused for is o's
abbrev pub Stops : {B : Type 0} → Stop → Try B → Type 0
Stops (Because w) o = wrong w ≡ o
Stops Memory o = Unit {0}

-- what a call answered, seen with what it left, is o
abbrev pub Gives : {A B : Type 0} → (A → B) → Result A Stop → Try B → Type 0
Gives f (Ok a) o = got (f a) ≡ o
Gives f (Err e) o = Stops e o

-- what a call that allocates nothing answered, seen with what it left
abbrev pub tried : {A B : Type 0} → (A → B) → Result A Wrong → Try B
tried f (Ok a) = got (f a)
tried f (Err w) = wrong w
