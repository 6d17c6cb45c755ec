-- What a call that appends to a list answers.
use Rattle.std.specs.Prelude.{◌≡◌, ℕ, ◌<◌, ◌≤◌, List, length, Ok, Err, Result}
use Rattle.store.specs.declared.wrong.Stop.{Stop}
use Rattle.store.specs.declared.wrong.Stop.TheVariants.{Because, Memory}
use Rattle.store.specs.declared.wrong.Wrong.TheVariants.{Limit}

-- it stopped since what it wants is too long, or found no memory
abbrev pub Overruns : Stop → ℕ → List ℕ → Type 0
Overruns (Because w) limit want = (w ≡ Limit) × (limit < length want)
Overruns Memory limit want = Unit {0}

-- it has what it wants, within the limit, or stopped
abbrev pub Fills : Result (Unit {0}) Stop → ℕ → List ℕ → List ℕ → Type 0
Fills (Ok u) limit want have = (have ≡ want) × (length want ≤ limit)
Fills (Err e) limit want have = Overruns e limit want
