-- Bytes that a path takes as they are.
use Rattle.std.specs.Prelude.{ℕ, Bool, not, ◌||◌, ◌==◌}
use Rattle.cursor.specs.Scan.{stops}

-- a byte that neither ends a path nor begins an escape
abbrev pub inner : ℕ → Bool
inner b = not (stops b || b == 36)
