-- What the answers of methods stand for.
use Rattle.std.specs.Prelude.{Some, None, Option}

-- what is there, if anything, seen by g
abbrev pub maybe : {X Y : Type 0} → (X → Y) → Option X → Option Y
maybe g None = None
maybe g (Some p) = Some (g p)
