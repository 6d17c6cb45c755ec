-- Readings that go on until one says that it was the last.
use Rattle.std.specs.Prelude.{ℕ, zero, suc, List, [], ◌∷◌, ◌++◌, length, Some, None, Option}
use Rattle.cursor.specs.Scan.{Out, ok, and_then}

-- what one reading adds, or that it was the last
pub data Turn (E : Type 0) : Type 0 where
  stop : Turn E
  more : List E → Turn E

-- the readings after this one
abbrev pub turn : {E : Type 0} → Turn E → List E → ℕ → List ℕ → (List E → Out (List E)) → Out (List E)
turn stop es j r k = ok es j r
turn (more xs) es j r k = k (es ++ xs)

-- f again and again, at most n times, after the elements es
abbrev pub many : {E : Type 0} → (ℕ → List ℕ → Out (Turn E)) → ℕ → ℕ → List ℕ → List E → Out (List E)
many f zero i s es = ok es i s
many f (suc n) i s es = and_then (f i s) (λ t j r. turn t es j r (λ fs. many f n j r fs))

-- f until it is the last; no more readings than bytes, each but the last taking some
unfoldable pub repeat : {E : Type 0} → (ℕ → List ℕ → Out (Turn E)) → List E → ℕ → List ℕ → Out (List E)
repeat f es i s = many f (suc (length s)) i s es

-- one element more, if there is one
abbrev pub turn_of : {E : Type 0} → Option E → Turn E
turn_of None = stop
turn_of (Some x) = more (x ∷ [])

-- the elements that f reads, until it reads none
abbrev pub each : {E : Type 0} → (ℕ → List ℕ → Out (Option E)) → ℕ → List ℕ → Out (Turn E)
each f i s = and_then (f i s) (λ o j r. ok (turn_of o) j r)
