-- The endings of a recording, and whose turn it is. Assumes nothing.
use Rattle.std.specs.Prelude.{ℕ, ◌+◌, Bool, cond, not, ◌&&◌, ◌||◌, List, [], ◌∷◌, length, drop, Some, None, Option, ◌==◌, nat_lt}
use Rattle.std.specs.List.{list_all, position_or_len}
use Rattle.replay.specs.declared.turn.Turn.{Turn}

-- the nearer ending comes first, and of equal places the lower edge
abbrev pub by_place : Turn → Turn → Bool
by_place x y = nat_lt x.place y.place || (x.place == y.place && nat_lt x.edge y.edge)

-- the place of an edge's next ending, counted from i on; past the last where there is none
abbrev pub next_from : ℕ → List ℕ → ℕ → ℕ
next_from i xs e = i + position_or_len (λ x. x == e) xs

-- the turn of an edge, by the endings that are left
abbrev pub turn_of : List ℕ → ℕ → Turn
turn_of endings e = record { place = next_from 0 endings e; edge = e }

-- the endings that are left after the one at a place; all of them where there is none at that place
abbrev pub left_after : List ℕ → ℕ → List ℕ
left_after endings p = cond (nat_lt p (length endings)) (drop (p + 1) endings) endings

-- whether each ending names an edge up to 127
abbrev pub all_edges : List ℕ → Bool
all_edges xs = list_all (λ x. nat_lt x 128) xs

-- the endings of a recording: three letters, then up to 512 edges; none where it has another form
abbrev pub endings_of : List ℕ → Option (List ℕ)
endings_of [] = None
endings_of (a ∷ []) = None
endings_of (a ∷ b ∷ []) = None
endings_of (a ∷ b ∷ c ∷ xs) =
    cond ((a == 78 && (b == 74 && c == 82)) && (not (nat_lt 512 (length xs)) && all_edges xs)) (Some xs) None
