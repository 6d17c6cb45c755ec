-- Which edge needs which, circles, and ranks.
use Rattle.std.specs.Prelude.{◌≡◌, ℕ, zero, suc, ◌+◌, ◌<◌, Bool, true, false, cond, ◌&&◌, ◌||◌, List, [], ◌∷◌, ◌++◌, map, length, Some, None, Ok, Err, vec_items, Option, Result, Vec, ◌==◌, nat_lt, slice_index}
use Rattle.std.specs.List.{range_with_len}
use Rattle.std.specs.declared.alloc.Global.{Global}
use Rattle.graph.specs.Data.{FileData, EdgeData, maker_at, edge_at}
use Rattle.graph.specs.declared.circle.Unranked.{Unranked}
use Rattle.graph.specs.declared.circle.Unranked.TheVariants.{Circle, Memory}

-- the maker is the edge d
abbrev pub is_maker : ℕ → Option ℕ → Bool
is_maker d None = false
is_maker d (Some e) = d == e

-- the edge d makes one of the files
abbrev pub makes_one : List FileData → ℕ → List ℕ → Bool
makes_one fs d [] = false
makes_one fs d (f ∷ xs) = is_maker d (maker_at fs f) || makes_one fs d xs

-- the files that have to be there before an edge's command starts
abbrev pub inputs_of : EdgeData → List ℕ
inputs_of e = e.reads ++ e.order_only

-- the edge e has an input that the edge d makes
abbrev pub needs : List FileData → List EdgeData → ℕ → ℕ → Bool
needs fs es e d = nat_lt d (length es) && makes_one fs d (inputs_of (edge_at es e))

-- a walk from e to d whose edges in between are all below k
abbrev pub via : (ℕ → ℕ → Bool) → ℕ → ℕ → ℕ → Bool
via R zero e d = R e d
via R (suc k) e d = via R k e d || (via R k e k && via R k k d)

-- a walk from e to d
abbrev pub reaches : List FileData → List EdgeData → ℕ → ℕ → Bool
reaches fs es = via (needs fs es) (length es)

-- the least of the n numbers from i on that passes
abbrev pub least : (ℕ → Bool) → ℕ → ℕ → Option ℕ
least p i zero = None
least p i (suc n) = cond (p i) (Some i) (least p (i + 1) n)

-- how many of the numbers below n pass
abbrev pub count_of : (ℕ → Bool) → ℕ → ℕ
count_of p zero = 0
count_of p (suc n) = cond (p n) (suc (count_of p n)) (count_of p n)

-- the lowest edge that reaches itself
abbrev pub circle_of : List FileData → List EdgeData → Option ℕ
circle_of fs es = least (λ e. reaches fs es e e) 0 (length es)

-- how many edges e reaches
abbrev pub rank_of : List FileData → List EdgeData → ℕ → ℕ
rank_of fs es e = count_of (reaches fs es e) (length es)

-- the rank of each edge
abbrev pub ranks_of : List FileData → List EdgeData → List ℕ
ranks_of fs es = map (rank_of fs es) (range_with_len 0 (length es))

-- a walk of one step or more along R
pub data Walk (R : ℕ → ℕ → Bool) : ℕ → ℕ → Type 0 where
  one : {e d : ℕ} → R e d ≡ true → Walk R e d
  more : {e m d : ℕ} → R e m ≡ true → Walk R m d → Walk R e d

-- from the edge e a walk along needs leads back to e
abbrev pub OnCircle : List FileData → List EdgeData → ℕ → Type 0
OnCircle fs es e = Walk (needs fs es) e e

-- c is the lowest edge on a circle
pub record Lowest (fs : List FileData) (es : List EdgeData) (c : ℕ) : Type 0 where
  pub within : c < length es
  pub on : OnCircle fs es c
  pub first : (d : ℕ) → d < c → OnCircle fs es d → ⊥

-- no edge is on a circle, and each edge has a rank above that of every edge that it needs
pub record Ranked (fs : List FileData) (es : List EdgeData) (rs : List ℕ) : Type 0 where
  pub none : (e : ℕ) → OnCircle fs es e → ⊥
  pub long : length rs ≡ length es
  pub low : (e : ℕ) → e < length es → slice_index rs e < length es
  pub falls : (e d : ℕ) → needs fs es e d ≡ true → slice_index rs d < slice_index rs e

-- an answer is the one that the definitions give
abbrev pub Says : List FileData → List EdgeData → Result (Vec ℕ Global) Unranked → Type 0
Says fs es (Ok v) = (circle_of fs es ≡ None) × (vec_items v ≡ ranks_of fs es)
Says fs es (Err (Circle c)) = circle_of fs es ≡ Some c
Says fs es (Err Memory) = Unit {0}

-- what an answer tells of circles and ranks
abbrev pub Tells : List FileData → List EdgeData → Result (Vec ℕ Global) Unranked → Type 0
Tells fs es (Ok v) = Ranked fs es (vec_items v)
Tells fs es (Err (Circle c)) = Lowest fs es c
Tells fs es (Err Memory) = Unit {0}
