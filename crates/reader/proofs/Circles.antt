-- The lowest edge on a circle, as it is computed, and that there is none.
use Rattle.std.proofs.Common.{◌≡◌, ℕ, List, length, Some, None, refl}
use Rattle.graph.specs.Data.{FileData, EdgeData}
use Rattle.graph.specs.Circle.{reaches, circle_of, ranks_of, OnCircle, Lowest}
use Rattle.graph.proofs.Counts.{least_is}
use Rattle.graph.proofs.Ranks.{lowest_is, ranked_is}

pub circle_some : (fs : List FileData) (es : List EdgeData) (c : ℕ) → circle_of fs es ≡ Some c → Lowest fs es c
circle_some fs es c h = lowest_is fs es c (least_is (λ e. reaches fs es e e) 0 (length es) c h)

pub circle_none : (fs : List FileData) (es : List EdgeData) → circle_of fs es ≡ None → (e : ℕ) → OnCircle fs es e → ⊥
circle_none fs es h e w = (ranked_is fs es (ranks_of fs es) h refl).none e w
