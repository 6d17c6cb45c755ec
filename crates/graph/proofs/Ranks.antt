-- What the definitions of circle and rank mean: the words of the law.
use Rattle.std.proofs.Common.{◌≡◌, ℕ, ◌<◌, true, false, ltb, List, length, get_or, None, Ok, Err, vec_items, Result, Vec, sym, ap, ◌∙◌, ⊎_elim, zero-add, arith}
use Rattle.std.specs.declared.alloc.Global.{Global}
use Rattle.std.proofs.lemmas.List.{get_or_past}
use Rattle.std.proofs.lemmas.Bool.{false≢true, both_ways, and_parts, ltb-true, cases_lt}
use Rattle.std.proofs.lemmas.List.FromFn.{length-map-range_with_len, get_or-map-range_with_len}
use Rattle.graph.specs.declared.circle.Unranked.{Unranked}
use Rattle.graph.specs.declared.circle.Unranked.TheVariants.{Circle, Memory}
use Rattle.graph.specs.Data.{FileData, EdgeData, no_edge, edge_at}
use Rattle.graph.specs.Circle.{makes_one, inputs_of, needs, reaches, circle_of, rank_of, ranks_of, OnCircle, Lowest, Ranked, Says, Tells}
use Rattle.graph.proofs.Walks.{via_walk, via_step, via_join, walk_via, walk_low}
use Rattle.graph.proofs.Counts.{Least, least_is, least_none, count_less, count_below}

module _ (fs : List FileData) (es : List EdgeData) where
  pub needs_low : (e d : ℕ) → needs fs es e d ≡ true → d < length es
  needs_low e d h = ltb-true d (length es) (and_parts (ltb d (length es)) (makes_one fs d (inputs_of (edge_at es e))) h).0

  pub needs_from : (e d : ℕ) → needs fs es e d ≡ true → e < length es
  needs_from e d h = ⊎_elim (λ lt. lt)
      (λ le.
      let made = (and_parts (ltb d (length es)) (makes_one fs d (inputs_of (edge_at es e))) h).1 in
      absurd (false≢true (sym (ap (λ x. makes_one fs d (inputs_of x)) (get_or_past es e no_edge le)) ∙ made)))
      (cases_lt e (length es))

  pub circle_reached : (e : ℕ) → OnCircle fs es e → reaches fs es e e ≡ true
  circle_reached e w = walk_via (needs fs es) (length es) needs_low w

  pub circle_low : (e : ℕ) → OnCircle fs es e → e < length es
  circle_low e w = walk_low (needs fs es) (length es) needs_low w

  pub lowest_is : (c : ℕ) → Least (λ e. reaches fs es e e) 0 (length es) c → Lowest fs es c
  lowest_is c r = record {
    within = let h = r.within in omega arith;
    on = via_walk (needs fs es) (length es) c c r.passes;
    first = λ d l w. both_ways (reaches fs es d d) (r.first d (omega arith) l) (circle_reached d w);
  }

  module _ (rs : List ℕ) (off : circle_of fs es ≡ None) (is : rs ≡ ranks_of fs es) where
    stays : (e : ℕ) → e < length es → reaches fs es e e ≡ false
    stays e l = least_none (λ e. reaches fs es e e) 0 (length es) off e (omega arith) (omega arith)

    rank_at : (e : ℕ) → e < length es → get_or rs e 0 ≡ rank_of fs es e
    rank_at e l = ap (λ xs. get_or xs e 0) is ∙ get_or-map-range_with_len (rank_of fs es) 0 (length es) e e 0 l (zero-add e)

    rank_falls : (e d : ℕ) → needs fs es e d ≡ true → rank_of fs es d < rank_of fs es e
    rank_falls e d h =
        let low = needs_low e d h in
        let step = via_step (needs fs es) (length es) e d h in
        count_less (reaches fs es e) (reaches fs es d) (length es) d
        (λ x l t. via_join (needs fs es) (length es) e d x low step t)
        low step (stays d low)

    pub ranked_is : Ranked fs es rs
    ranked_is = record {
      none = λ e w. both_ways (reaches fs es e e) (stays e (circle_low e w)) (circle_reached e w);
      long = ap length is ∙ length-map-range_with_len (rank_of fs es) 0 (length es);
      low = λ e l. omega (arith, rank_at e l, count_below (reaches fs es e) (length es) e l (stays e l));
      falls = λ e d h. omega (arith, rank_at d (needs_low e d h), rank_at e (needs_from e d h), rank_falls e d h);
    }

  pub says_tells : (r : Result (Vec ℕ Global) Unranked) → Says fs es r → Tells fs es r
  says_tells (Ok v) h = ranked_is (vec_items v) h.0 h.1
  says_tells (Err (Circle c)) h = lowest_is c (least_is (λ e. reaches fs es e e) 0 (length es) c h)
  says_tells (Err Memory) h = tt
