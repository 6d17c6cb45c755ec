-- The place of an edge's command.
use Rattle.std.proofs.Common.{◌≡◌, ℕ, suc, ◌+◌, ◌-◌, ◌<◌, ◌≤◌, Bool, ◌||◌, eqb, cond, List, [], ◌∷◌, map, length, is_some, Some, None, Option, sym, refl, ap, ◌∙◌, inl, inr, arith}
use Rattle.std.proofs.lemmas.Iterator.Adapters.{position_from-zero}
use Rattle.std.specs.List.{position, position_from, list_any}
use Rattle.std.proofs.lemmas.Bool.{cases_Bool, cond-true, cond-false, eqb-true}
use Rattle.host.specs.State.{Command, pends, edge_at}
use Rattle.machine.specs.declared.command.Pending.{Pending}
use Rattle.machine.specs.Pendings.{told}
use Rattle.machine.specs.Ends.{place_from}

-- the place of the edge's command, as a search for it among a machine's own commands finds it
told_from : (i e : ℕ) (ps : List Pending) → position_from (λ (p : Pending). eqb p.edge e) i ps ≡ place_from i (map told ps) e
told_from i e [] = refl
told_from i e (p ∷ ps) = ap (cond (eqb p.edge e) (Some i)) (told_from (i + 1) e ps)

pub place_told : (ps : List Pending) (e : ℕ) → position (λ (p : Pending). eqb p.edge e) ps ≡ place_from 0 (map told ps) e
place_told ps e = position_from-zero (λ (p : Pending). eqb p.edge e) ps ∙ told_from 0 e ps

-- whether there is one
pub pends_told : (ps : List Pending) (e : ℕ) → list_any (λ (p : Pending). eqb p.edge e) ps ≡ pends (map told ps) e
pends_told [] e = refl
pends_told (p ∷ ps) e = ap (λ (b : Bool). eqb p.edge e || b) (pends_told ps e)

some_out : (x y : ℕ) → ◌≡◌ {A = Option ℕ} (Some x) (Some y) → x ≡ y
some_out x y e = cc

none_some : (y : ℕ) → ◌≡◌ {A = Option ℕ} None (Some y) → ⊥
none_some y e = let z : ◌≡◌ {A = ℕ} 0 1 = cc in omega arith

-- a place that is found is one of a command of the edge
pub place_from_found : (i : ℕ) (cs : List Command) (e k : ℕ) → place_from i cs e ≡ Some k → (i ≤ k) × (k - i < length cs) × (edge_at cs (k - i) ≡ e)
place_from_found i [] e k h = absurd (none_some k h)
place_from_found i (c ∷ cs) e k h = elim (cases_Bool (eqb c.edge e)) [
  | inl a ↦
      let q : i ≡ k = some_out i k (sym (cond-true (eqb c.edge e) (Some i) (place_from (i + 1) cs e) a) ∙ h) in
      let z : k - i ≡ 0 = omega arith in
      (omega arith, omega arith, ap (edge_at (c ∷ cs)) z ∙ eqb-true c.edge e a)
  | inr b ↦
      let r = place_from_found (i + 1) cs e k (sym (cond-false (eqb c.edge e) (Some i) (place_from (i + 1) cs e) b) ∙ h) in
      let z : k - i ≡ suc (k - (i + 1)) = omega (arith, r.0) in
      (omega (arith, r.0), omega (arith, r.1, r.0), ap (edge_at (c ∷ cs)) z ∙ r.2)
]

-- whether one is found
pub place_from_some : (i : ℕ) (cs : List Command) (e : ℕ) → is_some (place_from i cs e) ≡ pends cs e
place_from_some i [] e = refl
place_from_some i (c ∷ cs) e = elim (cases_Bool (eqb c.edge e)) [
  | inl a ↦ ap is_some (cond-true (eqb c.edge e) (Some i) (place_from (i + 1) cs e) a) ∙ sym (ap (λ (b : Bool). b || pends cs e) a)
  | inr b ↦ ap is_some (cond-false (eqb c.edge e) (Some i) (place_from (i + 1) cs e) b) ∙ place_from_some (i + 1) cs e ∙ sym (ap (λ (b : Bool). b || pends cs e) b)
]
