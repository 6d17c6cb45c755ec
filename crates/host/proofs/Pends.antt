-- The edges of the pending commands, with one command more and with one less.
use Rattle.std.proofs.Common.{◌≡◌, ℕ, zero, suc, ◌+◌, ◌<◌, ◌≤◌, Bool, true, false, ◌||◌, eqb, List, [], ◌∷◌, ◌++◌, map, length, take, drop, Ok, Err, Result, sym, refl, ap, ◌∙◌, inl, inr, arith}
use Rattle.std.specs.List.{remove}
use Rattle.std.proofs.lemmas.List.{length_push, get_or_push, get_or_append_left, map-append, take-map, drop-map}
use Rattle.std.proofs.lemmas.List.Edits.{length-remove, get_or-remove_below, get_or-remove_above}
use Rattle.std.proofs.lemmas.Bool.{cases_eq, cases_lt, cases_Bool, or_cases, or_parts, or_left, or_right, eq-eqb, ne_eqb, eqb-true, both_ways}
use Rattle.host.specs.declared.Refusal.{Refusal}
use Rattle.host.specs.Calls.{BreaksOff}
use Rattle.host.specs.State.{State, Command, Distinct, Small, pends, edge_at, no_command}

-- a list with one less, seen through a function
pub map_removed : {X Y : Type 0} (f : X → Y) (xs : List X) (k : ℕ) → map f (remove xs k) ≡ remove (map f xs) k
map_removed {X} {Y} f xs k = map-append f (take k xs) (drop (suc k) xs) ∙ ap (λ (z : List Y). z ++ map f (drop (suc k) xs)) (sym (take-map f k xs)) ∙ ap (λ (z : List Y). take k (map f xs) ++ z) (sym (drop-map f (suc k) xs))

pub edge_push_left : (cs : List Command) (c : Command) (k : ℕ) → k < length cs → edge_at (cs ++ (c ∷ [])) k ≡ edge_at cs k
edge_push_left cs c k h = ap (λ (x : Command). x.edge) (get_or_append_left cs (c ∷ []) no_command k h)

pub edge_push_last : (cs : List Command) (c : Command) (k : ℕ) → length cs ≡ k → edge_at (cs ++ (c ∷ [])) k ≡ c.edge
edge_push_last cs c k h = ap (λ (x : Command). x.edge) (get_or_push cs c no_command k h)

pub edge_cut_below : (cs : List Command) (i k : ℕ) → k < i → i < length cs → edge_at (remove cs i) k ≡ edge_at cs k
edge_cut_below cs i k a b = ap (λ (x : Command). x.edge) (get_or-remove_below cs i no_command k a b)

pub edge_cut_above : (cs : List Command) (i k : ℕ) → i ≤ k → i < length cs → edge_at (remove cs i) k ≡ edge_at cs (k + 1)
edge_cut_above cs i k a b = ap (λ (x : Command). x.edge) (get_or-remove_above cs i no_command k a b)

-- where no command of e pends, none has that edge
pub pends_none : (cs : List Command) (e k : ℕ) → pends cs e ≡ false → k < length cs → edge_at cs k ≡ e → ⊥
pends_none [] e k off h is = absurd (omega arith)
pends_none (c ∷ cs) e zero off h is = both_ways (eqb c.edge e) (or_parts (eqb c.edge e) (pends cs e) off).0 (eq-eqb _ _ is)
pends_none (c ∷ cs) e (suc k) off h is = pends_none cs e k (or_parts (eqb c.edge e) (pends cs e) off).1 (omega arith) is

pub pends_at : (cs : List Command) (i : ℕ) → i < length cs → pends cs (edge_at cs i) ≡ true
pends_at [] i h = absurd (omega arith)
pends_at (c ∷ cs) zero h = or_left (eqb c.edge c.edge) (pends cs c.edge) (eq-eqb c.edge c.edge refl)
pends_at (c ∷ cs) (suc i) h = or_right (eqb c.edge (edge_at cs i)) (pends cs (edge_at cs i)) (pends_at cs i (omega arith))

pub pends_place : (cs : List Command) (e : ℕ) → pends cs e ≡ true → (k : ℕ) × (k < length cs) × (edge_at cs k ≡ e)
pends_place [] e h = absurd (both_ways false refl h)
pends_place (c ∷ cs) e h = elim (or_cases (eqb c.edge e) (pends cs e) h) [
  | inl a ↦ (0, omega arith, eqb-true c.edge e a)
  | inr b ↦ let p = pends_place cs e b in (suc p.0, omega arith, p.2)
]

or_out : (b d : Bool) → b ≡ false → (b || d) ≡ d
or_out b d h = simp h

pub pends_cut_other : (cs : List Command) (i e : ℕ) → i < length cs → (edge_at cs i ≡ e → ⊥) → pends (remove cs i) e ≡ pends cs e
pends_cut_other [] i e h ne = absurd (omega arith)
pends_cut_other (c ∷ cs) zero e h ne = sym (or_out (eqb c.edge e) (pends cs e) (ne_eqb c.edge e ne))
pends_cut_other (c ∷ cs) (suc i) e h ne = ap (λ (z : Bool). eqb c.edge e || z) (pends_cut_other cs i e (omega arith) ne)

pub pends_cut_same : (cs : List Command) (i : ℕ) → i < length cs → Distinct cs → pends (remove cs i) (edge_at cs i) ≡ false
pends_cut_same cs i h d = elim (cases_Bool (pends (remove cs i) (edge_at cs i))) [
  | inr b ↦ b
  | inl a ↦ let p = pends_place (remove cs i) (edge_at cs i) a in let n = length-remove cs i h in
      elim (cases_lt p.0 i) [
        | inl b ↦ absurd (d p.0 i b h (sym (edge_cut_below cs i p.0 b h) ∙ p.2))
        | inr b ↦ absurd (d i (p.0 + 1) (omega arith) (omega arith) (sym p.2 ∙ edge_cut_above cs i p.0 b h))
      ]
]

-- commands of edges up to 127, of which none pends, are no commands
pub none_pend : (cs : List Command) → Small cs → ((x : ℕ) → x < 128 → pends cs x ≡ false) → cs ≡ []
none_pend [] s h = refl
none_pend (c ∷ cs) s h =
    let le : c.edge ≤ 127 = s 0 (omega arith) in
    absurd (both_ways (pends (c ∷ cs) c.edge) (h c.edge (omega arith)) (pends_at (c ∷ cs) 0 (omega arith)))

pub small_push : (cs : List Command) (c : Command) → Small cs → c.edge ≤ 127 → Small (cs ++ (c ∷ []))
small_push cs c h le k lt = elim (cases_lt k (length cs)) [ inl a ↦ omega (arith, edge_push_left cs c k a, h k a) | inr b ↦ omega (arith, edge_push_last cs c k (omega (arith, length_push cs c))) ]

pub distinct_push : (cs : List Command) (c : Command) → Distinct cs → pends cs c.edge ≡ false → Distinct (cs ++ (c ∷ []))
distinct_push cs c h off j k jk lt e =
    let jl : j < length cs = omega (arith, length_push cs c) in
    elim (cases_lt k (length cs)) [
      | inl a ↦ h j k jk a (sym (edge_push_left cs c j jl) ∙ e ∙ edge_push_left cs c k a)
      | inr b ↦ pends_none cs c.edge j off jl (sym (edge_push_left cs c j jl) ∙ e ∙ edge_push_last cs c k (omega (arith, length_push cs c)))
    ]

pub small_cut : (cs : List Command) (i : ℕ) → i < length cs → Small cs → Small (remove cs i)
small_cut cs i lt h k kl =
    let n = length-remove cs i lt in
    elim (cases_lt k i) [ inl a ↦ omega (arith, edge_cut_below cs i k a lt, h k (omega arith)) | inr b ↦ omega (arith, edge_cut_above cs i k b lt, h (k + 1) (omega arith)) ]

pub distinct_cut : (cs : List Command) (i : ℕ) → i < length cs → Distinct cs → Distinct (remove cs i)
distinct_cut cs i lt h j k jk kl e =
    let n = length-remove cs i lt in
    elim (cases_lt j i) [
      | inl a ↦ elim (cases_lt k i) [
        | inl b ↦ h j k jk (omega arith) (sym (edge_cut_below cs i j a lt) ∙ e ∙ edge_cut_below cs i k b lt)
        | inr b ↦ h j (k + 1) (omega arith) (omega arith) (sym (edge_cut_below cs i j a lt) ∙ e ∙ edge_cut_above cs i k b lt)
      ]
      | inr a ↦ h (j + 1) (k + 1) (omega arith) (omega arith) (sym (edge_cut_above cs i j a lt) ∙ e ∙ edge_cut_above cs i k (omega arith) lt)
    ]

-- after edge e is broken off, nothing pends of it and of the edges below
pub quiet_more : (s : State) (e : ℕ) (r : Result Bool Refusal) (t : State) → e < 128 → Distinct s.pending → BreaksOff s e r t → ((x : ℕ) → x < e → pends s.pending x ≡ false) → (x : ℕ) → x < e + 1 → pends t.pending x ≡ false
quiet_more s e (Ok true) t el d h below x lt = elim (cases_eq x e) [
  | inl a ↦ ap (λ (z : List Command). pends z x) h.1.rest ∙ ap (pends (remove s.pending h.1.place)) (a ∙ sym h.1.edge) ∙ pends_cut_same s.pending h.1.place h.1.within d
  | inr b ↦ ap (λ (z : List Command). pends z x) h.1.rest ∙ pends_cut_other s.pending h.1.place x h.1.within (λ z. b (sym z ∙ h.1.edge)) ∙ below x (omega arith)
]
quiet_more s e (Ok false) t el d h below x lt = ap (λ (z : State). pends z.pending x) h.2 ∙ elim (cases_eq x e) [ inl a ↦ ap (pends s.pending) a ∙ h.1 | inr b ↦ below x (omega arith) ]
quiet_more s e (Err r) t el d h below x lt = absurd (omega (arith, h.0))
