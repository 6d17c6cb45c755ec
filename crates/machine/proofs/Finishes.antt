-- What the ends of commands leave is lawful, and is what a host may do.
use Rattle.std.proofs.Common.{◌≡◌, ℕ, ◌+◌, ◌-◌, ◌<◌, ◌≤◌, Bool, true, false, not, ◌&&◌, ltb, List, [], ◌∷◌, map, length, get_or, set, is_some, Some, None, Ok, Option, sym, refl, ap, ◌∙◌, subst, inl, inr, arith, MatchOption}
use Rattle.std.proofs.lemmas.List.{length-set, length-map, get_or-map}
use Rattle.std.proofs.lemmas.Bool.{cases_Bool, cond-true, cond-false, and_parts, eqb-true, lt-ltb}
use Rattle.std.specs.List.{remove}
use Rattle.std.specs.Option.{option_map}
use Rattle.host.specs.declared.Stamped.{Stamped}
use Rattle.host.specs.declared.Ended.{Ended}
use Rattle.host.specs.State.{Files, State, Command, Lawful, Stamps, at, no_command}
use Rattle.host.specs.Calls.{Holds, Wrote, AllWrote, AllRuined, Leaves, Ends, Breaks, BreaksOff}
use Rattle.host.proofs.Pends.{map_removed}
use Rattle.host.proofs.Keeps.{held, stamps_set, stamps_gone, lawful_cut}
use Rattle.machine.specs.declared.command.Pending.{Pending}
use Rattle.machine.specs.Ends.{Volume, has, settled, all_settled, all_removed, left_by, volume_of, without, finished, broken_at, ending, place_of, finished_at, ending_at}
use Rattle.machine.specs.Pendings.{told, marks_from, state_from}
use Rattle.machine.proofs.Places.{place_from_some, place_from_found}
use Rattle.machine.proofs.Settles.{length_marks}

-- a volume in order, with a clock that has risen by at most n
pub record Fine (v : Volume) (n : ℕ) (u : Volume) : Type 0 where
  pub count : length u.files ≡ length v.files
  pub stamps : Stamps u.files u.clock
  pub clock : u.clock ≤ v.clock + n

settled_fine : (b : Bool) (v : Volume) (f m : ℕ) → Stamps v.files v.clock → Fine v 1 (settled b v f m)
settled_fine b v f m h = elim (cases_Bool (not b && has (at v.files f) m)) [
  | inl a ↦ subst (Fine v 1) (sym (cond-true _ v _ a)) (record { count = refl; stamps = h; clock = omega arith })
  | inr z ↦ subst (Fine v 1) (sym (cond-false _ v _ z)) (record { count = length-set v.files f _; stamps = stamps_set v.files v.clock f m h; clock = omega arith })
]

all_settled_fine : (b : Bool) (v : Volume) (outs ms : List ℕ) → Stamps v.files v.clock → Fine v (length outs) (all_settled b v outs ms)
all_settled_fine b v [] ms h = record { count = refl; stamps = h; clock = omega arith }
all_settled_fine b v (f ∷ outs) [] h = record { count = refl; stamps = h; clock = omega arith }
all_settled_fine b v (f ∷ outs) (m ∷ ms) h =
    let one = settled_fine b v f m h in
    let rest = all_settled_fine b (settled b v f m) outs ms one.stamps in
    record { count = rest.count ∙ one.count; stamps = rest.stamps; clock = omega (arith, one.clock, rest.clock) }

all_removed_count : (fs : Files) (outs : List ℕ) → length (all_removed fs outs) ≡ length fs
all_removed_count fs [] = refl
all_removed_count fs (f ∷ outs) = all_removed_count (set fs f None) outs ∙ length-set fs f None

all_removed_stamps : (fs : Files) (t : ℕ) (outs : List ℕ) → Stamps fs t → Stamps (all_removed fs outs) t
all_removed_stamps fs t [] h = h
all_removed_stamps fs t (f ∷ outs) h = all_removed_stamps (set fs f None) t outs (stamps_gone fs t f h)

pub left_fine : (b : Bool) (v : Volume) (outs : List ℕ) (o : Option (List ℕ)) → Stamps v.files v.clock → Fine v (length outs) (left_by b v outs o)
left_fine b v outs (Some ms) h = all_settled_fine b v outs ms h
left_fine b v outs None h = record { count = all_removed_count v.files outs; stamps = all_removed_stamps v.files v.clock outs h; clock = omega arith }

-- what is left is what a host may leave
has_holds : (x : Option Stamped) (m : ℕ) → has x m ≡ true → Holds x m
has_holds None m h = let z : ◌≡◌ {A = ℕ} 0 1 = cc in absurd (omega arith)
has_holds (Some x) m h = eqb-true x.mark m h

settled_wrote : (b : Bool) (v : Volume) (f m : ℕ) → Wrote v.files v.clock f m (settled b v f m).files (settled b v f m).clock
settled_wrote b v f m = elim (cases_Bool (not b && has (at v.files f) m)) [
  | inl a ↦ subst (λ (u : Volume). Wrote v.files v.clock f m u.files u.clock) (sym (cond-true _ v _ a)) (inr (has_holds (at v.files f) m (and_parts (not b) (has (at v.files f) m) a).1, refl, refl))
  | inr z ↦ subst (λ (u : Volume). Wrote v.files v.clock f m u.files u.clock) (sym (cond-false _ v _ z)) (inl (refl, refl))
]

all_settled_wrote : (b : Bool) (v : Volume) (outs ms : List ℕ) → length ms ≡ length outs → AllWrote v.files v.clock outs ms (all_settled b v outs ms).files (all_settled b v outs ms).clock
all_settled_wrote b v [] [] h = (refl, refl)
all_settled_wrote b v [] (m ∷ ms) h = absurd (omega arith)
all_settled_wrote b v (f ∷ outs) [] h = absurd (omega arith)
all_settled_wrote b v (f ∷ outs) (m ∷ ms) h = ((settled b v f m).files, (settled b v f m).clock, settled_wrote b v f m, all_settled_wrote b (settled b v f m) outs ms (omega arith))

all_removed_ruined : (fs : Files) (t : ℕ) (outs : List ℕ) → AllRuined fs t outs (all_removed fs outs) t
all_removed_ruined fs t [] = (refl, refl)
all_removed_ruined fs t (f ∷ outs) = (set fs f None, t, inr (inl (refl, refl)), all_removed_ruined (set fs f None) t outs)

-- the command at a place, as the host means it
pub told_at : (ps : List Pending) (k : ℕ) (p : Pending) → k < length ps → p ≡ get_or ps k p → get_or (map told ps) k no_command ≡ told p
told_at ps k p l e = get_or-map told ps k p no_command l ∙ ap told (sym e)

leaves_told : (b : Bool) (s : State) (p : Pending) (k : ℕ) → Leaves s (told p).outputs (told p).outcome (without s k (left_by b (volume_of s) (told p).outputs (told p).outcome))
leaves_told b s p k = go p.hash where
  go : (h : Option ℕ) → Leaves s p.outputs.items (option_map (marks_from (length p.outputs.items)) h) (without s k (left_by b (volume_of s) p.outputs.items (option_map (marks_from (length p.outputs.items)) h)))
  go None = all_removed_ruined s.files s.clock p.outputs.items
  go (Some h) = all_settled_wrote b (volume_of s) p.outputs.items (marks_from (length p.outputs.items) h) (length_marks (length p.outputs.items) h)

-- the command at a place ends as a poll may end it
pub finished_ends : (b : Bool) (fs : Files) (t : ℕ) (ps : List Pending) (k : ℕ) (p : Pending) → k < length ps → p ≡ get_or ps k p → Ends (state_from fs t ps) (ending (state_from fs t ps) k) (finished b (state_from fs t ps) k)
finished_ends b fs t ps k p l e =
    let s = state_from fs t ps in
    record {
      place = k;
      within = omega (arith, length-map ps told);
      edge = refl;
      good = refl;
      rest = refl;
      leaves = subst (λ (c : Command). Leaves s c.outputs c.outcome (without s k (left_by b (volume_of s) c.outputs c.outcome))) (sym (told_at ps k p l e)) (leaves_told b s p k);
    }

-- and is broken off as a host may break it off
pub broken_breaks : (fs : Files) (t : ℕ) (ps : List Pending) (k e : ℕ) → k < length (map told ps) → (get_or (map told ps) k no_command).edge ≡ e → Breaks (state_from fs t ps) e (broken_at (state_from fs t ps) k)
broken_breaks fs t ps k e l is =
    record { place = k; within = l; edge = is; rest = refl; leaves = all_removed_ruined fs t (get_or (map told ps) k no_command).outputs }

-- how an end is told
pub ending_told : (fs : Files) (t : ℕ) (ps : List Pending) (k : ℕ) (p : Pending) (g : Bool) → k < length ps → p ≡ get_or ps k p → g ≡ is_some p.hash → record { edge = p.edge; good = g } ≡ ending (state_from fs t ps) k
ending_told fs t ps k p g l e is =
    let at = told_at ps k p l e in
    λ i. record {
      edge = ap (λ (c : Command). c.edge) (sym at) i;
      good = (is ∙ some p.hash ∙ ap (λ (c : Command). is_some c.outcome) (sym at)) i;
    } where
      some : (h : Option ℕ) → is_some h ≡ is_some (option_map (marks_from (length p.outputs.items)) h)
      some None = refl
      some (Some h) = refl

-- the machine after the command p, which stood at k, left this volume
pub left_state : (v u : Volume) (ps ps' : List Pending) (k : ℕ) → ps' ≡ remove ps k → state_from u.files u.clock ps' ≡ without (state_from v.files v.clock ps) k u
left_state v u ps ps' k e = ap (λ (z : List Command). record { files = u.files; clock = u.clock; pending = z }) (ap (map told) e ∙ map_removed told ps k)

pub finish_state : (b : Bool) (v u : Volume) (ps ps' : List Pending) (k : ℕ) (p : Pending) → k < length ps → p ≡ get_or ps k p → ps' ≡ remove ps k → u ≡ left_by b v (told p).outputs (told p).outcome → state_from u.files u.clock ps' ≡ finished b (state_from v.files v.clock ps) k
finish_state b v u ps ps' k p l is e left =
    let s = state_from v.files v.clock ps in
    left_state v u ps ps' k e ∙ ap (without s k) left ∙ ap (λ (c : Command). without s k (left_by b v c.outputs c.outcome)) (sym (told_at ps k p l is))

pub drop_state : (v u : Volume) (ps ps' : List Pending) (k : ℕ) (p : Pending) → k < length ps → p ≡ get_or ps k p → ps' ≡ remove ps k → u ≡ left_by false v (told p).outputs None → state_from u.files u.clock ps' ≡ broken_at (state_from v.files v.clock ps) k
drop_state v u ps ps' k p l is e left =
    let s = state_from v.files v.clock ps in
    left_state v u ps ps' k e ∙ ap (without s k) left ∙ ap (λ (c : Command). without s k (left_by false v c.outputs None)) (sym (told_at ps k p l is))

-- it is lawful
pub left_lawful : (n : ℕ) (b : Bool) (v u : Volume) (ps ps' : List Pending) (k : ℕ) (p : Pending) (o : Option (List ℕ)) → k < length ps → ps' ≡ remove ps k → u ≡ left_by b v p.outputs.items o → ∥ Lawful n (state_from v.files v.clock ps) ∥₁ → ∥ Lawful n (state_from u.files u.clock ps') ∥₁
left_lawful n b v u ps ps' k p o l e left ok =
    let s = state_from v.files v.clock ps in
    let law = held ok in
    let fine : Fine v (length p.outputs.items) u = subst (Fine v (length p.outputs.items)) (sym left) (left_fine b v p.outputs.items o law.stamps) in
    ∣ subst (Lawful n) (sym (left_state v u ps ps' k e)) (lawful_cut n s k u.files u.clock law (omega (arith, length-map ps told)) (fine.count ∙ law.count) fine.stamps (omega (arith, fine.clock, p.few))) ∣₁

pub left_clock : (b : Bool) (v u : Volume) (p : Pending) (o : Option (List ℕ)) → Stamps v.files v.clock → u ≡ left_by b v p.outputs.items o → u.clock ≤ v.clock + 8
left_clock b v u p o h left =
    let fine : Fine v (length p.outputs.items) u = subst (Fine v (length p.outputs.items)) (sym left) (left_fine b v p.outputs.items o h) in
    omega (arith, fine.clock, p.few)

pub ends_as : (s : State) (e e' : Ended) (t t' : State) → e ≡ e' → t ≡ t' → Ends s e' t' → Ends s e t
ends_as s e e' t t' p q h = subst (λ (z : Ended). Ends s z t) (sym p) (subst (Ends s e') (sym q) h)

-- a break-off by the place of the edge's command
pub breaks_none : (s t : State) (e : ℕ) → None ≡ place_of s e → t ≡ s → e ≤ 127 → BreaksOff s e (Ok false) t
breaks_none s t e h q l = (l, sym (place_from_some 0 s.pending e) ∙ ap is_some (sym h), q)

pub breaks_some : (fs : Files) (u : ℕ) (ps : List Pending) (t : State) (e k : ℕ) → Some k ≡ place_of (state_from fs u ps) e → t ≡ broken_at (state_from fs u ps) k → e ≤ 127 → BreaksOff (state_from fs u ps) e (Ok true) t
breaks_some fs u ps t e k h q l =
    let f = place_from_found 0 (map told ps) e k (sym h) in
    let z : k - 0 ≡ k = omega arith in
    (l, subst (Breaks (state_from fs u ps) e) (sym q) (broken_breaks fs u ps k e (omega (arith, f.1)) (ap (λ (n : ℕ). (get_or (map told ps) n no_command).edge) (sym z) ∙ f.2)))

pub found_within : (s : State) (e k : ℕ) → Some k ≡ place_of s e → k < length s.pending
found_within s e k h = omega (arith, (place_from_found 0 s.pending e k (sym h)).1)

-- the command at a place has ended
pub end_state : (b : Bool) (s : State) (k : ℕ) (h : State) → k < length s.pending → h ≡ finished_at b s k → h ≡ finished b s k
end_state b s k h l e = e ∙ cond-true (ltb k (length s.pending)) (finished b s k) s (lt-ltb k (length s.pending) l)

pub ending_is : (s : State) (k : ℕ) → k < length s.pending → ending_at s k ≡ Some (ending s k)
ending_is s k l = cond-true (ltb k (length s.pending)) (Some (ending s k)) None (lt-ltb k (length s.pending) l)

pub finish_ends : (P : Type 0) (r : Option Ended) (s t : State) (k : ℕ) → k < length s.pending → r ≡ ending_at s k → MatchOption r P (λ (e : Ended). Ends s e t) → Ends s (ending s k) t
finish_ends P r s t k l e h = subst (λ (z : Option Ended). MatchOption z P (λ (x : Ended). Ends s x t)) (e ∙ ending_is s k l) h
