-- What every call leaves of the files: as they were, absent, or stamped above the clock of before.
use Rattle.std.proofs.Common.{◌≡◌, ℕ, zero, suc, ◌+◌, ◌≤◌, Bool, true, false, List, [], ◌∷◌, length, get_or, set, Some, None, Ok, Err, Option, Result, sym, ap, ◌∙◌, subst, inl, inr, add-one, arith}
use Rattle.std.proofs.lemmas.List.{get_or-set_same, get_or-set_other, set_past}
use Rattle.std.proofs.lemmas.Bool.{cases_eq, cases_lt}
use Rattle.host.specs.declared.Stamped.{Stamped}
use Rattle.host.specs.declared.Ended.{Ended}
use Rattle.host.specs.declared.Refusal.{Refusal}
use Rattle.host.specs.State.{Files, State, Command, at, no_command}
use Rattle.host.specs.Calls.{Makes, Wrote, Ruined, AllWrote, AllRuined, Leaves, Polls, BreaksOff, started, written, placed, command_of}
use Rattle.host.specs.Refusals.{start_refusal, write_refusal}
use Rattle.host.specs.Steps.{Call, start, poll, break_off, write, Step, Steps, Since, Later, BreaksBelow}

-- the same of files and a clock alone
pub record After (fs : Files) (t : ℕ) (fs' : Files) (t' : ℕ) : Type 0 where
  pub clock : t ≤ t'
  pub files : (f : ℕ) → Since t (at fs f) (at fs' f)

since_same : (t : ℕ) (x y : Option Stamped) → y ≡ x → Since t x y
since_same t x None e = tt
since_same t x (Some y) e = inl (sym e)

since_then : (t u : ℕ) (x y z : Option Stamped) → t ≤ u → Since t x y → Since u y z → Since t x z
since_then t u x y None l p q = tt
since_then t u x y (Some z) l p (inr b) = inr (omega arith)
since_then t u x y (Some z) l p (inl a) = subst (Since t x) a p

pub after_none : (fs fs' : Files) (t t' : ℕ) → fs' ≡ fs → t ≤ t' → After fs t fs' t'
after_none fs fs' t t' p q = record { clock = q; files = λ f. since_same t (at fs f) (at fs' f) (ap (λ (z : Files). at z f) p) }

pub after_then : (fs fs₁ fs₂ : Files) (t t₁ t₂ : ℕ) → After fs t fs₁ t₁ → After fs₁ t₁ fs₂ t₂ → After fs t fs₂ t₂
after_then fs fs₁ fs₂ t t₁ t₂ p q = record {
  clock = omega (arith, p.clock, q.clock);
  files = λ f. since_then t t₁ (at fs f) (at fs₁ f) (at fs₂ f) p.clock (p.files f) (q.files f);
}

-- one file is absent or stamped above the clock of before
pub after_set : (fs fs' : Files) (t t' f : ℕ) (x : Option Stamped) → ((y : Option Stamped) → Since t y x) → t ≤ t' → fs' ≡ set fs f x → After fs t fs' t'
after_set fs fs' t t' f x fresh l e = record {
  clock = l;
  files = λ g. subst (λ (z : Files). Since t (at fs g) (at z g)) (sym e) (elim (cases_eq g f) [
    | inr b ↦ since_same t _ _ (get_or-set_other fs f g x None b)
    | inl a ↦ elim (cases_lt f (length fs)) [
      | inl b ↦ subst (Since t (at fs g)) (sym (ap (λ (z : ℕ). at (set fs f x) z) a ∙ get_or-set_same fs f x None b)) (fresh (at fs g))
      | inr b ↦ since_same t _ _ (ap (λ (z : Files). at z g) (set_past fs f x b))
    ]
  ]);
}

after_wrote : (fs : Files) (t f m : ℕ) (fs' : Files) (t' : ℕ) → Wrote fs t f m fs' t' → After fs t fs' t'
after_wrote fs t f m fs' t' (inl a) = after_set fs fs' t t' f _ (λ y. inr (omega arith)) (omega (arith, a.1)) a.0
after_wrote fs t f m fs' t' (inr b) = after_none fs fs' t t' b.1 (omega (arith, b.2))

after_ruined : (fs : Files) (t f : ℕ) (fs' : Files) (t' : ℕ) → Ruined fs t f fs' t' → After fs t fs' t'
after_ruined fs t f fs' t' (inl a) = after_none fs fs' t t' a.0 (omega (arith, a.1))
after_ruined fs t f fs' t' (inr (inl b)) = after_set fs fs' t t' f None (λ y. tt) (omega (arith, b.1)) b.0
after_ruined fs t f fs' t' (inr (inr b)) = after_set fs fs' t t' f _ (λ y. inr (omega arith)) (omega (arith, b.2)) b.1

pub after_all_wrote : (fs : Files) (t : ℕ) (outs ms : List ℕ) (fs' : Files) (t' : ℕ) → AllWrote fs t outs ms fs' t' → After fs t fs' t'
after_all_wrote fs t [] [] fs' t' h = after_none fs fs' t t' h.0 (omega (arith, h.1))
after_all_wrote fs t [] (m ∷ ms) fs' t' h = absurd h
after_all_wrote fs t (f ∷ outs) [] fs' t' h = absurd h
after_all_wrote fs t (f ∷ outs) (m ∷ ms) fs' t' h = after_then fs h.0 fs' t h.1 t' (after_wrote fs t f m h.0 h.1 h.2) (after_all_wrote h.0 h.1 outs ms fs' t' h.3)

pub after_all_ruined : (fs : Files) (t : ℕ) (outs : List ℕ) (fs' : Files) (t' : ℕ) → AllRuined fs t outs fs' t' → After fs t fs' t'
after_all_ruined fs t [] fs' t' h = after_none fs fs' t t' h.0 (omega (arith, h.1))
after_all_ruined fs t (f ∷ outs) fs' t' h = after_then fs h.0 fs' t h.1 t' (after_ruined fs t f h.0 h.1 h.2) (after_all_ruined h.0 h.1 outs fs' t' h.3)

later_by : (s t : State) → After s.files s.clock t.files t.clock → Later s t
later_by s t h = record { clock = h.clock; files = h.files }

pub later_same : (s t : State) → t ≡ s → Later s t
later_same s t e = later_by s t (after_none s.files t.files s.clock t.clock (ap (λ (z : State). z.files) e) (omega (arith, ap (λ (z : State). z.clock) e)))

pub later_then : (s t u : State) → Later s t → Later t u → Later s u
later_then s t u p q = record {
  clock = omega (arith, p.clock, q.clock);
  files = λ f. since_then s.clock t.clock (at s.files f) (at t.files f) (at u.files f) p.clock (p.files f) (q.files f);
}

pub later_start : (r : Option Refusal) (s t : State) (c : Command) → t ≡ started r s c → Later s t
later_start (Some r) s t c e = later_same s t e
later_start None s t c e = later_by s t (after_none s.files t.files s.clock t.clock (ap (λ (z : State). z.files) e) (omega (arith, ap (λ (z : State). z.clock) e)))

later_leaves : (s : State) (outs : List ℕ) (o : Option (List ℕ)) (t : State) → Leaves s outs o t → Later s t
later_leaves s outs (Some ms) t h = later_by s t (after_all_wrote s.files s.clock outs ms t.files t.clock h)
later_leaves s outs None t h = later_by s t (after_all_ruined s.files s.clock outs t.files t.clock h)

pub later_poll : (s : State) (r : Option Ended) (t : State) → Polls s r t → Later s t
later_poll s None t h = later_same s t h.1
later_poll s (Some e) t h = later_leaves s (get_or s.pending h.place no_command).outputs (get_or s.pending h.place no_command).outcome t h.leaves

pub later_break : (s : State) (e : ℕ) (r : Result Bool Refusal) (t : State) → BreaksOff s e r t → Later s t
later_break s e (Ok true) t h = later_by s t (after_all_ruined s.files s.clock (get_or s.pending h.1.place no_command).outputs t.files t.clock h.1.leaves)
later_break s e (Ok false) t h = later_same s t h.2
later_break s e (Err r) t h = later_same s t h.2

placed_fresh : (t : ℕ) (m : Option ℕ) (y : Option Stamped) → Since t y (placed (t + 1) m)
placed_fresh t None y = tt
placed_fresh t (Some m) y = inr (omega arith)

pub later_write : (r : Option Refusal) (s t : State) (f : ℕ) (m : Option ℕ) → t ≡ written r s f m → Later s t
later_write (Some r) s t f m e = later_same s t e
later_write None s t f m e = later_by s t (after_set s.files t.files s.clock t.clock f (placed (s.clock + 1) m) (placed_fresh s.clock m) (omega (arith, ap (λ (z : State). z.clock) e)) (ap (λ (z : State). z.files) e))

later_step : (capacity : ℕ) (makes : Makes) (c : Call) (s t : State) → Step capacity makes c s t → Later s t
later_step capacity makes (start e q rs os) s t h = later_start (start_refusal capacity s e q rs os) s t (command_of makes s e q rs os) h
later_step capacity makes (poll r) s t h = later_poll s r t h
later_step capacity makes (break_off e r) s t h = later_break s e r t h
later_step capacity makes (write f m) s t h = later_write (write_refusal s f) s t f m h

pub unwritten_kept : (capacity : ℕ) (makes : Makes) (cs : List Call) (s t : State) → Steps capacity makes cs s t → Later s t
unwritten_kept capacity makes [] s t h = later_same s t h
unwritten_kept capacity makes (c ∷ cs) s t h = later_then s h.0 t (later_step capacity makes c s h.0 h.1) (unwritten_kept capacity makes cs h.0 t h.2)

pub later_breaks : (n : ℕ) (s t : State) → BreaksBelow n s t → Later s t
later_breaks zero s t h = later_same s t h
later_breaks (suc n) s t h = later_then s h.0 t (later_breaks n s h.0 h.2) (later_break h.0 n h.1 t h.3)

pub breaks_more : (n : ℕ) (s u : State) (r : Result Bool Refusal) (t : State) → BreaksBelow n s u → BreaksOff u n r t → BreaksBelow (n + 1) s t
breaks_more n s u r t p q = subst (λ (k : ℕ). BreaksBelow k s t) (sym (add-one n)) (u, r, p, q)
