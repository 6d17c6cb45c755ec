-- What each step of a host does to `Lawful`, once for every host.
use Rattle.std.proofs.Common.{◌≡◌, ℕ, ◌+◌, ◌<◌, ◌≤◌, false, [], length, get_or, set, replicate, Some, None, Ok, Option, sym, refl, ap, ◌∙◌, inl, inr, arith}
use mathlib.Core.Logic.{∥∥₁_elim}
use Rattle.std.proofs.lemmas.List.{length_push, length-set, get_or-set_same, get_or-set_other, set_past, get_or-replicate, get_or_past, length-replicate}
use Rattle.std.proofs.lemmas.List.Edits.{length-remove}
use Rattle.std.specs.List.{remove}
use denote.Struct.Props.{props}
use Rattle.std.proofs.lemmas.Bool.{cases_eq, cases_lt}
use Rattle.host.specs.declared.Stamped.{Stamped}
use Rattle.host.specs.State.{Files, State, Command, Lawful, lawful_prop, Stamps, pends, at}
use Rattle.host.specs.declared.Ended.{Ended}
use Rattle.host.specs.declared.Refusal.{Refusal}
use Rattle.host.specs.Refusals.{clock_answer}
use Rattle.host.specs.Calls.{started, stamped, placed, written, Ends}
use Rattle.host.proofs.Pends.{small_push, distinct_push, small_cut, distinct_cut}

-- a truncated `Lawful` is one
pub held : {n : ℕ} {s : State} → ∥ Lawful n s ∥₁ → Lawful n s
held {n} {s} t = ∥∥₁_elim t (lawful_prop {capacity = n} {s = s} (hlevel props) (hlevel props) (hlevel props) (hlevel props) (hlevel props) (hlevel props)) (λ h. h)

pub stamps_later : (fs : Files) (t : ℕ) → Stamps fs t → Stamps fs (t + 1)
stamps_later fs t h f x e = let a = h f x e in (a.0, omega arith)

some_same : (x y : Stamped) → Some x ≡ Some y → x ≡ y
some_same x y e = cc

none_some : (x : Stamped) → ◌≡◌ {A = Option Stamped} None (Some x) → ⊥
none_some x e = let z : ◌≡◌ {A = ℕ} 0 1 = cc in omega arith

pub stamps_set : (fs : Files) (t f m : ℕ) → Stamps fs t → Stamps (set fs f (stamped (t + 1) m)) (t + 1)
stamps_set fs t f m h g x e = elim (cases_eq g f) [
  | inl a ↦ elim (cases_lt f (length fs)) [
    | inl b ↦ let s : stamped (t + 1) m ≡ Some x = sym (ap (λ (z : ℕ). at (set fs f (stamped (t + 1) m)) z) a ∙ get_or-set_same fs f (stamped (t + 1) m) None b) ∙ e in
        let q : x.stamp ≡ t + 1 = ap (λ (z : Stamped). z.stamp) (sym (some_same _ _ s)) in (omega arith, omega arith)
    | inr b ↦ let u = h g x (sym (ap (λ (z : Files). at z g) (set_past fs f (stamped (t + 1) m) b)) ∙ e) in (u.0, omega arith)
  ]
  | inr a ↦ let u = h g x (sym (get_or-set_other fs f g (stamped (t + 1) m) None a) ∙ e) in (u.0, omega arith)
]

pub stamps_gone : (fs : Files) (t f : ℕ) → Stamps fs t → Stamps (set fs f None) t
stamps_gone fs t f h g x e = elim (cases_eq g f) [
  | inl a ↦ elim (cases_lt f (length fs)) [
    | inl b ↦ absurd (none_some x (sym (ap (λ (z : ℕ). at (set fs f None) z) a ∙ get_or-set_same fs f None None b) ∙ e))
    | inr b ↦ h g x (sym (ap (λ (z : Files). at z g) (set_past fs f None b)) ∙ e)
  ]
  | inr a ↦ h g x (sym (get_or-set_other fs f g None None a) ∙ e)
]

stamps_placed : (fs : Files) (t f : ℕ) (m : Option ℕ) → Stamps fs t → Stamps (set fs f (placed (t + 1) m)) (t + 1)
stamps_placed fs t f None h = stamps_gone fs (t + 1) f (stamps_later fs t h)
stamps_placed fs t f (Some m) h = stamps_set fs t f m h

at_blank : (n f : ℕ) → get_or (replicate {A = Option Stamped} n None) f None ≡ None
at_blank n f = elim (cases_lt f n) [ inl a ↦ get_or-replicate n f None None a | inr b ↦ get_or_past (replicate {A = Option Stamped} n None) f None (omega (arith, length-replicate {A = Option Stamped} n None)) ]

-- a host with no files that has done nothing yet
pub lawful_blank : (n : ℕ) → Lawful n (record { files = replicate 256 None; clock = 0; pending = [] })
lawful_blank n = record {
  count = refl;
  stamps = λ f x h. absurd (none_some x (sym (at_blank 256 f) ∙ h));
  few = omega arith;
  small = λ k h. absurd (omega arith);
  distinct = λ j k a b. absurd (omega arith);
  room = omega arith;
}

pub lawful_start : (n : ℕ) (s : State) (c : Command) → Lawful n s → n ≤ 64 → c.edge ≤ 127 → pends s.pending c.edge ≡ false → length s.pending < n → s.clock ≤ 4000000000 → Lawful n (started None s c)
lawful_start n s c h n64 e off lt t =
    let l = length_push s.pending c in
    record {
      count = h.count;
      stamps = stamps_later _ _ h.stamps;
      few = omega arith;
      small = small_push _ c h.small e;
      distinct = distinct_push _ c h.distinct off;
      room = omega arith;
    }

-- a command is removed, and the files and the clock become others that are in order
pub lawful_cut : (n : ℕ) (s : State) (i : ℕ) (fs : Files) (t : ℕ) → Lawful n s → i < length s.pending → length fs ≡ 256 → Stamps fs t → t ≤ s.clock + 8 → Lawful n (record { files = fs; clock = t; pending = remove s.pending i })
lawful_cut n s i fs t h lt c st le =
    let l = length-remove s.pending i lt in
    record {
      count = c;
      stamps = st;
      few = omega (arith, h.few);
      small = small_cut _ i lt h.small;
      distinct = distinct_cut _ i lt h.distinct;
      room = omega (arith, h.room);
    }

pub lawful_write : (n : ℕ) (s : State) (f : ℕ) (m : Option ℕ) → Lawful n s → n ≤ 64 → s.clock ≤ 4000000000 → Lawful n (written None s f m)
lawful_write n s f m h n64 t = record {
  count = length-set s.files f _ ∙ h.count;
  stamps = stamps_placed s.files s.clock f m h.stamps;
  few = h.few;
  small = h.small;
  distinct = h.distinct;
  room = omega (arith, h.few);
}

-- the edge that a poll tells is one up to 127
pub ends_small : (n : ℕ) (s : State) (e : Ended) (t : State) → Lawful n s → Ends s e t → e.edge < 128
ends_small n s e t h p = omega (arith, h.small p.place p.within, p.edge)

-- an answered clock tells that nothing was refused
pub answered : (o : Option Refusal) (s : State) (c : ℕ) → Ok c ≡ clock_answer o s → o ≡ None
answered None s c e = refl
answered (Some r) s c e = let z : ◌≡◌ {A = ℕ} 0 1 = cc in absurd (omega arith)
