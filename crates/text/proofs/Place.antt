-- The place of a fault of the grammar.
use Rattle.std.proofs.Common.{◌≡◌, ℕ, suc, ◌+◌, ◌≤◌, ltb, List, [], ◌∷◌, ◌++◌, length, take, drop, Some, None, Ok, Err, Option, Result, Vec, sym, refl, ap, ◌∙◌, subst, ⊎_elim, arith}
use Rattle.std.proofs.lemmas.Bool.{cond_both}
use Rattle.std.proofs.lemmas.List.{length-take-le, take-append-drop}
use Rattle.std.specs.declared.alloc.Global.{Global}
use Rattle.byteclass.specs.Class.{banned_byte}
use Rattle.cursor.specs.Scan.{Out, ok, bad, spot}
use Rattle.cursor.specs.declared.place.Place.{Place}
use Rattle.cursor.specs.declared.place.Fault.{Fault}
use Rattle.cursor.specs.declared.place.Fault.TheVariants.{TooLong, Banned, Syntax, Dollar, LeftOut as LeftOutAt}
use Rattle.parts.specs.declared.refusal.Refusal.{Refusal}
use Rattle.parts.specs.declared.refusal.Refusal.TheVariants.{Faulty, Memory}
use Rattle.text.specs.declared.kinds.Statement.{Statement}
use Rattle.text.specs.Text.{Stated, statements, first_banned, checked, unless, manifest_of, Answers}
use Rattle.text.specs.Grammar.{Statements, Spoken, Begins, Dead, PlacedFault, Placed}
use Rattle.text.proofs.Sound.{Sound}
use Rattle.text.proofs.SoundParts.{statements_sound}
use Rattle.text.proofs.Full.{Reads}
use Rattle.text.proofs.FullParts.{statements_full}
use Rattle.text.proofs.Near.{Near}
use Rattle.text.proofs.NearParts.{statements_near}
use Rattle.text.proofs.Grow.{Ends, NotAt, State}
use Rattle.text.proofs.GrowParts.{Over}
use Rattle.text.proofs.GrowLines.{statements_state}
use Rattle.text.proofs.Within.{Within, statements_within}

-- the first checks find no fault of the grammar
not_banned : (i : ℕ) (s : List ℕ) (p : Place) → first_banned i s ≡ Some (Syntax p) → ⊥
not_banned i [] p e = let z : ◌≡◌ {A = ℕ} 0 1 = cc in omega arith
not_banned i (b ∷ s) p e =
    cond_both (banned_byte b) (Some (Banned (spot i))) (first_banned (i + 1) s) (λ c. c ≡ Some (Syntax p) → ⊥)
    (λ _ q. let z : ◌≡◌ {A = ℕ} 0 1 = cc in omega arith) (λ _ q. not_banned (i + 1) s p q) e

not_checked : (s : List ℕ) (p : Place) → checked s ≡ Some (Syntax p) → ⊥
not_checked s p e =
    cond_both (ltb 65535 (length s)) (Some TooLong) (first_banned 0 s) (λ c. c ≡ Some (Syntax p) → ⊥)
    (λ _ q. let z : ◌≡◌ {A = ℕ} 0 1 = cc in omega arith) (λ _ q. not_banned 0 s p q) e

by_check : (s : List ℕ) (p : Place) (c : Option Fault) → checked s ≡ c → bad (Syntax p) ≡ unless c (statements 0 s) → bad (Syntax p) ≡ statements 0 s
by_check s p None q e = e
by_check s p (Some f) q e = absurd (not_checked s p (q ∙ ap Some (let h : f ≡ Syntax p = cc in h)))

no_read : (p : Place) (xs : List Stated) (r : List ℕ) (o : Out (List Stated)) → o ≡ bad (Syntax p) → Reads xs r o → ⊥
no_read p xs r o e h = subst (Reads xs r) e h

pub dead : (s : List ℕ) (p : Place) → bad (Syntax p) ≡ statements 0 s → Dead s p.byte
dead s p e l t h =
    let u = take (suc p.byte) s in
    let x = drop (suc p.byte) s in
    let k : length u ≡ suc p.byte = length-take-le (suc p.byte) s (omega arith) in
    let w = statements_near (suc p.byte) x t 0 u (omega arith) in
    let v : Near (suc p.byte) x t (bad (Syntax p)) (statements 0 (u ++ t)) = subst (λ o. Near (suc p.byte) x t o (statements 0 (u ++ t))) (ap (statements 0) (take-append-drop (suc p.byte) s) ∙ sym e) w in
    ⊎_elim (λ m. omega arith) (λ q. no_read p h.said h.rest (statements 0 (u ++ t)) q (statements_full (length (u ++ t)) h.says 0 (omega arith))) v

spoken : (s : List ℕ) (o : Out (List Stated)) → Ends [] o → Sound (Statements (length s) s) o → Spoken s
spoken s (ok xs j r) e h = record { said = xs; rest = r; says = h }
spoken s (bad f) e h = absurd e

from_state : (p : Place) (u x : List ℕ) → bad (Syntax p) ≡ statements 0 (u ++ x) → State Over statements p.byte x 0 u → (t : List ℕ) × Spoken (u ++ t)
from_state p u x e (State.goes h) =
    let w = h [] Over.over in
    (w.ending, spoken (u ++ w.ending) (statements 0 (u ++ w.ending)) w.ends (statements_sound (length (u ++ w.ending)) 0 (u ++ w.ending) (omega arith)))
from_state p u x e (State.done a j v l z h) =
    let says : Statements (length (u ++ [])) (u ++ []) a (v ++ []) = subst (Sound (Statements (length (u ++ [])) (u ++ []))) (h []) (statements_sound (length (u ++ [])) 0 (u ++ []) (omega arith)) in
    ([], record { said = a; rest = v ++ []; says = says })
from_state p u x e (State.never h) = let k : NotAt {A = List Stated} p.byte (bad (Syntax p)) = subst (NotAt p.byte) (sym e) h in absurd (k refl)

pub begins : (s : List ℕ) (p : Place) → bad (Syntax p) ≡ statements 0 s → p.byte ≤ length s → Begins s p.byte
begins s p e l =
    let u = take p.byte s in
    let x = drop p.byte s in
    let k : length u ≡ p.byte = length-take-le p.byte s l in
    from_state p u x (e ∙ ap (statements 0) (sym (take-append-drop p.byte s))) (statements_state p.byte x 0 u (omega arith))

within : (s : List ℕ) (p : Place) → bad (Syntax p) ≡ statements 0 s → p.byte ≤ length s
within s p e = let h : Within {A = List Stated} (length s) (bad (Syntax p)) = subst (Within (length s)) (sym e) (statements_within (length s) 0 s (omega arith)) in h

by_fault : (f : Fault) (s : List ℕ) → bad f ≡ manifest_of s → PlacedFault f s
by_fault TooLong s e = tt
by_fault (Banned p) s e = tt
by_fault (Syntax p) s e =
    let h = by_check s p (checked s) refl e in
    let l = within s p h in
    (l, begins s p h l, dead s p h)
by_fault (Dollar p) s e = tt
by_fault (LeftOutAt p) s e = tt

pub placed : (r : Result (Vec Statement Global) Refusal) (s : List ℕ) → Answers r (manifest_of s) → Placed r s
placed (Ok v) s e = tt
placed (Err (Faulty f)) s e = by_fault f s e
placed (Err Memory) s e = tt
