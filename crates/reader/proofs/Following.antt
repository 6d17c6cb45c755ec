-- Reading statement by statement is reading all statements and following them.
use Rattle.std.proofs.Common.{◌≡◌, ℕ, zero, suc, List, [], ◌∷◌, ◌++◌, length, Some, None, Option, sym, refl, ap, ◌∙◌, subst, append_assoc, append-nil, arith}
use Rattle.cursor.specs.Scan.{Out, ok, bad, and_then, spot}
use Rattle.cursor.specs.declared.place.Fault.{Fault as TextFault}
use Rattle.cursor.specs.declared.place.Place.{Place}
use Rattle.parts.specs.Many.{turn, turn_of, many, repeat, each}
use Rattle.text.specs.Text.{Stated, next, statements, Comes}
use Rattle.store.specs.declared.wrong.Wrong.{Wrong}
use Rattle.store.specs.declared.wrong.Wrong.TheVariants.{Circle}
use Rattle.store.specs.Try.{Try, got, wrong}
use Rattle.lists.specs.Each.{each_try}
use Rattle.draft.specs.State.{State, no_state}
use Rattle.draft.specs.Statements.{add}
use Rattle.reader.specs.declared.fault.Fault.{Fault}
use Rattle.reader.specs.declared.fault.Fault.TheVariants.{Text, Meaning}
use Rattle.reader.specs.Answers.{Answer, done, failed, and_done, at}
use Rattle.reader.specs.Load.{step_on, read_on, read_all}
use Rattle.reader.proofs.Expanding.{got_same, got_parts}
use Rattle.reader.proofs.Naming.{after}
use Rattle.reader.proofs.Faults.{Other, add_other}

-- P holds of an answer, Q of a fault
pub data Ends {A : Type 0} (P : A → Type 0) (Q : Fault → Type 0) : Answer A → Type 0 where
  gives : {a : A} → P a → Ends P Q (done a)
  fails : {f : Fault} → Q f → Ends P Q (failed f)

pub then_ends : {A B : Type 0} {P : A → Type 0} {R : B → Type 0} {Q : Fault → Type 0} {o : Answer A} (f : A → Answer B) → Ends P Q o → ((a : A) → P a → Ends R Q (f a)) → Ends R Q (and_done o f)
then_ends f (Ends.gives {a = a} h) k = k a h
then_ends f (Ends.fails q) k = Ends.fails q

pub ends_more : {A : Type 0} {P R : A → Type 0} {Q S : Fault → Type 0} {o : Answer A} → Ends P Q o → ((a : A) → P a → R a) → ((f : Fault) → Q f → S f) → Ends R S o
ends_more (Ends.gives {a = a} h) k l = Ends.gives (k a h)
ends_more (Ends.fails {f = f} q) k l = Ends.fails (l f q)

ends_done : {A : Type 0} {P : A → Type 0} {Q : Fault → Type 0} {a : A} → Ends P Q (done a) → P a
ends_done (Ends.gives h) = h

ends_failed : {A : Type 0} {P : A → Type 0} {Q : Fault → Type 0} {f : Fault} → Ends P Q (failed f) → Q f
ends_failed (Ends.fails h) = h

pub at_done : {A : Type 0} (P : A → Type 0) (Q : Fault → Type 0) {o : Answer A} (a : A) → o ≡ done a → Ends P Q o → P a
at_done P Q a e h = ends_done (subst (Ends P Q) e h)

pub at_failed : {A : Type 0} (P : A → Type 0) (Q : Fault → Type 0) {o : Answer A} (f : Fault) → o ≡ failed f → Ends P Q o → Q f
at_failed P Q f e h = ends_failed (subst (Ends P Q) e h)

-- one answer after another, where the first is a
pub next_done : {A B : Type 0} (o : Answer A) (a : A) (f : A → Answer B) (x : Answer B) → o ≡ done a → f a ≡ x → and_done o f ≡ x
next_done o a f x p q = ap (λ z. and_done z f) p ∙ q

-- the fault is no circle
abbrev pub NoCircle : Fault → Type 0
NoCircle f = (p : Place) → f ≡ Meaning Circle p → ⊥

pub text_fault : (f : TextFault) → NoCircle (Text f)
text_fault f p e = let z : ◌≡◌ {A = ℕ} 0 1 = cc in omega arith

wrong_same : (w : Wrong) (q p : Place) → Meaning w q ≡ Meaning Circle p → w ≡ Circle
wrong_same w q p e = cc

-- what a step at a place comes to: P holds if it gives a value, and it is wrong for no circle
pub at_ends : {A : Type 0} (P : A → Type 0) (p : ℕ) (o : Try A) → Other o → ((a : A) → o ≡ got a → P a) → Ends P NoCircle (at p o)
at_ends P p (got a) h k = Ends.gives (k a refl)
at_ends P p (wrong w) (Other.else n) k = Ends.fails (λ q e. n (wrong_same w (spot p) q e))

-- all readings after one that came to o
abbrev onward : Out (Option Stated) → ℕ → List Stated → Out (List Stated)
onward o n es = and_then (and_then o (λ x j r. ok (turn_of x) j r)) (λ t j r. turn t es j r (λ fs. many (each next) n j r fs))

-- all readings come to the statements es and xs, and xs lead from st to u
pub record Led (o : Out (List Stated)) (es : List Stated) (st u : State) : Type 0 where
  pub read : List Stated
  pub comes : Comes o (es ++ read)
  pub goes : each_try add st read ≡ got u

step_led : (x : Stated) (o : Out (List Stated)) (es : List Stated) (st t u : State) → add st x ≡ got t → Led o (es ++ x ∷ []) t u → Led o es st u
step_led x o es st t u e h =
    record { read = x ∷ h.read; comes = subst (Comes o) (append_assoc es (x ∷ []) h.read) h.comes; goes = after _ _ _ _ e h.goes }

step_full : (o : Out (Option Stated)) (n : ℕ) (es : List Stated) (st : State) → ((j : ℕ) (r : List ℕ) (fs : List Stated) (t : State) → Ends (Led (many (each next) n j r fs) fs t) NoCircle (read_on n j r t)) → Ends (Led (onward o n es) es st) NoCircle (step_on o (read_on n) st)
step_full (bad f) n es st k = Ends.fails (text_fault f)
step_full (ok None j r) n es st k = Ends.gives (record { read = []; comes = sym (append-nil es); goes = refl })
step_full (ok (Some x) j r) n es st k =
    then_ends _ (at_ends (λ t. add st x ≡ got t) x.place (add st x) (add_other st x) (λ t e. e)) (λ t e.
    ends_more (k j r (es ++ x ∷ []) t) (λ u h. step_led x _ es st t u e h) (λ f q. q))

pub read_full : (n i : ℕ) (s : List ℕ) (es : List Stated) (st : State) → Ends (Led (many (each next) n i s es) es st) NoCircle (read_on n i s st)
read_full zero i s es st = Ends.gives (record { read = []; comes = sym (append-nil es); goes = refl })
read_full (suc n) i s es st = step_full (next i s) n es st (λ j r fs t. read_full n j r fs t)

-- all readings come to ys, which es begin; what the others lead to is read
record Leads (run : State → Answer State) (es ys : List Stated) : Type 0 where
  read : List Stated
  is : ys ≡ es ++ read
  runs : (st u : State) → each_try add st read ≡ got u → run st ≡ done u

done_same : (st u : State) → got st ≡ got u → done st ≡ done u
done_same st u e = ap (λ z. done z) (got_same st u e)

step_sound : (o : Out (Option Stated)) (n : ℕ) (es ys : List Stated) → ((j : ℕ) (r : List ℕ) (fs : List Stated) → Comes (many (each next) n j r fs) ys → Leads (read_on n j r) fs ys) → Comes (onward o n es) ys → Leads (step_on o (read_on n)) es ys
step_sound (bad f) n es ys k c = absurd c
step_sound (ok None j r) n es ys k c = record { read = []; is = sym c ∙ sym (append-nil es); runs = done_same }
step_sound (ok (Some x) j r) n es ys k c =
    let h = k j r (es ++ x ∷ []) c in
    record {
      read = x ∷ h.read;
      is = h.is ∙ append_assoc es (x ∷ []) h.read;
      runs = λ st u e.
          let w = got_parts (add st x) (λ t. each_try add t h.read) u e in
          ap (λ z. and_done (at x.place z) (λ t. read_on n j r t)) w.first ∙ h.runs w.value u w.second;
    }

read_sound : (n i : ℕ) (s : List ℕ) (es ys : List Stated) → Comes (many (each next) n i s es) ys → Leads (read_on n i s) es ys
read_sound zero i s es ys c = record { read = []; is = sym c ∙ sym (append-nil es); runs = done_same }
read_sound (suc n) i s es ys c = step_sound (next i s) n es ys (λ j r fs. read_sound n j r fs ys) c

pub all_full : (s : List ℕ) → Ends (Led (statements 0 s) [] no_state) NoCircle (read_all s)
unfolding repeat
all_full s = read_full (suc (length s)) 0 s [] no_state

pub all_sound : (s : List ℕ) (xs : List Stated) (u : State) → Comes (statements 0 s) xs → each_try add no_state xs ≡ got u → read_all s ≡ done u
unfolding repeat
all_sound s xs u c e =
    let h = read_sound (suc (length s)) 0 s [] xs c in
    h.runs no_state u (subst (λ z. each_try add no_state z ≡ got u) h.is e)
