-- What a manifest comes to, computed, is what it means.
use Rattle.std.proofs.Common.{◌≡◌, ℕ, List, [], Some, None, Option, sym, refl, ap, ◌∙◌, subst}
use Rattle.cursor.specs.Scan.{spot}
use Rattle.cursor.specs.declared.place.Fault.{Fault as TextFault}
use Rattle.text.specs.Text.{Stated, statements, checked, unless, Comes}
use Rattle.text.specs.Grammar.{Manifest}
use Rattle.text.proofs.Law.{passes, accepted, admitted}
use Rattle.store.specs.declared.wrong.Wrong.TheVariants.{Circle}
use Rattle.draft.specs.State.{State, no_state}
use Rattle.draft.specs.Statements.{add}
use Rattle.reader.specs.declared.fault.Fault.{Fault}
use Rattle.reader.specs.declared.fault.Fault.TheVariants.{Meaning}
use Rattle.reader.specs.Answers.{Answer, done, failed}
use Rattle.reader.specs.Load.{read_all, Loaded, finish, load_by, load_of}
use Rattle.reader.specs.Rules.{Steps, Adds, Follows}
use Rattle.reader.specs.Means.{Means, Circular}
use Rattle.reader.proofs.Formed.{FormedIn, manifest_formed}
use Rattle.reader.proofs.Naming.{got_at, each_full, each_sound}
use Rattle.reader.proofs.Adding.{add_full, add_sound}
use Rattle.reader.proofs.Following.{Ends, then_ends, ends_more, at_done, at_failed, next_done, text_fault, Led, all_full, all_sound}
use Rattle.reader.proofs.Lasting.{follows_low, follows_formed}
use Rattle.reader.proofs.Completing.{finish_full, finish_sound, circle_sound}

-- s is a manifest whose statements lead to the state u
record Reads (s : List ℕ) (u : State) : Type 0 where
  statements : List Stated
  says : Manifest s statements
  keeps : Follows no_state statements u

-- a fault that is a circle is where the relation has one
abbrev CircleOf : List ℕ → Fault → Type 0
CircleOf s f = (p : ℕ) → f ≡ Meaning Circle (spot p) → Circular s p

reads : (s : List ℕ) (u : State) → checked s ≡ None → Led (statements 0 s) [] no_state u → Reads s u
reads s u e h =
    let m = accepted s h.read (subst (λ o. Comes (unless o (statements 0 s)) h.read) (sym e) h.comes) in
    record {
      statements = h.read;
      says = m;
      keeps = got_at (Steps Adds no_state h.read) u h.goes (each_full add Adds FormedIn add_full no_state h.read (manifest_formed s h.read m));
    }

load_full : (s : List ℕ) (o : Option TextFault) → checked s ≡ o → Ends (Means s) (CircleOf s) (load_by o s)
load_full s (Some f) e = Ends.fails (λ p q. absurd (text_fault f (spot p) q))
load_full s None e =
    then_ends _ (ends_more (all_full s) (λ u h. reads s u e h) (λ f n p q. absurd (n (spot p) q))) (λ u h.
    ends_more (finish_full u (follows_formed h.keeps (manifest_formed s h.statements h.says)) (follows_low h.keeps))
    (λ l c. record { statements = h.statements; state = u; says = h.says; keeps = h.keeps; comes = c })
    (λ f k p q.
    let c = k p q in
    record { statements = h.statements; state = u; says = h.says; keeps = h.keeps; edge = c.0; lowest = c.1; place = c.2 }))

ends : (s : List ℕ) → Ends (Means s) (CircleOf s) (load_of s)
unfolding load_of
ends s = load_full s (checked s) refl

pub means_full : (s : List ℕ) (l : Loaded) → load_of s ≡ done l → Means s l
means_full s l e = at_done (Means s) (CircleOf s) l e (ends s)

pub circular_full : (s : List ℕ) (p : ℕ) → load_of s ≡ failed (Meaning Circle (spot p)) → Circular s p
circular_full s p e = at_failed (Means s) (CircleOf s) (Meaning Circle (spot p)) e (ends s) p refl

-- what is computed of a manifest whose statements keep the rules
follows_sound : (s : List ℕ) (xs : List Stated) (u : State) (a : Answer Loaded) → Manifest s xs → Follows no_state xs u → finish u ≡ a → load_of s ≡ a
unfolding load_of
follows_sound s xs u a m k e =
    let off : checked s ≡ None = passes s (record { short = m.short; clean = m.clean }) in
    let read : read_all s ≡ done u = all_sound s xs u (subst (λ o. Comes (unless o (statements 0 s)) xs) off (admitted s xs m)) (each_sound add Adds add_sound k) in
    ap (λ o. load_by o s) off ∙ next_done (read_all s) u finish a read e

pub means_sound : (s : List ℕ) (l : Loaded) → Means s l → load_of s ≡ done l
means_sound s l h = follows_sound s h.statements h.state (done l) h.says h.keeps (finish_sound h.state l h.comes)

pub circular_sound : (s : List ℕ) (p : ℕ) → Circular s p → load_of s ≡ failed (Meaning Circle (spot p))
circular_sound s p h =
    follows_sound s h.statements h.state (failed (Meaning Circle (spot p))) h.says h.keeps
    (circle_sound h.state h.edge h.lowest ∙ ap (λ z. failed (Meaning Circle (spot z))) (sym h.place))
