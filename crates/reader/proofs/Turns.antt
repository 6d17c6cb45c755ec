-- One statement more of a reading that follows read_rest.
use Rattle.std.proofs.Common.{◌≡◌, ℕ, zero, suc, ◌<◌, List, length, Some, Option, sym, refl, ap, ◌∙◌, subst, arith}
use Rattle.cursor.specs.Scan.{ok}
use Rattle.cursor.specs.Told.{maybe}
use Rattle.cursor.proofs.Moves.{Moves, some}
use Rattle.text.specs.declared.kinds.Statement.{Statement}
use Rattle.text.specs.Text.{Stated, next, stated_of}
use Rattle.text.proofs.Moves.{next_statement_moves}
use Rattle.draft.specs.State.{State}
use Rattle.draft.specs.Statements.{add}
use Rattle.reader.specs.Answers.{Answer, done, and_done, at}
use Rattle.reader.specs.Load.{step_on, read_on}
use Rattle.reader.specs.Reading.{read_rest}

-- what is read so far, st, and what is left come to o
pub record Left (o : Answer State) (i : ℕ) (s : List ℕ) (st : State) : Type 0 where
  pub turns : ℕ
  pub enough : length s < turns
  pub same : read_on turns i s st ≡ o

pub begun : (i : ℕ) (s : List ℕ) (st : State) → Left (read_rest i s st) i s st
unfolding read_rest
begun i s st = record { turns = suc (length s); enough = omega arith; same = refl }

-- a statement takes bytes
pub shorter : (i : ℕ) (s : List ℕ) (x : Stated) (j : ℕ) (r : List ℕ) → ok (Some x) j r ≡ next i s → length r < length s
shorter i s x j r q = let h : Moves some i s (ok (Some x) j r) = subst (Moves some i s) (sym q) (next_statement_moves i s) in omega (arith, h.place, h.past)

-- what was read, seen as it is said
pub read_some : (i : ℕ) (s : List ℕ) (j : ℕ) (r : List ℕ) (o : Option Statement) (x : Statement) → o ≡ Some x → ok (maybe stated_of o) j r ≡ next i s → ok (Some (stated_of x)) j r ≡ next i s
read_some i s j r o x p q = ap (λ y. ok (maybe stated_of y) j r) (sym p) ∙ q

module _ (o : Answer State) (i : ℕ) (s : List ℕ) (st : State) where
  going : (k : ℕ) (x : Stated) (j : ℕ) (r : List ℕ) (t : State) → length s < k → read_on k i s st ≡ o → ok (Some x) j r ≡ next i s → done t ≡ at x.place (add st x) → Left o j r t
  going zero x j r t l h q a = absurd (omega arith)
  going (suc k) x j r t l h q a =
      record {
        turns = k;
        enough = omega (arith, shorter i s x j r q);
        same = ap (λ z. and_done z (λ u. read_on k j r u)) a ∙ ap (λ z. step_on z (read_on k) st) q ∙ h;
      }

  pub go_on : Left o i s st → (x : Stated) (j : ℕ) (r : List ℕ) (t : State) → ok (Some x) j r ≡ next i s → done t ≡ at x.place (add st x) → Left o j r t
  go_on h x j r t q a = going h.turns x j r t h.enough h.same q a
