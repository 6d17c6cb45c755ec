-- One step more of a loop that follows each_edge.
use Rattle.std.proofs.Common.{◌≡◌, ℕ, suc, ◌+◌, ◌-◌, ◌<◌, Err, sym, ap, ◌∙◌, arith}
use Rattle.graph.specs.Data.{edge_at}
use Rattle.store.specs.Try.{Try}
use Rattle.draft.specs.State.{State}
use Rattle.reader.specs.declared.fault.Refusal.{Refusal}
use Rattle.reader.specs.declared.fault.Refusal.TheVariants.{Faulty, Memory}
use Rattle.reader.specs.Answers.{Answer, done, and_done, at}
use Rattle.reader.specs.Load.{each_edge}
use Rattle.reader.specs.Told.{Tells}

module _ {A B : Type 0} (f : A → B) where
  pub tells_then : {C X : Type 0} (g : X → C) (r : Refusal) (o : Answer B) (k : B → Answer C) → Tells f (Err r) o → Tells g (Err r) (and_done o k)
  tells_then g (Faulty e) o k h = ap (λ z. and_done z k) h
  tells_then g Memory o k h = tt

  pub tells_same : {X : Type 0} (g : X → B) (r : Refusal) (o u : Answer B) → o ≡ u → Tells f (Err r) o → Tells g (Err r) u
  tells_same g (Faulty e) o u h k = k ∙ h
  tells_same g Memory o u h k = tt

module _ (f : State → ℕ → Try State) (n e : ℕ) (st : State) (o : Answer State) (so : each_edge f (n - e) e st ≡ o) where
  each_here : e < n → and_done (at (edge_at st.edges e).place (f st e)) (λ t. each_edge f (n - (e + 1)) (e + 1) t) ≡ o
  each_here l =
      let k : n - e ≡ suc (n - (e + 1)) = omega arith in
      ap (λ m. each_edge f m e st) (sym k) ∙ so

  pub each_more : (t : State) → e < n → done t ≡ at (edge_at st.edges e).place (f st e) → each_edge f (n - (e + 1)) (e + 1) t ≡ o
  each_more t l h = ap (λ z. and_done z (λ u. each_edge f (n - (e + 1)) (e + 1) u)) h ∙ each_here l

  pub each_stop : {A B : Type 0} (g : A → State) (k : B → State) (r : Refusal) → e < n → Tells g (Err r) (at (edge_at st.edges e).place (f st e)) → Tells k (Err r) o
  each_stop g k r l h = tells_same k k r _ o (each_here l) (tells_then g k r (at (edge_at st.edges e).place (f st e)) (λ t. each_edge f (n - (e + 1)) (e + 1) t) h)
