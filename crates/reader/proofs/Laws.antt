-- What a load answered, in the words of manifests.
use Rattle.std.proofs.Common.{◌≡◌, ℕ, List, Ok, Err, Result, sym, ap, ◌∙◌, arith}
use Rattle.graph.specs.Data.{GraphData}
use Rattle.reader.specs.declared.fault.Fault.{Fault}
use Rattle.reader.specs.declared.fault.Refusal.{Refusal}
use Rattle.reader.specs.declared.fault.Refusal.TheVariants.{Faulty, Memory}
use Rattle.reader.specs.Answers.{Answer, done, failed}
use Rattle.reader.specs.Load.{load_of}
use Rattle.reader.specs.Loads.{Loads, Meant, Round}
use Rattle.reader.proofs.Meaning.{means_full, means_sound, circular_full, circular_sound}

only_done : {A : Type 0} (a b : A) → done a ≡ done b → a ≡ b
only_done a b e = cc

only_failed : {A : Type 0} (f g : Fault) → ◌≡◌ {A = Answer A} (failed f) (failed g) → f ≡ g
only_failed f g e = cc

done_failed : {A : Type 0} (a : A) (f : Fault) → done a ≡ failed f → ⊥
done_failed a f e = let z : ◌≡◌ {A = ℕ} 0 1 = cc in omega arith

pub meant : (r : Result (Unit {0}) Refusal) (g : GraphData) (u s : List ℕ) → Loads r g u (load_of s) → Meant r g u s
meant (Ok x) g u s h =
    (means_full s (record { graph = g; store = u }) (sym h), λ l m. only_done l (record { graph = g; store = u }) (sym (means_sound s l m) ∙ sym h))
meant (Err (Faulty f)) g u s h = λ l m. done_failed l f (sym (means_sound s l m) ∙ sym h.0)
meant (Err Memory) g u s h = tt

pub round : (r : Result (Unit {0}) Refusal) (g : GraphData) (u s : List ℕ) → Loads r g u (load_of s) → Round r s
round (Ok x) g u s h = λ p c. done_failed _ _ (h ∙ circular_sound s p c)
round (Err (Faulty f)) g u s h =
    λ p. (λ e. circular_full s p (sym h.0 ∙ ap (λ z. failed z) e), λ c. only_failed f _ (h.0 ∙ circular_sound s p c))
round (Err Memory) g u s h = tt
