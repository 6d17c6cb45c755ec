-- The reading of a whole text, and what a load comes to.
use Rattle.std.proofs.Common.{◌≡◌, ℕ, List, [], take, Some, None, Err, Option, refl, ap, ◌∙◌}
use Rattle.cursor.specs.declared.place.Fault.{Fault as TextFault}
use Rattle.text.specs.Text.{checked}
use Rattle.text.proofs.Refused.{all_read}
use Rattle.graph.specs.Data.{GraphData}
use Rattle.draft.specs.State.{State, no_state}
use Rattle.reader.specs.declared.fault.Refusal.{Refusal}
use Rattle.reader.specs.declared.fault.Refusal.TheVariants.{Faulty, Memory}
use Rattle.reader.specs.Answers.{Answer, and_done}
use Rattle.reader.specs.Load.{Loaded, finish, load_by, load_of}
use Rattle.reader.specs.Loads.{no_graph, Loads}
use Rattle.reader.specs.Reading.{read_rest, read_by}
use Rattle.reader.specs.Told.{Tells}

-- a text with no fault of its bytes is read from its start to its end
pub read_whole : (s t : List ℕ) (i : ℕ) (st : State) → i ≡ 0 → t ≡ take 65535 s → st ≡ no_state → None ≡ checked s → read_rest i t st ≡ read_by (checked s) s
unfolding read_rest
read_whole s t i st a b c e =
    ap (λ x. read_rest x t st) a ∙ ap (λ x. read_rest 0 x st) (b ∙ all_read s e) ∙ ap (λ x. read_rest 0 s x) c ∙ ap (λ o. read_by o s) e

load_by_reading : (o : Option TextFault) (s : List ℕ) → and_done (read_by o s) finish ≡ load_by o s
load_by_reading (Some f) s = refl
load_by_reading None s = refl

-- a load is a reading, and what is done after it
pub load_reading : (s : List ℕ) → and_done (read_by (checked s) s) finish ≡ load_of s
unfolding load_of
load_reading s = load_by_reading (checked s) s

-- what a refused load leaves
pub loads_none : {A : Type 0} (f : A → Loaded) (r : Refusal) (g : GraphData) (u : List ℕ) (o : Answer Loaded) → Tells f (Err r) o → g ≡ no_graph → u ≡ [] → Loads (Err r) g u o
loads_none f (Faulty e) g u o h a b = (h, a, b)
loads_none f Memory g u o h a b = (a, b)
