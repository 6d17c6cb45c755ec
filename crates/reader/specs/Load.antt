-- What a manifest comes to: its graph and text store, or its first fault.
use Rattle.std.specs.Prelude.{ℕ, zero, suc, ◌+◌, List, length, Some, None, Option}
use Rattle.cursor.specs.Scan.{Out, ok, bad, spot}
use Rattle.cursor.specs.declared.place.Fault.{Fault as TextFault}
use Rattle.text.specs.Text.{Stated, next, checked}
use Rattle.store.specs.declared.wrong.Wrong.TheVariants.{Circle}
use Rattle.store.specs.Try.{Try}
use Rattle.graph.specs.Data.{GraphData, edge_at}
use Rattle.graph.specs.Circle.{circle_of, ranks_of}
use Rattle.draft.specs.State.{State, no_state}
use Rattle.draft.specs.Statements.{add}
use Rattle.reader.specs.declared.fault.Fault.TheVariants.{Text, Meaning}
use Rattle.reader.specs.Answers.{Answer, done, failed, and_done, at}
use Rattle.reader.specs.Values.{valued, asked}

-- what the next reading adds to st, and how it goes on by k
abbrev pub step_on : Out (Option Stated) → (ℕ → List ℕ → State → Answer State) → State → Answer State
step_on (bad f) k st = failed (Text f)
step_on (ok None j r) k st = done st
step_on (ok (Some x) j r) k st = and_done (at x.place (add st x)) (λ t. k j r t)

-- the statements in s, the first of whose bytes stands at i, at most n of them: each is read, then looked at
abbrev pub read_on : ℕ → ℕ → List ℕ → State → Answer State
read_on zero i s st = done st
read_on (suc n) i s st = step_on (next i s) (read_on n) st

-- all statements of s; there are no more than bytes
abbrev pub read_all : List ℕ → Answer State
read_all s = read_on (suc (length s)) 0 s no_state

-- a step for each of n edges from e on
abbrev pub each_edge : (State → ℕ → Try State) → ℕ → ℕ → State → Answer State
each_edge f zero e st = done st
each_edge f (suc n) e st = and_done (at (edge_at st.edges e).place (f st e)) (λ t. each_edge f n (e + 1) t)

-- a graph with the used bytes of its text store
pub record Loaded : Type 0 where
  pub graph : GraphData
  pub store : List ℕ

-- the graph of what was read, with its ranks
abbrev pub loaded : List ℕ → State → Loaded
loaded ranks st =
    record { graph = record { files = st.files; edges = st.edges; pools = st.pools; ranks = ranks }; store = st.texts.store }

-- no edge may be on a circle, then each edge gets its values, then each its question
abbrev pub finish_by : Option ℕ → State → Answer Loaded
finish_by (Some c) st = failed (Meaning Circle (spot (edge_at st.edges c).place))
finish_by None st =
    and_done (each_edge valued (length st.edges) 0 st) (λ t.
    and_done (each_edge asked (length t.edges) 0 t) (λ u. done (loaded (ranks_of st.files st.edges) u)))

-- what is done once all statements are read
abbrev pub finish : State → Answer Loaded
finish st = finish_by (circle_of st.files st.edges) st

-- faults of all bytes come before any other
abbrev pub load_by : Option TextFault → List ℕ → Answer Loaded
load_by (Some f) s = failed (Text f)
load_by None s = and_done (read_all s) finish

-- what the bytes s come to
unfoldable pub load_of : List ℕ → Answer Loaded
load_of s = load_by (checked s) s
