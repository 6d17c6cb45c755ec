-- What `load` answers and leaves.
use Rattle.std.specs.Prelude.{◌≡◌, ℕ, List, [], map, Ok, Err, vec_items, Result}
use Rattle.cursor.specs.Scan.{spot}
use Rattle.store.specs.declared.wrong.Wrong.TheVariants.{Circle}
use Rattle.store.specs.declared.store.Store.{Store}
use Rattle.store.specs.Stores.{used_of}
use Rattle.graph.specs.declared.whole.Graph.{Graph}
use Rattle.graph.specs.Data.{GraphData, file_of, edge_of, pool_of}
use Rattle.graph.specs.Graphs.{graph_of}
use Rattle.reader.specs.declared.fault.Fault.TheVariants.{Meaning}
use Rattle.reader.specs.declared.fault.Refusal.{Refusal}
use Rattle.reader.specs.declared.fault.Refusal.TheVariants.{Faulty, Memory}
use Rattle.reader.specs.declared.pieces.Pieces.{Pieces}
use Rattle.reader.specs.Answers.{Answer, done, failed}
use Rattle.reader.specs.Load.{Loaded}
use Rattle.reader.specs.Means.{Means, Circular}

-- the parts of a graph, and its store
abbrev pub pieces_of : Pieces → Loaded
pieces_of p =
    record { graph = record { files = map file_of (vec_items p.files); edges = map edge_of (vec_items p.edges); pools = map pool_of (vec_items p.pools); ranks = vec_items p.ranks }; store = used_of p.store }

-- a graph and a store
abbrev pub whole_of : Graph × Store → Loaded
whole_of p = record { graph = graph_of p.0; store = used_of p.1 }

-- a graph with nothing in it
abbrev pub no_graph : GraphData
no_graph = record { files = []; edges = []; pools = []; ranks = [] }

-- a load answered r and left the graph g and a store with the used bytes u, where the manifest comes to o
abbrev pub Loads : Result (Unit {0}) Refusal → GraphData → List ℕ → Answer Loaded → Type 0
Loads (Ok x) g u o = done (record { graph = g; store = u }) ≡ o
Loads (Err (Faulty f)) g u o = (failed f ≡ o) × (g ≡ no_graph) × (u ≡ [])
Loads (Err Memory) g u o = (g ≡ no_graph) × (u ≡ [])

-- the same in the words of manifests: what is accepted means this graph and store and no other, what is refused means none
abbrev pub Meant : Result (Unit {0}) Refusal → GraphData → List ℕ → List ℕ → Type 0
Meant (Ok x) g u s =
    Means s (record { graph = g; store = u }) × ((l : Loaded) → Means s l → l ≡ record { graph = g; store = u })
Meant (Err (Faulty f)) g u s = (l : Loaded) → Means s l → ⊥
Meant (Err Memory) g u s = Unit {0}

-- a circle of inputs is what a load refuses, exactly where there is one, with the place of the lowest edge on one
abbrev pub Round : Result (Unit {0}) Refusal → List ℕ → Type 0
Round (Ok x) s = (p : ℕ) → Circular s p → ⊥
Round (Err (Faulty f)) s = (p : ℕ) → (f ≡ Meaning Circle (spot p) → Circular s p) × (Circular s p → f ≡ Meaning Circle (spot p))
Round (Err Memory) s = Unit {0}
