-- The law comes out of the ghost field, and the empty graph keeps it.
use Rattle.std.proofs.Common.{◌≡◌, ℕ, ◌<◌, List, length, Some, None, Option, sym, ◌∙◌, arith}
use mathlib.Core.Logic.{∥∥₁_elim}
use denote.Struct.Props.{props}
use Rattle.std.specs.Str.{bytes_eq}
use Rattle.std.proofs.lemmas.Slice.Eq.{bytes_eq-Decides}
use Rattle.std.proofs.lemmas.Bool.{both_ways}
use Rattle.graph.specs.declared.whole.Graph.{Graph}
use Rattle.graph.specs.Data.{EdgeData, GraphData, path_at}
use Rattle.graph.specs.Graphs.{graph_of, file_named, Named}
use Rattle.graph.specs.Lawful.{Few, few_prop, FileLaw, file_prop, PoolLaw, pool_prop, ListLaw, list_prop, EdgeLaw, edge_prop, RankLaw, rank_prop, Lawful, lawful_prop}
use Rattle.graph.proofs.Counts.{least_is, least_none}

few_is : (g : GraphData) → IsProp (Few g)
few_is g = few_prop {g = g} (hlevel props) (hlevel props) (hlevel props)

file_is : (g : GraphData) (f : ℕ) → IsProp (FileLaw g f)
file_is g f = file_prop {g = g} {f = f} (hlevel props) (hlevel props) (hlevel props) (hlevel props) (hlevel props)

pool_is : (g : GraphData) (p : ℕ) → IsProp (PoolLaw g p)
pool_is g p = pool_prop {g = g} {p = p} (hlevel props) (hlevel props)

list_is : (g : GraphData) (x : EdgeData) → IsProp (ListLaw g x)
list_is g x =
    list_prop {g = g} {x = x} (hlevel props) (hlevel props) (hlevel props) (hlevel props) (hlevel props) (hlevel props) (hlevel props) (hlevel props)
    (hlevel props) (hlevel props) (hlevel props) (hlevel props) (hlevel props)

edge_is : (g : GraphData) (e : ℕ) (x : EdgeData) → IsProp (EdgeLaw g e x)
edge_is g e x = edge_prop {g = g} {e = e} {x = x} (list_is g x) (hlevel props) (hlevel props) (hlevel props) (hlevel props)

rank_is : (g : GraphData) → IsProp (RankLaw g)
rank_is g = rank_prop {g = g} (hlevel props) (hlevel props) (hlevel props)

taken : (g : GraphData) → ∥ Lawful g ∥₁ → Lawful g
taken g t =
    ∥∥₁_elim t
    (lawful_prop {g = g} (few_is g) (hlevel (props, file_is)) (hlevel props) (hlevel (props, pool_is)) (hlevel (props, edge_is)) (rank_is g))
    (λ h. h)

-- the law of a graph
pub held : (g : Graph) → Lawful (graph_of g)
held g = taken (graph_of g) g.lawful

-- a file that is found is the only one with its path
pub named_is : (g : GraphData) → Lawful g → (p : List ℕ) (r : Option ℕ) → r ≡ file_named g.files p → Named g.files p r
named_is g law p None e =
    λ f l h.
    both_ways (bytes_eq (path_at g.files f) p)
    (least_none (λ x. bytes_eq (path_at g.files x) p) 0 (length g.files) (sym e) f (omega arith) (omega arith))
    ((bytes_eq-Decides (path_at g.files f) p).1 h)
named_is g law p (Some f) e =
    let r = least_is (λ x. bytes_eq (path_at g.files x) p) 0 (length g.files) f (sym e) in
    let w : f < length g.files = omega (arith, r.within) in
    let h : path_at g.files f ≡ p = (bytes_eq-Decides (path_at g.files f) p).0 r.passes in
    record { within = w; has = h; only = λ a l q. law.same a f l w (q ∙ sym h) }
