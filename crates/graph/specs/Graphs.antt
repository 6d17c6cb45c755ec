-- What a graph of the code means, and what is read off it.
use Rattle.std.specs.Prelude.{◌≡◌, ℕ, ◌<◌, List, map, length, Some, None, vec_items, Option, ◌≢◌}
use Rattle.std.specs.Str.{bytes_eq}
use Rattle.graph.specs.declared.whole.Graph.{Graph}
use Rattle.graph.specs.Data.{FileData, GraphData, data_of, path_at, edge_at}
use Rattle.graph.specs.Circle.{least}
use Rattle.graph.specs.Question.{command_of}

-- what a graph of the code means
abbrev pub graph_of : Graph → GraphData
graph_of g = data_of (vec_items g.files) (vec_items g.edges) (vec_items g.pools) (vec_items g.ranks)

-- the question of the edge e
abbrev pub question_at : GraphData → ℕ → List ℕ
question_at g e = (edge_at g.edges e).question

-- the paths that the edge e reads
abbrev pub read_paths : GraphData → ℕ → List (List ℕ)
read_paths g e = map (path_at g.files) (edge_at g.edges e).reads

-- the paths that the edge e writes
abbrev pub output_paths : GraphData → ℕ → List (List ℕ)
output_paths g e = map (path_at g.files) (edge_at g.edges e).outputs

-- the edge e of g and the edge d of h have the same command, read the same paths and write the same paths
pub record SameAction (g : GraphData) (e : ℕ) (h : GraphData) (d : ℕ) : Type 0 where
  pub command : command_of (question_at g e) ≡ command_of (question_at h d)
  pub reads : read_paths g e ≡ read_paths h d
  pub outputs : output_paths g e ≡ output_paths h d

-- the first file with the path
abbrev pub file_named : List FileData → List ℕ → Option ℕ
file_named fs p = least (λ f. bytes_eq (path_at fs f) p) 0 (length fs)

-- f is the only file with the path
pub record OnlyFile (fs : List FileData) (p : List ℕ) (f : ℕ) : Type 0 where
  pub within : f < length fs
  pub has : path_at fs f ≡ p
  pub only : (a : ℕ) → a < length fs → path_at fs a ≡ p → a ≡ f

-- what an answer tells of the files with the path
abbrev pub Named : List FileData → List ℕ → Option ℕ → Type 0
Named fs p None = (f : ℕ) → f < length fs → path_at fs f ≢ p
Named fs p (Some f) = OnlyFile fs p f
