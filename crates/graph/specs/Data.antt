-- A graph as lists and numbers, and what the code's structs mean as such.
use Rattle.std.specs.Prelude.{ℕ, Bool, false, List, [], map, get_or, None, vec_items, Option, slice_index_or}
use Rattle.graph.specs.declared.kinds.File.{File}
use Rattle.graph.specs.declared.kinds.Pool.{Pool}
use Rattle.graph.specs.declared.kinds.Edge.{Edge}

-- a file: its path, and the edge that makes it
pub record FileData : Type 0 where
  pub path : List ℕ
  pub maker : Option ℕ

-- a pool: its name, and how many of its commands may run at once
pub record PoolData : Type 0 where
  pub name : List ℕ
  pub depth : ℕ

-- an edge: where it stands, its files by number, its texts, its pool, and whether it is restat
pub record EdgeData : Type 0 where
  pub place : ℕ
  pub outputs : List ℕ
  pub explicit_outputs : ℕ
  pub reads : List ℕ
  pub explicit_reads : ℕ
  pub order_only : List ℕ
  pub validations : List ℕ
  pub question : List ℕ
  pub description : List ℕ
  pub pool : Option ℕ
  pub restat : Bool

-- a graph: files, edges and pools by number, and a rank for each edge
pub record GraphData : Type 0 where
  pub files : List FileData
  pub edges : List EdgeData
  pub pools : List PoolData
  pub ranks : List ℕ

-- what a file of the code means
abbrev pub file_of : File → FileData
file_of f = record { path = vec_items f.path; maker = f.maker }

-- what a pool of the code means
abbrev pub pool_of : Pool → PoolData
pool_of p = record { name = vec_items p.name; depth = p.depth }

-- what an edge of the code means
abbrev pub edge_of : Edge → EdgeData
edge_of e = record {
  place = e.place.byte;
  outputs = vec_items e.outputs;
  explicit_outputs = e.explicit_outputs;
  reads = vec_items e.reads;
  explicit_reads = e.explicit_reads;
  order_only = vec_items e.order_only;
  validations = vec_items e.validations;
  question = vec_items e.question;
  description = vec_items e.description;
  pool = e.pool;
  restat = e.restat;
}

-- a file with no path and no maker
abbrev pub no_file : FileData
no_file = record { path = []; maker = None }

-- the path of the file f: nothing where there is no such file
abbrev pub path_at : List FileData → ℕ → List ℕ
path_at fs f = (get_or fs f no_file).path

-- the edge that makes the file f: none where there is no such file
abbrev pub maker_at : List FileData → ℕ → Option ℕ
maker_at fs f = (get_or fs f no_file).maker

-- an edge with no files
abbrev pub no_edge : EdgeData
no_edge = record {
  place = 0;
  outputs = [];
  explicit_outputs = 0;
  reads = [];
  explicit_reads = 0;
  order_only = [];
  validations = [];
  question = [];
  description = [];
  pool = None;
  restat = false;
}

-- the edge e: one with no files where there is no such edge
abbrev pub edge_at : List EdgeData → ℕ → EdgeData
edge_at es e = slice_index_or es e no_edge

-- a pool with no name and no room
abbrev pub no_pool : PoolData
no_pool = record { name = []; depth = 0 }

-- the depth of the pool p: 0 where there is no such pool
abbrev pub depth_at : List PoolData → ℕ → ℕ
depth_at ps p = (get_or ps p no_pool).depth

-- what the lists of the code mean as a graph
abbrev pub data_of : List File → List Edge → List Pool → List ℕ → GraphData
data_of fs es ps rs = record { files = map file_of fs; edges = map edge_of es; pools = map pool_of ps; ranks = rs }
