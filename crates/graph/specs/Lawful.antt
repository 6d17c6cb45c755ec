-- The law that every graph keeps: its limits, and how its files, edges, pools and ranks agree.
use Rattle.std.specs.Prelude.{◌≡◌, ℕ, ◌<◌, ◌≤◌, Bool, true, false, List, map, length, Some, None, Option, nat_lt, slice_index}
use Rattle.graph.specs.Data.{EdgeData, GraphData, path_at, maker_at, edge_at, depth_at}
use Rattle.graph.specs.Circle.{is_maker, needs}
use Rattle.graph.specs.Question.{holds, command_of, question_of}

-- how many files, edges and pools there are at most
pub record Few (g : GraphData) : Type 0 where
  pub files : length g.files ≤ 256
  pub edges : length g.edges ≤ 128
  pub pools : length g.pools ≤ 16
  deriving IsProp as few_prop

-- the file f: its path has 1 to 128 bytes, none of them 0, and it stands among the outputs of its maker
pub record FileLaw (g : GraphData) (f : ℕ) : Type 0 where
  pub some : 1 ≤ length (path_at g.files f)
  pub short : length (path_at g.files f) ≤ 128
  pub plain : holds 0 (path_at g.files f) ≡ false
  pub maker : (e : ℕ) → is_maker e (maker_at g.files f) ≡ true → e < length g.edges
  pub among : (e : ℕ) → is_maker e (maker_at g.files f) ≡ true → holds f (edge_at g.edges e).outputs ≡ true
  deriving IsProp as file_prop

-- the pool p: its depth is 1 to 64
pub record PoolLaw (g : GraphData) (p : ℕ) : Type 0 where
  pub some : 1 ≤ depth_at g.pools p
  pub most : depth_at g.pools p ≤ 64
  deriving IsProp as pool_prop

-- every number is below n
abbrev pub Below : ℕ → List ℕ → Type 0
Below n xs = (i : ℕ) → i < length xs → slice_index xs i < n

-- no number stands twice
abbrev pub Apart : List ℕ → Type 0
Apart xs = (i j : ℕ) → i < length xs → j < length xs → slice_index xs i ≡ slice_index xs j → i ≡ j

-- the number, if there is one, is below n
abbrev pub pool_below : ℕ → Option ℕ → Bool
pool_below n None = true
pool_below n (Some p) = nat_lt p n

-- the lists of the edge x: how long they are, and that they name files and pools of the graph
pub record ListLaw (g : GraphData) (x : EdgeData) : Type 0 where
  pub some : 1 ≤ length x.outputs
  pub few : length x.outputs ≤ 8
  pub explicit : 1 ≤ x.explicit_outputs
  pub explicit_outputs : x.explicit_outputs ≤ length x.outputs
  pub reads : length x.reads ≤ 64
  pub explicit_reads : x.explicit_reads ≤ length x.reads
  pub order_only : length x.order_only ≤ 64
  pub validations : length x.validations ≤ 16
  pub outputs_known : Below (length g.files) x.outputs
  pub reads_known : Below (length g.files) x.reads
  pub order_only_known : Below (length g.files) x.order_only
  pub validations_known : Below (length g.files) x.validations
  pub pool_known : pool_below (length g.pools) x.pool ≡ true
  deriving IsProp as list_prop

-- the edge x, whose number is e: its outputs differ and it is their maker, and its question has its command and paths
pub record EdgeLaw (g : GraphData) (e : ℕ) (x : EdgeData) : Type 0 where
  pub lists : ListLaw g x
  pub apart : Apart x.outputs
  pub makes : (i : ℕ) → i < length x.outputs → is_maker e (maker_at g.files (slice_index x.outputs i)) ≡ true
  pub short : length x.question ≤ 1024
  pub asks : x.question ≡ question_of (command_of x.question) (map (path_at g.files) x.reads) (map (path_at g.files) x.outputs)
  deriving IsProp as edge_prop

-- the ranks: one for each edge, below the number of edges, and above that of every edge that it needs
pub record RankLaw (g : GraphData) : Type 0 where
  pub long : length g.ranks ≡ length g.edges
  pub low : (e : ℕ) → e < length g.edges → slice_index g.ranks e < length g.edges
  pub falls : (e d : ℕ) → needs g.files g.edges e d ≡ true → slice_index g.ranks d < slice_index g.ranks e
  deriving IsProp as rank_prop

-- the whole law; files with equal paths are the same file
pub record Lawful (g : GraphData) : Type 0 where
  pub few : Few g
  pub file : (f : ℕ) → f < length g.files → FileLaw g f
  pub same : (a b : ℕ) → a < length g.files → b < length g.files → path_at g.files a ≡ path_at g.files b → a ≡ b
  pub pool : (p : ℕ) → p < length g.pools → PoolLaw g p
  pub edge : (e : ℕ) → e < length g.edges → EdgeLaw g e (edge_at g.edges e)
  pub rank : RankLaw g
  deriving IsProp as lawful_prop
