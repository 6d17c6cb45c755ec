-- What the code's vectors and structs mean.
use Rattle.std.specs.Prelude.{List, map, vec_items, Vec}
use Rattle.std.specs.declared.alloc.Global.{Global}
use Rattle.expansion.specs.Meaning.{texts_of}
use Rattle.graph.specs.declared.kinds.Pool.{Pool}
use Rattle.graph.specs.declared.kinds.Edge.{Edge}
use Rattle.graph.specs.Data.{PoolData, pool_of, EdgeData, edge_of}
use Rattle.lists.specs.Meaning.{files_of}
use Rattle.text.specs.declared.kinds.Declared.{Declared}
use Rattle.text.specs.Text.{Head, head_of}
use Rattle.draft.specs.declared.kinds.Draft.{Draft}
use Rattle.draft.specs.State.{State}

-- the rules that a vector holds
abbrev pub rules_of : Vec Declared Global → List Head
rules_of v = map head_of (vec_items v)

-- the pools that a vector holds
abbrev pub pools_of : Vec Pool Global → List PoolData
pools_of v = map pool_of (vec_items v)

-- the edges that a vector holds
abbrev pub edges_of : Vec Edge Global → List EdgeData
edges_of v = map edge_of (vec_items v)

-- what the statements have come to so far
abbrev pub state_of : Draft → State
state_of d =
    record { texts = texts_of d.known.texts; rules = rules_of d.rules; pools = pools_of d.pools; files = files_of d.known.files; edges = edges_of d.edges; chosen = vec_items d.chosen }
