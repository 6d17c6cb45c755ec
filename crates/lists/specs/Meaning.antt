-- What files and lists of the code mean.
use Rattle.std.specs.Prelude.{ℕ, List, map, vec_items, Vec}
use Rattle.std.specs.declared.alloc.Global.{Global}
use Rattle.expansion.specs.Meaning.{texts_of}
use Rattle.graph.specs.declared.kinds.File.{File}
use Rattle.graph.specs.Data.{FileData, file_of}
use Rattle.lists.specs.declared.kinds.Known.{Known}
use Rattle.lists.specs.declared.kinds.Paths.{Paths}
use Rattle.lists.specs.Files.{Walk}
use Rattle.lists.specs.Paths.{Lists}

-- the files that a vector holds
abbrev pub files_of : Vec File Global → List FileData
files_of v = map file_of (vec_items v)

-- all texts and files, and the numbers that a list has so far
abbrev pub walk_of : Known → Vec ℕ Global → Walk
walk_of k ns = record { texts = texts_of k.texts; files = files_of k.files; found = vec_items ns }

-- the paths of an edge, with all texts and files after them
abbrev pub lists_of : Known → Paths → Lists
lists_of k p =
    record { outputs = vec_items p.outputs; reads = vec_items p.reads; order_only = vec_items p.order_only; after = walk_of k p.validations }
