-- The texts of a manifest as far as it is read: the store, the file's variables, and the variables of blocks.
use Rattle.std.specs.Prelude.{ℕ, List, [], ◌∷◌, ◌++◌, codes, slice_index_or}
use Rattle.parts.specs.Parts.{Entry}
use Rattle.store.specs.Try.{Try, got, and_try}
use Rattle.store.specs.Stores.{stored}
use Rattle.values.specs.Expand.{Scope, look, expand}
use Rattle.values.specs.Kept.{sized, Kept, keep, bound}

-- the store's used bytes, the file's variables, those of the block that is open, and those of each closed block
pub record TextsData : Type 0 where
  pub store : List ℕ
  pub file : List Entry
  pub block : List Entry
  pub blocks : List (List Entry)

-- nothing read yet
abbrev pub no_texts : TextsData
no_texts = record { store = []; file = []; block = []; blocks = [] }

-- values of the file, of depths and of blocks see the file's variables so far
abbrev pub file_scope : TextsData → Scope
file_scope d = record { special = []; block = []; file = d.file }

-- paths see the open block, then the file's variables so far
abbrev pub block_scope : TextsData → Scope
block_scope d = record { special = []; block = d.block; file = d.file }

-- a rule's values for the edge e see `in` and `out`, the edge's block, then the file's variables
abbrev pub rule_scope : TextsData → ℕ → List ℕ → List ℕ → Scope
rule_scope d e ins outs =
    record { special = record { name = codes "in"; value = ins } ∷ record { name = codes "out"; value = outs } ∷ []; block = slice_index_or d.blocks e []; file = d.file }

-- a variable of the file
abbrev pub set_file : TextsData → Entry → Try TextsData
set_file d e =
    and_try (keep 0 1024 (file_scope d) d.store e.value) (λ k.
    and_try (bound 128 d.file (record { name = e.name; value = k.text })) (λ vs.
    got (record { store = k.store; file = vs; block = d.block; blocks = d.blocks })))

-- a variable of the open block
abbrev pub set_block : TextsData → Entry → Try TextsData
set_block d e =
    and_try (keep 0 1024 (file_scope d) d.store e.value) (λ k.
    and_try (bound 16 d.block (record { name = e.name; value = k.text })) (λ vs.
    got (record { store = k.store; file = d.file; block = vs; blocks = d.blocks })))

-- a text that was read, and all texts after it
pub record Read : Type 0 where
  pub text : List ℕ
  pub texts : TextsData

-- the texts d with another store
abbrev pub with_store : TextsData → List ℕ → TextsData
with_store d s = record { store = s; file = d.file; block = d.block; blocks = d.blocks }

-- what was kept, with all texts after it
abbrev pub read_as : TextsData → Kept → Read
read_as d k = record { text = k.text; texts = with_store d k.store }

-- the value of a depth line
abbrev pub read_depth : TextsData → List ℕ → Try Read
read_depth d v = and_try (keep 0 1024 (file_scope d) d.store v) (λ k. got (read_as d k))

-- a path of a build statement, of 1 to 128 bytes
abbrev pub read_path : TextsData → List ℕ → Try Read
read_path d v = and_try (keep 1 128 (block_scope d) d.store v) (λ k. got (read_as d k))

-- the open block is closed, as that of the next edge
abbrev pub close_block : TextsData → TextsData
close_block d = record { store = d.store; file = d.file; block = []; blocks = d.blocks ++ d.block ∷ [] }

-- a rule's value for the edge e
abbrev pub rule_value : TextsData → ℕ → List ℕ → List ℕ → List ℕ → Try (List ℕ)
rule_value d e ins outs v = sized 0 1024 (expand (look (rule_scope d e ins outs)) v)

-- an edge's question, of at most 1,024 bytes, goes to the store
abbrev pub ask : TextsData → List ℕ → Try TextsData
ask d q = and_try (sized 0 1024 q) (λ t. and_try (stored d.store t) (λ s. got (with_store d s)))
