-- What the texts of the code stand for.
use Rattle.std.specs.Prelude.{ℕ, List, vec_items, Vec}
use Rattle.std.specs.declared.alloc.Global.{Global}
use Rattle.store.specs.declared.text.Text.{Text}
use Rattle.store.specs.declared.text.Variable.{Variable}
use Rattle.store.specs.Stores.{used_of}
use Rattle.store.specs.Held.{text_in, entries_in, blocks_in}
use Rattle.expansion.specs.declared.texts.Texts.{Texts}
use Rattle.expansion.specs.Model.{TextsData, Read}

-- all texts, by the used bytes of the store
abbrev pub data_in : List ℕ → List Variable → List Variable → List (Vec Variable Global) → TextsData
data_in u fs bs cs = record { store = u; file = entries_in u fs; block = entries_in u bs; blocks = blocks_in u cs }

-- all texts of a manifest as far as it is read
abbrev pub texts_of : Texts → TextsData
texts_of t = data_in (used_of t.store) (vec_items t.file) (vec_items t.block) (vec_items t.closed)

-- a text that was read, and all texts after it
abbrev pub read_of : Texts → Text → Read
read_of t r = record { text = text_in (used_of t.store) r; texts = texts_of t }
