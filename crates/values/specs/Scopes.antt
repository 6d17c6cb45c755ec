-- What scopes and kept texts of the code stand for.
use Rattle.std.specs.Prelude.{ℕ, List}
use Rattle.store.specs.declared.text.Text.{Text}
use Rattle.store.specs.declared.text.Variable.{Variable}
use Rattle.store.specs.Stores.{used_of}
use Rattle.store.specs.Held.{text_in, entries_in}
use Rattle.values.specs.declared.scope.Names.{Names}
use Rattle.values.specs.Expand.{Scope}
use Rattle.values.specs.Kept.{Kept}

-- the scope of three lists of variables, by the used bytes of the store
abbrev pub scope_in : List ℕ → List Variable → List Variable → List Variable → Scope
scope_in u ss bs fs = record { special = entries_in u ss; block = entries_in u bs; file = entries_in u fs }

-- the scope of names that are looked up
abbrev pub scope_of : Names → Scope
scope_of c = scope_in (used_of c.store.now) c.lists.special.now c.lists.block.now c.lists.file.now

-- a text that was kept, and the store after it
abbrev pub kept_in : List ℕ → Text → Kept
kept_in u t = record { text = text_in u t; store = u }
