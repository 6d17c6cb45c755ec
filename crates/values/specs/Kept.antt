-- Limits of texts, and what the text store receives.
use Rattle.std.specs.Prelude.{ℕ, cond, ◌&&◌, List, [], ◌∷◌, length, is_some, nat_le, nat_lt}
use Rattle.parts.specs.Parts.{Entry}
use Rattle.std.specs.Str.{bytes_eq}
use Rattle.store.specs.declared.wrong.Wrong.TheVariants.{Limit}
use Rattle.store.specs.Try.{Try, got, wrong, and_try}
use Rattle.store.specs.Stores.{stored}
use Rattle.values.specs.Expand.{dollar, find, Scope, look, expand}

-- a text of low to high bytes
abbrev pub sized : ℕ → ℕ → List ℕ → Try (List ℕ)
sized low high t = cond (nat_le low (length t) && nat_le (length t) high) (got t) (wrong Limit)

-- the store after the source v came out as t: it receives just the texts of what has a `$`
abbrev pub received : List ℕ → List ℕ → List ℕ → Try (List ℕ)
received s v t = cond (dollar v) (stored s t) (got s)

-- a text, and the store after it
pub record Kept : Type 0 where
  pub text : List ℕ
  pub store : List ℕ

-- the source v in the scope c: its text, of low to high bytes, and the store s after it
abbrev pub keep : ℕ → ℕ → Scope → List ℕ → List ℕ → Try Kept
keep low high c s v =
    and_try (sized low high (expand (look c) v)) (λ t. and_try (received s v t) (λ u. got (record { text = t; store = u })))

-- the variables es after the variable e is set: a later text replaces an earlier one
abbrev pub bind : List Entry → Entry → List Entry
bind [] e = e ∷ []
bind (d ∷ ds) e = cond (bytes_eq d.name e.name) (e ∷ ds) (d ∷ bind ds e)

-- the same, with at most k names
abbrev pub bound : ℕ → List Entry → Entry → Try (List Entry)
bound k es e = cond (is_some (find es e.name)) (got (bind es e)) (cond (nat_lt (length es) k) (got (bind es e)) (wrong Limit))
