-- What names and values stand for, said as relations.
use Rattle.std.specs.Prelude.{◌≡◌, ℕ, ◌+◌, ◌≤◌, true, false, ◌⊎◌, List, [], ◌∷◌, ◌++◌, length, ◌≢◌, slice_index}
use Rattle.std.specs.List.{AllByRecursion}
use Rattle.byteclass.specs.Class.{simple_byte}
use Rattle.cursor.specs.Scan.{up_to}
use Rattle.parts.specs.Parts.{Entry}
use Rattle.text.specs.Grammar.{Spaces, Name}
use Rattle.values.specs.Expand.{Scope}

-- the first of the variables that is called n has the text t
pub data Holds : List Entry → List ℕ → List ℕ → Type 0 where
  here : {e : Entry} {es : List Entry} {n : List ℕ} → e.name ≡ n → Holds (e ∷ es) n e.value
  there : {e : Entry} {es : List Entry} {n t : List ℕ} → (e.name ≢ n) → Holds es n t → Holds (e ∷ es) n t

-- none of the variables is called n
abbrev pub Lacks : List Entry → List ℕ → Type 0
Lacks es n = AllByRecursion (λ e. e.name ≢ n) es

-- the name n stands for t: what is special comes first, then the block, then the file, then the empty text
pub data Stands (c : Scope) (n : List ℕ) : List ℕ → Type 0 where
  special : {t : List ℕ} → Holds c.special n t → Stands c n t
  block : {t : List ℕ} → Lacks c.special n → Holds c.block n t → Stands c n t
  file : {t : List ℕ} → Lacks c.special n → Lacks c.block n → Holds c.file n t → Stands c n t
  nowhere : Lacks c.special n → Lacks c.block n → Lacks c.file n → Stands c n []

-- one or more simple name bytes, up to a byte that is none
pub data Simple : List ℕ → List ℕ → Type 0 where
  last : {b : ℕ} {s : List ℕ} → simple_byte b ≡ true → simple_byte (slice_index s 0) ≡ false → Simple (b ∷ s) s
  more : {b : ℕ} {s r : List ℕ} → simple_byte b ≡ true → Simple s r → Simple (b ∷ s) r

-- a source stands for a text, where Is says what names stand for
pub data Expands (Is : List ℕ → List ℕ → Type 0) : List ℕ → List ℕ → Type 0 where
  end : Expands Is [] []
  plain : {b : ℕ} {s t : List ℕ} → (b ≢ 36) → Expands Is s t → Expands Is (b ∷ s) (b ∷ t)
  wrap : {b c : ℕ} {s r t : List ℕ} → b ≡ 36 → c ≡ 10 → Spaces s r → Expands Is r t → Expands Is (b ∷ c ∷ s) t
  itself : {b c : ℕ} {s t : List ℕ} → b ≡ 36 → (c ≡ 32) ⊎ ((c ≡ 58) ⊎ (c ≡ 36)) → Expands Is s t → Expands Is (b ∷ c ∷ s) (c ∷ t)
  braces : {b c d : ℕ} {s r u t : List ℕ} → b ≡ 36 → c ≡ 123 → Name s (d ∷ r) → d ≡ 125 → Is (up_to s (d ∷ r)) u → Expands Is r t → Expands Is (b ∷ c ∷ s) (u ++ t)
  simple : {b : ℕ} {s r u t : List ℕ} → b ≡ 36 → Simple s r → Is (up_to s r) u → Expands Is r t → Expands Is (b ∷ s) (u ++ t)

-- the store s receives the text t of a source that has a `$`, and no other
pub data Receives : List ℕ → List ℕ → List ℕ → List ℕ → Type 0 where
  nothing : {s v t : List ℕ} → AllByRecursion (λ b. b ≢ 36) v → Receives s v t s
  text : {s v t : List ℕ} → (AllByRecursion (λ b. b ≢ 36) v → ⊥) → length s + length t ≤ 32768 → Receives s v t (s ++ t)

-- the source v has the text t in the scope c, of low to high bytes, and the store s is u after it
pub record Keeps (low high : ℕ) (c : Scope) (s v t u : List ℕ) : Type 0 where
  pub stands : Expands (Stands c) v t
  pub least : low ≤ length t
  pub most : length t ≤ high
  pub receives : Receives s v t u
