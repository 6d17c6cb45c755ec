-- The grammar of manifests: which bytes are a gap, a name, a value, a path, a block, a statement, a manifest.
-- Each relation is between bytes s, what they say, and the bytes r that are left after it.
use Rattle.std.specs.Prelude.{◌≡◌, ℕ, suc, ◌-◌, ◌<◌, ◌≤◌, true, false, ◌⊎◌, List, [], ◌∷◌, ◌++◌, map, length, take, Ok, Err, vec_items, Result, Vec, ◌≢◌, slice_index, slice_index_or}
use Rattle.std.specs.declared.alloc.Global.{Global}
use Rattle.byteclass.specs.Class.{name_byte, simple_byte, banned_byte}
use Rattle.byteclass.specs.Words.{word_of}
use Rattle.byteclass.specs.declared.words.Word.TheVariants.{Rule, Pool, Build, Plain}
use Rattle.cursor.specs.Scan.{up_to, stops}
use Rattle.cursor.specs.declared.place.Fault.{Fault}
use Rattle.cursor.specs.declared.place.Fault.TheVariants.{TooLong, Banned, Syntax, Dollar, LeftOut as LeftOutAt}
use Rattle.parts.specs.Parts.{Entry, Outs, Ins, takes}
use Rattle.parts.specs.declared.kinds.Block.{Block}
use Rattle.parts.specs.declared.kinds.Block.TheVariants.{Rule as RuleBlock, Pool as PoolBlock, Build as BuildBlock}
use Rattle.parts.specs.declared.refusal.Refusal.{Refusal}
use Rattle.parts.specs.declared.refusal.Refusal.TheVariants.{Faulty, Memory}
use Rattle.text.specs.declared.kinds.Statement.{Statement}
use Rattle.text.specs.Text.{Head, Work, Said, variable, rule, pool, build, Stated, stated_of}

-- all the spaces that stand here
pub data Spaces : List ℕ → List ℕ → Type 0 where
  none : {s : List ℕ} → (slice_index s 0 ≢ 32) → Spaces s s
  space : {b : ℕ} {s r : List ℕ} → b ≡ 32 → Spaces s r → Spaces (b ∷ s) r

-- all the spaces and continuations (`$` and a line end) that stand here
pub data Gap : List ℕ → List ℕ → Type 0 where
  none : {s : List ℕ} → (slice_index s 0 ≢ 32) → (slice_index s 0 ≡ 36 → slice_index s 1 ≢ 10) → Gap s s
  space : {b : ℕ} {s r : List ℕ} → b ≡ 32 → Gap s r → Gap (b ∷ s) r
  wrap : {b c : ℕ} {s r : List ℕ} → b ≡ 36 → c ≡ 10 → Gap s r → Gap (b ∷ c ∷ s) r

-- up to the line's end, and past it
pub data Comment : List ℕ → List ℕ → Type 0 where
  end : {b : ℕ} {s : List ℕ} → b ≡ 10 → Comment (b ∷ s) s
  more : {b : ℕ} {s r : List ℕ} → (b ≢ 10) → Comment s r → Comment (b ∷ s) r

-- one or more name bytes, up to a byte that is none
pub data Name : List ℕ → List ℕ → Type 0 where
  last : {b : ℕ} {s : List ℕ} → name_byte b ≡ true → name_byte (slice_index s 0) ≡ false → Name (b ∷ s) s
  more : {b : ℕ} {s r : List ℕ} → name_byte b ≡ true → Name s r → Name (b ∷ s) r

-- what follows a `$` within a path or value: space, `:` or `$`, a simple name byte, a name in braces
pub data Escape : List ℕ → List ℕ → Type 0 where
  itself : {c : ℕ} {s : List ℕ} → (c ≡ 32) ⊎ ((c ≡ 58) ⊎ (c ≡ 36)) → Escape (c ∷ s) s
  simple : {c : ℕ} {s : List ℕ} → simple_byte c ≡ true → Escape (c ∷ s) s
  braces : {c d : ℕ} {s t : List ℕ} → c ≡ 123 → Name s (d ∷ t) → d ≡ 125 → Escape (c ∷ s) t

-- up to the line's end, which is left
pub data Value : List ℕ → List ℕ → Type 0 where
  end : {b : ℕ} {s : List ℕ} → b ≡ 10 → Value (b ∷ s) (b ∷ s)
  plain : {b : ℕ} {s r : List ℕ} → (b ≢ 10) → (b ≢ 36) → Value s r → Value (b ∷ s) r
  wrap : {b c : ℕ} {s r : List ℕ} → b ≡ 36 → c ≡ 10 → Value s r → Value (b ∷ c ∷ s) r
  escape : {b : ℕ} {s t r : List ℕ} → b ≡ 36 → Escape s t → Value t r → Value (b ∷ s) r

-- the rest of a path, up to a byte that ends it; a continuation takes the spaces after it along
pub data Path : List ℕ → List ℕ → Type 0 where
  end : {b : ℕ} {s : List ℕ} → stops b ≡ true → Path (b ∷ s) (b ∷ s)
  plain : {b : ℕ} {s r : List ℕ} → stops b ≡ false → (b ≢ 36) → Path s r → Path (b ∷ s) r
  wrap : {b c : ℕ} {s t r : List ℕ} → b ≡ 36 → c ≡ 10 → Spaces s t → Path t r → Path (b ∷ c ∷ s) r
  escape : {b : ℕ} {s t r : List ℕ} → b ≡ 36 → Escape s t → Path t r → Path (b ∷ s) r

-- items one after the other, up to what ends them
pub data Run {E : Type 0} (Item : List ℕ → List E → List ℕ → Type 0) (End : List ℕ → List ℕ → Type 0) : List ℕ → List E → List ℕ → Type 0 where
  end : {s r : List ℕ} → End s r → Run Item End s [] r
  item : {s t r : List ℕ} {xs ys : List E} → Item s xs t → Run Item End t ys r → Run Item End s (xs ++ ys) r

-- a path of a list, which begins with no byte that ends paths
pub data OnePath : List ℕ → List (List ℕ) → List ℕ → Type 0 where
  path : {b : ℕ} {s t r : List ℕ} → Gap s (b ∷ t) → stops b ≡ false → Path (b ∷ t) r → OnePath s (up_to (b ∷ t) r ∷ []) r

-- where a list of paths ends: at a byte that ends paths, or at the manifest's end
pub data NoPath : List ℕ → List ℕ → Type 0 where
  over : {s r : List ℕ} → Gap s r → stops (slice_index_or r 0 32) ≡ true → NoPath s r

-- a list of paths
abbrev pub Paths : List ℕ → List (List ℕ) → List ℕ → Type 0
Paths = Run OnePath NoPath

-- the mark `|`, which is neither `||` nor `|@`
pub data Bar : List ℕ → List ℕ → Type 0 where
  bar : {b : ℕ} {s : List ℕ} → b ≡ 124 → (slice_index s 0 ≢ 124) → (slice_index s 0 ≢ 64) → Bar (b ∷ s) s

-- the mark of `|` and the byte k
pub data Pair (k : ℕ) : List ℕ → List ℕ → Type 0 where
  pair : {b c : ℕ} {s : List ℕ} → b ≡ 124 → c ≡ k → Pair k (b ∷ c ∷ s) s

-- a list of paths after its mark, or nothing where the mark does not stand
pub data Section (Mark : List ℕ → List ℕ → Type 0) : List ℕ → List (List ℕ) → List ℕ → Type 0 where
  none : {s : List ℕ} → ((t : List ℕ) → Mark s t → ⊥) → Section Mark s [] s
  some : {s t r : List ℕ} {ps : List (List ℕ)} → Mark s t → Paths t ps r → Section Mark s ps r

-- OUTS | OUTS :
pub data Outputs : List ℕ → Outs → List ℕ → Type 0 where
  outputs : {b : ℕ} {s t r : List ℕ} {p : List ℕ} {ps qs : List (List ℕ)} → Paths s (p ∷ ps) t → Section Bar t qs (b ∷ r) → b ≡ 58 → Outputs s (record { explicit = p ∷ ps; implicit = qs }) r

-- INS | INS || INS |@ FILES and the line's end
pub data Inputs : List ℕ → Ins → List ℕ → Type 0 where
  inputs : {b : ℕ} {s t u v r : List ℕ} {es is os vs : List (List ℕ)} → Paths s es t → Section Bar t is u → Section (Pair 124) u os v → Section (Pair 64) v vs (b ∷ r) → b ≡ 10 → Inputs s (record { explicit = es; implicit = is; order_only = os; validations = vs }) r

-- = VALUE and the line's end
pub data SetTo : List ℕ → List ℕ → List ℕ → Type 0 where
  set_to : {b c : ℕ} {s p t r : List ℕ} → Gap s (b ∷ p) → b ≡ 61 → Gap p t → Value t (c ∷ r) → c ≡ 10 → SetTo s (up_to t (c ∷ r)) r

-- NAME = VALUE in a block that takes the name
pub data Setting (k : Block) : List ℕ → Entry → List ℕ → Type 0 where
  setting : {s p q r v : List ℕ} → Gap s p → Name p q → takes k (up_to p q) ≡ true → SetTo q v r → Setting k s (record { name = up_to p q; value = v }) r

-- a line of nothing but spaces
pub data Blank : List ℕ → List ℕ → Type 0 where
  blank : {b : ℕ} {s r : List ℕ} → Spaces s (b ∷ r) → b ≡ 10 → Blank s r

-- a line whose first byte after spaces is `#`
pub data Remark : List ℕ → List ℕ → Type 0 where
  remark : {b : ℕ} {s t r : List ℕ} → Spaces s (b ∷ t) → b ≡ 35 → Comment (b ∷ t) r → Remark s r

-- the manifest's end, or a line that begins in the first column with anything else
pub data Flush : List ℕ → List ℕ → Type 0 where
  flush : {s : List ℕ} → (slice_index s 0 ≢ 32) → (slice_index s 0 ≢ 10) → (slice_index s 0 ≢ 35) → Flush s s

-- the first spaces of any other line
pub data Indent : List ℕ → List ℕ → Type 0 where
  indent : {s r : List ℕ} → slice_index s 0 ≡ 32 → Spaces s r → 0 < length r → (slice_index r 0 ≢ 10) → (slice_index r 0 ≢ 35) → Indent s r

-- a line of a block: a comment, which is nothing, or a variable
pub data BlockLine (k : Block) : List ℕ → List Entry → List ℕ → Type 0 where
  remark : {s r : List ℕ} → Remark s r → BlockLine k s [] r
  sets : {s t r : List ℕ} {e : Entry} → Indent s t → Setting k t e r → BlockLine k s (e ∷ []) r

-- what ends a block: a blank line, which belongs to it, or a line in the first column
pub data BlockEnd : List ℕ → List ℕ → Type 0 where
  blank : {s r : List ℕ} → Blank s r → BlockEnd s r
  flush : {s r : List ℕ} → Flush s r → BlockEnd s r

-- the lines of a block, in order
abbrev pub Lines : Block → List ℕ → List Entry → List ℕ → Type 0
Lines k = Run (BlockLine k) BlockEnd

-- after `rule` or `pool`
pub data Heading (k : Block) : List ℕ → Head → List ℕ → Type 0 where
  heading : {b : ℕ} {s p q t r : List ℕ} {ls : List Entry} → Gap s p → Name p q → Gap q (b ∷ t) → b ≡ 10 → Lines k t ls r → Heading k s (record { name = up_to p q; lines = ls }) r

-- after `build`
pub data Working : List ℕ → Work → List ℕ → Type 0 where
  working : {s t u v w r : List ℕ} {os : Outs} {is : Ins} {ls : List Entry} → Outputs s os t → Gap t u → Name u v → Inputs v is w → Lines BuildBlock w ls r → Working s (record { outs = os; rule = up_to u v; ins = is; lines = ls }) r

-- a statement, by the word that it begins with
pub data Says : List ℕ → Said → List ℕ → Type 0 where
  is_variable : {s q r v : List ℕ} → Name s q → word_of (up_to s q) ≡ Plain → SetTo q v r → Says s (variable (record { name = up_to s q; value = v })) r
  is_rule : {s q r : List ℕ} {h : Head} → Name s q → word_of (up_to s q) ≡ Rule → Heading RuleBlock q h r → Says s (rule h) r
  is_pool : {s q r : List ℕ} {h : Head} → Name s q → word_of (up_to s q) ≡ Pool → Heading PoolBlock q h r → Says s (pool h) r
  is_build : {s q r : List ℕ} {w : Work} → Name s q → word_of (up_to s q) ≡ Build → Working q w r → Says s (build w) r

-- a line between statements
pub data Idle : List ℕ → List (Unit {0}) → List ℕ → Type 0 where
  blank : {s r : List ℕ} → Blank s r → Idle s [] r
  remark : {s r : List ℕ} → Remark s r → Idle s [] r

-- the lines before a statement, or before the end
abbrev pub Between : List ℕ → List (Unit {0}) → List ℕ → Type 0
Between = Run Idle Flush

-- a statement with the lines before it; its place is what the n bytes of the manifest have before it
pub data OneStatement (n : ℕ) : List ℕ → List Stated → List ℕ → Type 0 where
  statement : {s t r : List ℕ} {us : List (Unit {0})} {x : Said} → Between s us t → Says t x r → OneStatement n s (record { place = n - length t; says = x } ∷ []) r

-- the manifest's end, with the lines before it
pub data NoStatement : List ℕ → List ℕ → Type 0 where
  over : {s r : List ℕ} {us : List (Unit {0})} → Between s us r → length r ≡ 0 → NoStatement s r

-- the statements of n bytes
abbrev pub Statements : ℕ → List ℕ → List Stated → List ℕ → Type 0
Statements n = Run (OneStatement n) NoStatement

-- s is a manifest with the statements xs
pub record Manifest (s : List ℕ) (xs : List Stated) : Type 0 where
  pub short : length s ≤ 65535
  pub clean : (k : ℕ) → k < length s → banned_byte (slice_index s k) ≡ false
  pub rest : List ℕ
  pub says : Statements (length s) s xs rest

-- the answer of `manifest` to s says whether s is a manifest, and its statements are the only ones that s can have
abbrev pub Admits : Result (Vec Statement Global) Refusal → List ℕ → Type 0
Admits (Ok v) s = Manifest s (map stated_of (vec_items v)) × ((xs : List Stated) → Manifest s xs → xs ≡ map stated_of (vec_items v))
Admits (Err (Faulty f)) s = (xs : List Stated) → Manifest s xs → ⊥
Admits (Err Memory) s = Unit {0}

-- s is of the grammar, however long it is
pub record Spoken (s : List ℕ) : Type 0 where
  pub said : List Stated
  pub rest : List ℕ
  pub says : Statements (length s) s said rest

-- the bytes of s up to the place p and with the byte there begin nothing of the grammar
abbrev pub Dead : List ℕ → ℕ → Type 0
Dead s p = p < length s → (t : List ℕ) → Spoken (take (suc p) s ++ t) → ⊥

-- the bytes of s before the place p begin something of the grammar
abbrev pub Begins : List ℕ → ℕ → Type 0
Begins s p = (t : List ℕ) × Spoken (take p s ++ t)

-- the place of a fault of the grammar
abbrev pub PlacedFault : Fault → List ℕ → Type 0
PlacedFault TooLong s = Unit {0}
PlacedFault (Banned p) s = Unit {0}
PlacedFault (Syntax p) s = (p.byte ≤ length s) × Begins s p.byte × Dead s p.byte
PlacedFault (Dollar p) s = Unit {0}
PlacedFault (LeftOutAt p) s = Unit {0}

-- where `manifest` found a fault of the grammar in s, the bytes before the place begin a text of the grammar, and with the byte there they begin none
abbrev pub Placed : Result (Vec Statement Global) Refusal → List ℕ → Type 0
Placed (Ok v) s = Unit {0}
Placed (Err (Faulty f)) s = PlacedFault f s
Placed (Err Memory) s = Unit {0}
