-- What a value or a path stands for, by the names that it uses.
use Rattle.std.specs.Prelude.{ℕ, zero, suc, Bool, true, false, cond, not, ◌||◌, List, [], ◌∷◌, ◌++◌, take, Some, None, Option, ◌==◌}
use Rattle.std.specs.Option.{unwrap_or}
use Rattle.std.specs.Str.{bytes_eq}
use Rattle.byteclass.specs.Class.{name_byte, simple_byte}
use Rattle.parts.specs.Parts.{Entry}

-- how many bytes at the front pass the test
abbrev pub front : (ℕ → Bool) → List ℕ → ℕ
front p [] = 0
front p (b ∷ s) = cond (p b) (suc (front p s)) 0

-- a space
abbrev pub blank : ℕ → Bool
blank b = b == 32

-- any byte but `$`
abbrev pub plain : ℕ → Bool
plain b = not (b == 36)

-- the bytes have a `$`
abbrev pub dollar : List ℕ → Bool
dollar [] = false
dollar (b ∷ s) = cond (b == 36) true (dollar s)

-- the text of the variable n, if it is among es
abbrev pub find : List Entry → List ℕ → Option (List ℕ)
find [] n = None
find (e ∷ es) n = cond (bytes_eq e.name n) (Some e.value) (find es n)

-- the first, or the second where there is no first
abbrev pub or_else : {A : Type 0} → Option A → Option A → Option A
or_else None o = o
or_else (Some a) o = Some a

-- where names are looked up, in this order
pub record Scope : Type 0 where
  pub special : List Entry
  pub block : List Entry
  pub file : List Entry

-- the text of a name: the first that is found, else the empty text
abbrev pub look : Scope → List ℕ → List ℕ
look c n = unwrap_or (or_else (find c.special n) (or_else (find c.block n) (find c.file n))) []

-- what stands for a `$` and the bytes after it, and how many of those it takes
pub record Piece : Type 0 where
  pub text : List ℕ
  pub taken : ℕ

-- after a `$`: a line end with the spaces after it is nothing; space, `:` and `$` stand for themselves;
-- a name in braces, or the longest simple name, stands for its text
abbrev pub piece : (List ℕ → List ℕ) → List ℕ → Piece
piece f [] = record { text = []; taken = 0 }
piece f (c ∷ s) =
    cond (c == 10) (record { text = []; taken = suc (front blank s) })
    (cond (c == 32 || (c == 58 || c == 36)) (record { text = c ∷ []; taken = 1 })
    (cond (c == 123) (record { text = f (take (front name_byte s) s); taken = suc (suc (front name_byte s)) })
    (record { text = f (take (front simple_byte (c ∷ s)) (c ∷ s)); taken = front simple_byte (c ∷ s) })))

-- the text of a value whose first k bytes are passed over
abbrev pub expand_from : (List ℕ → List ℕ) → ℕ → List ℕ → List ℕ
expand_from f k [] = []
expand_from f (suc k) (b ∷ s) = expand_from f k s
expand_from f zero (b ∷ s) =
    cond (b == 36) ((piece f s).text ++ expand_from f (piece f s).taken s) (b ∷ expand_from f zero s)

-- the text of a value, by the text of each name
unfoldable pub expand : (List ℕ → List ℕ) → List ℕ → List ℕ
expand f s = expand_from f zero s
