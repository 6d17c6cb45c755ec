-- What a reader finds in the bytes that are left. A definition takes the place i of the first of them and the bytes,
-- and answers what it read with the place and the bytes that are left then, or the fault.
use Rattle.std.specs.Prelude.{ℕ, zero, suc, ◌+◌, ◌-◌, Bool, true, false, cond, ◌&&◌, ◌||◌, List, [], ◌∷◌, length, take, drop, Some, None, Ok, Err, Option, Result, ◌==◌, nat_lt, slice_index}
use Rattle.byteclass.specs.Class.{name_byte, simple_byte}
use Rattle.cursor.specs.declared.place.Place.{Place}
use Rattle.cursor.specs.declared.place.Cursor.{Cursor}
use Rattle.cursor.specs.declared.place.Fault.{Fault}
use Rattle.cursor.specs.declared.place.Fault.TheVariants.{TooLong, Banned, Syntax, Dollar, LeftOut}
use Rattle.cursor.specs.declared.place.Opens.{Opens}
use Rattle.cursor.specs.declared.place.Opens.TheVariants.{Nothing, Gap, Mark}
use Rattle.cursor.specs.declared.lines.Lead.{Lead}
use Rattle.cursor.specs.declared.lines.Lead.TheVariants.{Ends, Blank, Remark, Flush, Indented}

-- each fault's number and place
abbrev pub numbered : Fault → ℕ × ℕ
numbered TooLong = (1, 65535)
numbered (Banned p) = (2, p.byte)
numbered (Syntax p) = (3, p.byte)
numbered (Dollar p) = (4, p.byte)
numbered (LeftOut p) = (5, p.byte)

-- the place after i bytes
abbrev pub spot : ℕ → Place
spot i = record { byte = i }

-- what a reading comes to: what was read, the place and the bytes after it, or a fault
pub data Out (A : Type 0) : Type 0 where
  ok : A → ℕ → List ℕ → Out A
  bad : Fault → Out A

-- one reading after another
abbrev pub and_then : {A B : Type 0} → Out A → (A → ℕ → List ℕ → Out B) → Out B
and_then (ok a j r) f = f a j r
and_then (bad e) f = bad e

-- what a method answered, with where it left the reader
abbrev pub told : {A B : Type 0} → (A → B) → Result A Fault → Cursor → Out B
told f (Ok a) d = ok (f a) d.at d.rest.now
told f (Err e) d = bad e

-- the bytes of s before its end r
abbrev pub up_to : List ℕ → List ℕ → List ℕ
up_to s r = take (length s - length r) s

-- the byte b could begin what is open here
abbrev pub opens : Opens → ℕ → Bool
opens Nothing b = false
opens Gap b = b == 36
opens Mark b = b == 124

-- the fault where what is expected does not stand at i
abbrev pub lack : Opens → ℕ → List ℕ → Fault
lack o i [] = Syntax (spot i)
lack o i (b ∷ s) = cond (opens o b) (Syntax (spot (i + 1))) (Syntax (spot i))

-- how many name bytes stand at the front
abbrev pub name_len : List ℕ → ℕ
name_len [] = 0
name_len (b ∷ s) = cond (name_byte b) (suc (name_len s)) 0

-- any spaces
abbrev pub spaces : ℕ → List ℕ → Out (Unit {0})
spaces i [] = ok tt i []
spaces i (b ∷ s) = cond (b == 32) (spaces (i + 1) s) (ok tt i (b ∷ s))

-- any spaces, and line ends after a `$`
abbrev pub gap : ℕ → List ℕ → Out (Unit {0})
gap i [] = ok tt i []
gap i (b ∷ []) = cond (b == 32) (ok tt (i + 1) []) (ok tt i (b ∷ []))
gap i (b ∷ c ∷ s) =
    cond (b == 32) (gap (i + 1) (c ∷ s)) (cond (b == 36 && c == 10) (gap (i + 2) s) (ok tt i (b ∷ c ∷ s)))

-- to the line's end and past it, whatever the bytes
abbrev pub comment : ℕ → List ℕ → Out (Unit {0})
comment i [] = bad (Syntax (spot i))
comment i (b ∷ s) = cond (b == 10) (ok tt (i + 1) s) (comment (i + 1) s)

-- a name of n bytes
abbrev pub name_of : Opens → ℕ → ℕ → List ℕ → Out (List ℕ)
name_of o zero i s = bad (lack o i s)
name_of o (suc n) i s = ok (take (suc n) s) (i + suc n) (drop (suc n) s)

-- one or more name bytes, as many as there are
abbrev pub name : Opens → ℕ → List ℕ → Out (List ℕ)
name o i s = name_of o (name_len s) i s

-- the one byte k
abbrev pub byte : ℕ → Opens → ℕ → List ℕ → Out (Unit {0})
byte k o i [] = bad (Syntax (spot i))
byte k o i (b ∷ s) = cond (b == k) (ok tt (i + 1) s) (bad (lack o i (b ∷ s)))

-- a name with a `}` after it
abbrev pub braced : List ℕ → Bool
braced s = nat_lt 0 (name_len s) && slice_index s (name_len s) == 125

-- what may follow a `$`: line end, space, `:`, `$`, a name in braces, or a simple name byte
abbrev pub escaped : List ℕ → Bool
escaped [] = false
escaped (c ∷ s) =
    cond (c == 10 || (c == 32 || (c == 58 || c == 36))) true (cond (c == 123) (braced s) (simple_byte c))

-- to the end of the line; the bytes of a name in an escape stand for no more than any other here
abbrev pub scan : ℕ → List ℕ → Out (Unit {0})
scan i [] = bad (Syntax (spot i))
scan i (b ∷ []) =
    cond (b == 10) (ok tt i (b ∷ [])) (cond (b == 36) (bad (Dollar (spot i))) (bad (Syntax (spot (i + 1)))))
scan i (b ∷ c ∷ s) =
    cond (b == 10) (ok tt i (b ∷ c ∷ s))
    (cond (b == 36) (cond (escaped (c ∷ s)) (scan (i + 2) s) (bad (Dollar (spot i)))) (scan (i + 1) (c ∷ s)))

-- a value: all up to the line's end
abbrev pub value : ℕ → List ℕ → Out (List ℕ)
value i s = and_then (scan i s) (λ _ j r. ok (up_to s r) j r)

-- what ends a path: space, `:`, `|` and line end
abbrev pub stops : ℕ → Bool
stops b = b == 32 || (b == 58 || (b == 124 || b == 10))

-- a line end, which makes a continuation of a `$` before it
abbrev pub wraps : List ℕ → Bool
wraps [] = false
wraps (c ∷ s) = c == 10

-- to a path's end; w says that a `$` and a line end came last, whose spaces are nothing
abbrev pub walk : Bool → ℕ → List ℕ → Out (Unit {0})
walk w i [] = bad (Syntax (spot i))
walk w i (b ∷ []) =
    cond (w && b == 32) (bad (Syntax (spot (i + 1))))
    (cond (stops b) (ok tt i (b ∷ [])) (cond (b == 36) (bad (Dollar (spot i))) (bad (Syntax (spot (i + 1))))))
walk w i (b ∷ c ∷ s) =
    cond (w && b == 32) (walk true (i + 1) (c ∷ s))
    (cond (stops b) (ok tt i (b ∷ c ∷ s))
    (cond (b == 36) (cond (escaped (c ∷ s)) (walk (c == 10) (i + 2) s) (bad (Dollar (spot i)))) (walk false (i + 1) (c ∷ s))))

-- a path
abbrev pub path : ℕ → List ℕ → Out (List ℕ)
path i s = and_then (walk false i s) (λ _ j r. ok (up_to s r) j r)

-- a path if one begins here
abbrev pub any_path : ℕ → List ℕ → Out (Option (List ℕ))
any_path i [] = ok None i []
any_path i (b ∷ s) =
    cond (stops b) (ok None i (b ∷ s)) (and_then (path i (b ∷ s)) (λ p j r. ok (Some p) j r))

-- the next path of a list, if there is one
abbrev pub next_path : ℕ → List ℕ → Out (Option (List ℕ))
next_path i s = and_then (gap i s) (λ _ j r. any_path j r)

-- a path that has to stand here
abbrev pub needed : Option (List ℕ) → ℕ → List ℕ → Out (List ℕ)
needed None i s = bad (Syntax (spot i))
needed (Some p) i s = ok p i s

-- the first path of a list that is not empty
abbrev pub first_path : ℕ → List ℕ → Out (List ℕ)
first_path i s = and_then (next_path i s) needed

-- the mark `|`, which is neither `||` nor `|@`
abbrev pub bar : ℕ → List ℕ → Out Bool
bar i [] = ok false i []
bar i (b ∷ []) = cond (b == 124) (ok true (i + 1) []) (ok false i (b ∷ []))
bar i (b ∷ c ∷ s) =
    cond (b == 124) (cond (c == 124 || c == 64) (ok false i (b ∷ c ∷ s)) (ok true (i + 1) (c ∷ s))) (ok false i (b ∷ c ∷ s))

-- the mark of `|` and the byte k
abbrev pub pair : ℕ → ℕ → List ℕ → Out Bool
pair k i [] = ok false i []
pair k i (b ∷ []) = ok false i (b ∷ [])
pair k i (b ∷ c ∷ s) = cond (b == 124 && c == k) (ok true (i + 2) s) (ok false i (b ∷ c ∷ s))

-- how a line goes on after its first spaces
abbrev pub indented : ℕ → List ℕ → Out Lead
indented i [] = bad (Syntax (spot i))
indented i (b ∷ s) =
    cond (b == 10) (ok Blank (i + 1) s)
    (cond (b == 35) (and_then (comment i (b ∷ s)) (λ _ j r. ok Remark j r)) (ok Indented i (b ∷ s)))

-- how a line begins in its first column
abbrev pub flush : ℕ → List ℕ → Out Lead
flush i [] = ok Ends i []
flush i (b ∷ s) =
    cond (b == 10) (ok Blank (i + 1) s)
    (cond (b == 35) (and_then (comment i (b ∷ s)) (λ _ j r. ok Remark j r)) (ok Flush i (b ∷ s)))

-- how a line begins
abbrev pub lead : ℕ → List ℕ → Out Lead
lead i [] = ok Ends i []
lead i (b ∷ s) = cond (b == 32) (and_then (spaces i (b ∷ s)) (λ _ j r. indented j r)) (flush i (b ∷ s))
