-- The class of a byte, by ranges of bytes.
use Rattle.std.specs.Prelude.{ℕ, Bool, true, false, cond, ◌&&◌, ◌||◌, ◌==◌, nat_le}
use Rattle.byteclass.specs.declared.table.Class.{Class}
use Rattle.byteclass.specs.declared.table.Class.TheVariants.{Banned, End, Space, Dollar, Dot, Simple, Mark, Other}

-- b is one of the bytes a to e
abbrev pub from_to : ℕ → ℕ → ℕ → Bool
from_to a e b = nat_le a b && nat_le b e

-- digits, upper and lower case letters, `_` and `-`
unfoldable pub simple : ℕ → Bool
simple b = from_to 48 57 b || (from_to 65 90 b || (from_to 97 122 b || (b == 95 || b == 45)))

-- byte 0, tab and carriage return
unfoldable pub banned : ℕ → Bool
banned b = b == 0 || (b == 9 || b == 13)

-- the rule of the table: line end, space, `$`, `.`, simple name bytes, `:` and `|`
unfoldable pub class : ℕ → Class
unfolding simple banned
class b =
    cond (banned b) Banned
    (cond (b == 10) End
    (cond (b == 32) Space
    (cond (b == 36) Dollar
    (cond (b == 46) Dot
    (cond (simple b) Simple
    (cond (b == 58 || b == 124) Mark Other))))))

-- bytes of the class stand in names
abbrev pub name_class : Class → Bool
name_class Banned = false
name_class End = false
name_class Space = false
name_class Dollar = false
name_class Dot = true
name_class Simple = true
name_class Mark = false
name_class Other = false

-- bytes of the class stand in simple names
abbrev pub simple_class : Class → Bool
simple_class Banned = false
simple_class End = false
simple_class Space = false
simple_class Dollar = false
simple_class Dot = false
simple_class Simple = true
simple_class Mark = false
simple_class Other = false

-- bytes of the class stand in no manifest
abbrev pub banned_class : Class → Bool
banned_class Banned = true
banned_class End = false
banned_class Space = false
banned_class Dollar = false
banned_class Dot = false
banned_class Simple = false
banned_class Mark = false
banned_class Other = false

-- b is a byte of a name
abbrev pub name_byte : ℕ → Bool
name_byte b = name_class (class b)

-- b is a byte of a simple name
abbrev pub simple_byte : ℕ → Bool
simple_byte b = simple_class (class b)

-- b is a byte of no manifest
abbrev pub banned_byte : ℕ → Bool
banned_byte b = banned_class (class b)
