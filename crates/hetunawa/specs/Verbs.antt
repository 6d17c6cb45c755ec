-- Which word begins which call. Assumes nothing.
use Rattle.std.specs.Prelude.{ℕ, cond, List, Some, None, codes, Option}
use Rattle.std.specs.Str.{bytes_eq}
use Rattle.hetunawa.specs.declared.verb.Verb.{Verb}
use Rattle.hetunawa.specs.declared.verb.Verb.TheVariants.{Write, Remove, Tell, Clock, Start, Poll, BreakOff}

abbrev pub verb_of : List ℕ → Option Verb
verb_of w =
    cond (bytes_eq w (codes "write")) (Some Write)
    (cond (bytes_eq w (codes "remove")) (Some Remove)
    (cond (bytes_eq w (codes "tell")) (Some Tell)
    (cond (bytes_eq w (codes "clock")) (Some Clock)
    (cond (bytes_eq w (codes "start")) (Some Start)
    (cond (bytes_eq w (codes "poll")) (Some Poll)
    (cond (bytes_eq w (codes "break")) (Some BreakOff) None))))))
