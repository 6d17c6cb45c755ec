-- Which start a line is, and which call any line is. Assumes nothing.
use Rattle.std.specs.Prelude.{◌≡◌, ℕ, Bool, false, cond, List, [], ◌∷◌, ◌++◌, Some, None, Ok, Err, vec_items, codes, Option, Result}
use Rattle.std.specs.Option.{option_map}
use Rattle.std.specs.Str.{bytes_eq}
use Rattle.hetunawa.specs.declared.call.Unread.{Unread}
use Rattle.hetunawa.specs.declared.call.Unread.TheVariants.{NotUnderstood, Memory}
use Rattle.hetunawa.specs.declared.call.Lists.{Lists}
use Rattle.hetunawa.specs.declared.call.Start.{Start}
use Rattle.hetunawa.specs.declared.verb.Verb.{Verb}
use Rattle.hetunawa.specs.declared.verb.Verb.TheVariants as verbs
use Rattle.script.specs.Decimals.{decimal_of}
use Rattle.hetunawa.specs.Grammar.{Meant, start, and_then, short_call_of}
use Rattle.script.specs.Colons.{cut_of}
use Rattle.script.specs.Texts.{words_of}
use Rattle.hetunawa.specs.Verbs.{verb_of}

-- What a reading may answer: what stands there; that it stands there not; or, whatever stands there, that memory lacks.
abbrev pub Reads : {X Y : Type 0} → (X → Y) → Option Y → Result X Unread → Type 0
Reads f there (Ok x) = there ≡ Some (f x)
Reads f there (Err NotUnderstood) = there ≡ None
Reads f there (Err Memory) = Unit {0}

-- the files to read and to make of a start
abbrev pub listed : Lists → List ℕ × List ℕ
listed ls = (vec_items ls.reads, vec_items ls.outputs)

-- more files: they are to be read up to the word `outputs`, which has to come, and to be made behind it
abbrev pub made_more : List ℕ → List ℕ → List (List ℕ) → Option (List ℕ × List ℕ)
made_more rs os [] = Some (rs, os)
made_more rs os (w ∷ ws) = and_then (decimal_of w) (λ f. made_more rs (os ++ (f ∷ [])) ws)

abbrev pub read_more : List ℕ → List ℕ → List (List ℕ) → Option (List ℕ × List ℕ)
read_more rs os [] = None
read_more rs os (w ∷ ws) =
    cond (bytes_eq w (codes "outputs")) (made_more rs os ws) (and_then (decimal_of w) (λ f. read_more (rs ++ (f ∷ [])) os ws))

abbrev pub lists_more : Bool → List ℕ → List ℕ → List (List ℕ) → Option (List ℕ × List ℕ)
lists_more making rs os ws = cond making (made_more rs os ws) (read_more rs os ws)

-- the edge of a start, and the words behind `reads`
abbrev pub reads_behind : ℕ → List (List ℕ) → Option (ℕ × List (List ℕ))
reads_behind e [] = None
reads_behind e (w ∷ ws) = cond (bytes_eq w (codes "reads")) (Some (e, ws)) None

abbrev pub edge_behind : List (List ℕ) → Option (ℕ × List (List ℕ))
edge_behind [] = None
edge_behind (w ∷ ws) = and_then (decimal_of w) (λ e. reads_behind e ws)

abbrev pub start_words : List (List ℕ) → Option (ℕ × List (List ℕ))
start_words [] = None
start_words (verb ∷ ws) = edge_behind ws

-- a start's words stand before the line's first colon with a space behind it, its question behind that
abbrev pub start_of : List ℕ → Option Meant
start_of line =
    and_then (cut_of line) (λ cut. and_then (start_words (words_of cut.0)) (λ edge.
    option_map (λ files. start edge.0 cut.1 files.0 files.1) (lists_more false [] [] edge.1)))

abbrev pub started_as : Start → Meant
started_as c = start c.edge (vec_items c.question) (vec_items c.reads) (vec_items c.outputs)

-- the call of a line
abbrev pub verb_call : Verb → List ℕ → List (List ℕ) → Option Meant
verb_call verbs.Write line ws = short_call_of verbs.Write ws
verb_call verbs.Remove line ws = short_call_of verbs.Remove ws
verb_call verbs.Tell line ws = short_call_of verbs.Tell ws
verb_call verbs.Clock line ws = short_call_of verbs.Clock ws
verb_call verbs.Start line ws = start_of line
verb_call verbs.Poll line ws = short_call_of verbs.Poll ws
verb_call verbs.BreakOff line ws = short_call_of verbs.BreakOff ws

abbrev pub words_call : List ℕ → List (List ℕ) → Option Meant
words_call line [] = None
words_call line (w ∷ ws) = and_then (verb_of w) (λ v. verb_call v line ws)

abbrev pub call_of : List ℕ → Option Meant
call_of line = words_call line (words_of line)
