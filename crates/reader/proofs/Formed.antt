-- The sources of values and paths: each `$` in them begins an escape.
use Rattle.std.proofs.Common.{◌≡◌, ℕ, suc, ◌-◌, Bool, false, List, [], ◌∷◌, ◌++◌, length, get_or, take, drop, sym, refl, ap, ◌∙◌, subst, arith, length-append, take_at}
use Rattle.std.specs.List.{AllByRecursion}
use Rattle.std.proofs.ByRecursion.{All-append}
use Rattle.std.proofs.lemmas.Bool.{cond_both, false≢true}
use Rattle.byteclass.specs.Class.{name_byte}
use Rattle.cursor.specs.Scan.{up_to}
use Rattle.parts.specs.Parts.{Entry, Outs, Ins}
use Rattle.parts.specs.declared.kinds.Block.{Block}
use Rattle.text.specs.Text.{Head, Work, Said, variable, rule, pool, build, Stated}
use Rattle.text.specs.Grammar.{Spaces, Name, Escape, Value, Path, Run, OnePath, NoPath, Paths, Section, Outputs, Inputs, SetTo, Setting, BlockLine, BlockEnd, Lines, Heading, Working, Says, OneStatement, NoStatement, Manifest}
use Rattle.values.specs.Expand.{front}

-- every `$` of the source begins a continuation or an escape
pub data Formed : List ℕ → Type 0 where
  end : Formed []
  plain : {b : ℕ} {s : List ℕ} → (b ≡ 36 → ⊥) → Formed s → Formed (b ∷ s)
  wrap : {b c : ℕ} {s : List ℕ} → b ≡ 36 → c ≡ 10 → Formed s → Formed (b ∷ c ∷ s)
  escape : {b : ℕ} {s t : List ℕ} → b ≡ 36 → Escape s t → Formed t → Formed (b ∷ s)

-- bytes that are no `$`, dropped from the front, leave a formed source
pub formed_past : (p : ℕ → Bool) → p 36 ≡ false → {s : List ℕ} → Formed s → Formed (drop (front p s) s)
formed_past p z Formed.end = Formed.end
formed_past p z (Formed.plain {b = b} {s = s} n h) =
    cond_both (p b) (suc (front p s)) 0 (λ k. Formed (drop k (b ∷ s))) (λ _. formed_past p z h) (λ _. Formed.plain n h)
formed_past p z (Formed.wrap {b = b} {c = c} {s = s} q r h) =
    cond_both (p b) (suc (front p (c ∷ s))) 0 (λ k. Formed (drop k (b ∷ c ∷ s))) (λ t. absurd (false≢true (sym z ∙ ap p (sym q) ∙ t))) (λ _. Formed.wrap q r h)
formed_past p z (Formed.escape {b = b} {s = s} q e h) =
    cond_both (p b) (suc (front p s)) 0 (λ k. Formed (drop k (b ∷ s))) (λ t. absurd (false≢true (sym z ∙ ap p (sym q) ∙ t))) (λ _. Formed.escape q e h)

-- s is a formed source and r after it
record Led (s r : List ℕ) : Type 0 where
  source : List ℕ
  whole : s ≡ source ++ r
  formed : Formed source

led_up_to : (s r : List ℕ) → Led s r → Formed (up_to s r)
led_up_to s r h =
    let n : length h.source ≡ length s - length r = omega (arith, ap length h.whole ∙ length-append h.source r) in
    let e : up_to s r ≡ h.source = ap (take (length s - length r)) h.whole ∙ take_at h.source r (length s - length r) n in
    subst Formed (sym e) h.formed

-- a name with the byte d after it, of which r is cut off
record NameCut (s x r : List ℕ) : Type 0 where
  source : List ℕ
  whole : s ≡ source ++ r
  is : Name source x

name_cut : {s u : List ℕ} → Name s u → (d : ℕ) (x r : List ℕ) → u ≡ d ∷ (x ++ r) → NameCut s (d ∷ x) r
name_cut (Name.last {b = b} t n) d x r e =
    record { source = b ∷ d ∷ x; whole = ap (λ z. b ∷ z) e; is = Name.last t (subst (λ z. name_byte (get_or z 0 0) ≡ false) e n) }
name_cut (Name.more {b = b} t h) d x r e =
    let w = name_cut h d x r e in
    record { source = b ∷ w.source; whole = ap (λ z. b ∷ z) w.whole; is = Name.more t w.is }

-- an escape, of which r is cut off
record EscapeCut (s x r : List ℕ) : Type 0 where
  source : List ℕ
  whole : s ≡ source ++ r
  is : Escape source x

escape_cut : {s t : List ℕ} → Escape s t → (x r : List ℕ) → t ≡ x ++ r → EscapeCut s x r
escape_cut (Escape.itself {c = c} q) x r e = record { source = c ∷ x; whole = ap (λ z. c ∷ z) e; is = Escape.itself q }
escape_cut (Escape.simple {c = c} q) x r e = record { source = c ∷ x; whole = ap (λ z. c ∷ z) e; is = Escape.simple q }
escape_cut (Escape.braces {c = c} {d = d} p n q) x r e =
    let w = name_cut n d x r (ap (λ z. d ∷ z) e) in
    record { source = c ∷ w.source; whole = ap (λ z. c ∷ z) w.whole; is = Escape.braces p w.is q }

led_plain : (b : ℕ) {s r : List ℕ} → (b ≡ 36 → ⊥) → Led s r → Led (b ∷ s) r
led_plain b n h = record { source = b ∷ h.source; whole = ap (λ z. b ∷ z) h.whole; formed = Formed.plain n h.formed }

led_wrap : (b c : ℕ) {s r : List ℕ} → b ≡ 36 → c ≡ 10 → Led s r → Led (b ∷ c ∷ s) r
led_wrap b c p q h =
    record { source = b ∷ c ∷ h.source; whole = ap (λ z. b ∷ c ∷ z) h.whole; formed = Formed.wrap p q h.formed }

led_escape : (b : ℕ) {s t r : List ℕ} → b ≡ 36 → Escape s t → Led t r → Led (b ∷ s) r
led_escape b {r = r} p e h =
    let w = escape_cut e h.source r h.whole in
    record { source = b ∷ w.source; whole = ap (λ z. b ∷ z) w.whole; formed = Formed.escape p w.is h.formed }

led_spaces : {s t r : List ℕ} → Spaces s t → Led t r → Led s r
led_spaces (Spaces.none n) h = h
led_spaces (Spaces.space {b = b} p g) h = led_plain b (λ q. omega arith) (led_spaces g h)

value_led : {s r : List ℕ} → Value s r → Led s r
value_led (Value.end p) = record { source = []; whole = refl; formed = Formed.end }
value_led (Value.plain {b = b} n m h) = led_plain b m (value_led h)
value_led (Value.wrap {b = b} {c = c} p q h) = led_wrap b c p q (value_led h)
value_led (Value.escape {b = b} p e h) = led_escape b p e (value_led h)

path_led : {s r : List ℕ} → Path s r → Led s r
path_led (Path.end p) = record { source = []; whole = refl; formed = Formed.end }
path_led (Path.plain {b = b} n m h) = led_plain b m (path_led h)
path_led (Path.wrap {b = b} {c = c} p q g h) = led_wrap b c p q (led_spaces g (path_led h))
path_led (Path.escape {b = b} p e h) = led_escape b p e (path_led h)

pub value_formed : (s r : List ℕ) → Value s r → Formed (up_to s r)
value_formed s r h = led_up_to s r (value_led h)

pub path_formed : (s r : List ℕ) → Path s r → Formed (up_to s r)
path_formed s r h = led_up_to s r (path_led h)

-- the value of a variable is formed
abbrev pub FormedEntry : Entry → Type 0
FormedEntry e = Formed e.value

-- the value of each line is formed
abbrev pub FormedLines : List Entry → Type 0
FormedLines ls = AllByRecursion FormedEntry ls

-- each path of a list is formed
abbrev pub FormedPaths : List (List ℕ) → Type 0
FormedPaths ps = AllByRecursion Formed ps

-- the outputs are formed
pub record FormedOuts (o : Outs) : Type 0 where
  pub explicit : FormedPaths o.explicit
  pub implicit : FormedPaths o.implicit

-- the inputs are formed
pub record FormedIns (o : Ins) : Type 0 where
  pub explicit : FormedPaths o.explicit
  pub implicit : FormedPaths o.implicit
  pub order_only : FormedPaths o.order_only
  pub validations : FormedPaths o.validations

-- the paths and values of a build statement are formed
pub record FormedWork (e : Work) : Type 0 where
  pub outs : FormedOuts e.outs
  pub ins : FormedIns e.ins
  pub lines : FormedLines e.lines

-- each value and path of what a statement says is formed
abbrev pub FormedSaid : Said → Type 0
FormedSaid (variable e) = FormedEntry e
FormedSaid (rule d) = FormedLines d.lines
FormedSaid (pool d) = FormedLines d.lines
FormedSaid (build e) = FormedWork e

-- each value and path of a statement is formed
abbrev pub FormedIn : Stated → Type 0
FormedIn x = FormedSaid x.says

-- what holds of each item holds of a run of them
run_all : {E : Type 0} (Q : E → Type 0) (Item : List ℕ → List E → List ℕ → Type 0) (End : List ℕ → List ℕ → Type 0) → ((s : List ℕ) (xs : List E) (r : List ℕ) → Item s xs r → AllByRecursion Q xs) → {s r : List ℕ} {xs : List E} → Run Item End s xs r → AllByRecursion Q xs
run_all Q Item End each (Run.end h) = tt
run_all Q Item End each (Run.item {s = s} {t = t} {xs = xs} {ys = ys} h g) = All-append Q xs ys (each s xs t h) (run_all Q Item End each g)

one_path_formed : (s : List ℕ) (ps : List (List ℕ)) (r : List ℕ) → OnePath s ps r → FormedPaths ps
one_path_formed s ps r (OnePath.path {b = b} {t = t} g n h) = (path_formed (b ∷ t) r h, tt)

paths_formed : {s r : List ℕ} {ps : List (List ℕ)} → Paths s ps r → FormedPaths ps
paths_formed h = run_all Formed OnePath NoPath one_path_formed h

section_formed : {Mark : List ℕ → List ℕ → Type 0} {s r : List ℕ} {ps : List (List ℕ)} → Section Mark s ps r → FormedPaths ps
section_formed (Section.none n) = tt
section_formed (Section.some m h) = paths_formed h

outputs_formed : {s r : List ℕ} {o : Outs} → Outputs s o r → FormedOuts o
outputs_formed (Outputs.outputs h g e) = record { explicit = paths_formed h; implicit = section_formed g }

inputs_formed : {s r : List ℕ} {o : Ins} → Inputs s o r → FormedIns o
inputs_formed (Inputs.inputs h1 h2 h3 h4 e) =
    record { explicit = paths_formed h1; implicit = section_formed h2; order_only = section_formed h3; validations = section_formed h4 }

set_to_formed : {s v r : List ℕ} → SetTo s v r → Formed v
set_to_formed {r = r} (SetTo.set_to {c = c} {t = t} g e h v f) = value_formed t (c ∷ r) v

setting_formed : {k : Block} {s r : List ℕ} {e : Entry} → Setting k s e r → FormedEntry e
setting_formed (Setting.setting g h t w) = set_to_formed w

block_line_formed : (k : Block) (s : List ℕ) (es : List Entry) (r : List ℕ) → BlockLine k s es r → FormedLines es
block_line_formed k s es r (BlockLine.remark h) = tt
block_line_formed k s es r (BlockLine.sets h g) = (setting_formed g, tt)

lines_formed : (k : Block) {s r : List ℕ} {es : List Entry} → Lines k s es r → FormedLines es
lines_formed k h = run_all FormedEntry (BlockLine k) BlockEnd (block_line_formed k) h

heading_formed : {k : Block} {s r : List ℕ} {d : Head} → Heading k s d r → FormedLines d.lines
heading_formed {k = k} (Heading.heading g h w e l) = lines_formed k l

working_formed : {s r : List ℕ} {w : Work} → Working s w r → FormedWork w
working_formed (Working.working h1 h2 h3 h4 h5) =
    record { outs = outputs_formed h1; ins = inputs_formed h4; lines = lines_formed _ h5 }

says_formed : {s r : List ℕ} {x : Said} → Says s x r → FormedSaid x
says_formed (Says.is_variable h p g) = set_to_formed g
says_formed (Says.is_rule h p g) = heading_formed g
says_formed (Says.is_pool h p g) = heading_formed g
says_formed (Says.is_build h p g) = working_formed g

one_formed : (n : ℕ) (s : List ℕ) (xs : List Stated) (r : List ℕ) → OneStatement n s xs r → AllByRecursion FormedIn xs
one_formed n s xs r (OneStatement.statement h g) = (says_formed g, tt)

-- each value and path of a manifest is formed
pub manifest_formed : (s : List ℕ) (xs : List Stated) → Manifest s xs → AllByRecursion FormedIn xs
manifest_formed s xs h = run_all FormedIn (OneStatement (length s)) NoStatement (one_formed (length s)) h.says
