-- What lasts over the statements: the store keeps its limit, and the lines of rules are formed.
use Rattle.std.proofs.Common.{ℕ, zero, suc, ◌≤◌, List, [], ◌∷◌, length, get_or, arith, length-append}
use Rattle.std.specs.List.{AllByRecursion}
use Rattle.std.proofs.ByRecursion.{All-push}
use Rattle.parts.specs.Parts.{Entry}
use Rattle.text.specs.Text.{Head, Work, Stated}
use Rattle.expansion.specs.Model.{TextsData, Read}
use Rattle.lists.specs.Files.{Walk}
use Rattle.draft.specs.State.{State, no_state}
use Rattle.reader.specs.Values.{no_head, rule_of}
use Rattle.reader.specs.Expands.{Receives}
use Rattle.reader.specs.Rules.{Steps, Input, Output, InBlock, InPool, Paths, Adds, Follows}
use Rattle.reader.proofs.Formed.{FormedLines, FormedIn}
use Rattle.reader.proofs.Naming.{steps_keep}

-- the store keeps its limit
abbrev pub Low : TextsData → Type 0
Low d = length d.store ≤ 32768

receives_low : {s v t u : List ℕ} → Receives s v t u → length s ≤ 32768 → length u ≤ 32768
receives_low (Receives.nothing h) l = l
receives_low (Receives.text {s = s} {t = t} h m) l = omega (arith, length-append s t)

input_low : (k : ℕ) (w : Walk) (v : List ℕ) (x : Walk) → Input k w v x → Low w.texts → Low x.texts
input_low k w v x (Input.input h n m) l = receives_low h.receives l

output_low : (e : ℕ) (w : Walk) (v : List ℕ) (x : Walk) → Output e w v x → Low w.texts → Low x.texts
output_low e w v x (Output.output h n c m) l = receives_low h.receives l

block_low : (d : TextsData) (e : Entry) (x : TextsData) → InBlock d e x → Low d → Low x
block_low d e x (InBlock.line h s) l = receives_low h.receives l

pool_low : (r : Read) (e : Entry) (x : Read) → InPool r e x → Low r.texts → Low x.texts
pool_low r e x (InPool.line h) l = receives_low h.receives l

inputs_low : (k : ℕ) {w x : Walk} {vs : List (List ℕ)} → Steps (Input k) w vs x → Low w.texts → Low x.texts
inputs_low k h l = steps_keep (Input k) (λ x. Low x.texts) (input_low k) h l

outputs_low : (e : ℕ) {w x : Walk} {vs : List (List ℕ)} → Steps (Output e) w vs x → Low w.texts → Low x.texts
outputs_low e h l = steps_keep (Output e) (λ x. Low x.texts) (output_low e) h l

paths_low : (e : ℕ) {s : Walk} {w : Work} {outs reads order : List ℕ} {v : Walk} → Paths e s w outs reads order v → Low s.texts → Low v.texts
paths_low e h l =
    inputs_low 16 h.sixth (inputs_low 64 h.fifth (inputs_low 64 h.fourth (inputs_low 64 h.third (outputs_low e h.second (outputs_low e h.first l)))))

adds_low : (st : State) (x : Stated) (t : State) → Adds st x t → Low st.texts → Low t.texts
adds_low st x t (Adds.is_variable h s) l = receives_low h.receives l
adds_low st x t (Adds.is_rule a m c) l = l
adds_low st x t (Adds.is_pool a m s b c) l = steps_keep InPool (λ r. Low r.texts) pool_low s l
adds_low st x t (Adds.is_build r i f m b q) l = paths_low _ q (steps_keep InBlock Low block_low b l)

pub follows_low : {xs : List Stated} {u : State} → Follows no_state xs u → Low u.texts
follows_low h = steps_keep Adds (λ st. Low st.texts) adds_low h (omega arith)

-- the lines of each rule are formed
abbrev pub FormedRules : List Head → Type 0
FormedRules rs = AllByRecursion (λ h. FormedLines h.lines) rs

adds_formed : {st : State} {x : Stated} {t : State} → Adds st x t → FormedIn x → FormedRules st.rules → FormedRules t.rules
adds_formed (Adds.is_variable h s) f r = r
adds_formed {st = st} (Adds.is_rule {h = h} a m c) f r = All-push (λ d. FormedLines d.lines) st.rules h r f
adds_formed (Adds.is_pool a m s b c) f r = r
adds_formed (Adds.is_build k i n m b q) f r = r

steps_formed : {st : State} {xs : List Stated} {u : State} → Follows st xs u → AllByRecursion FormedIn xs → FormedRules st.rules → FormedRules u.rules
steps_formed Steps.none f r = r
steps_formed (Steps.step h q) f r = steps_formed q f.1 (adds_formed h f.0 r)

formed_at : (rs : List Head) (i : ℕ) → FormedRules rs → FormedLines (get_or rs i no_head).lines
formed_at [] i f = tt
formed_at (r ∷ rs) zero f = f.0
formed_at (r ∷ rs) (suc i) f = formed_at rs i f.1

pub follows_formed : {xs : List Stated} {u : State} → Follows no_state xs u → AllByRecursion FormedIn xs → (e : ℕ) → FormedLines (rule_of u e).lines
follows_formed {u = u} h f e = formed_at u.rules (get_or u.chosen e 0) (steps_formed h f tt)
