-- What each statement adds, computed, is what the rules say.
use Rattle.std.proofs.Common.{◌≡◌, ℕ, ◌+◌, ◌-◌, ◌*◌, ◌/◌, ◌%◌, ◌<◌, ◌≤◌, true, false, ◌&&◌, ltb, leb, ◌⊎◌, List, [], ◌∷◌, length, is_some, Some, None, codes, decimal, Option, sym, refl, ap, ◌∙◌, subst, inl, inr, ⊎_elim, arith}
use Rattle.std.specs.List.{AllByRecursion}
use Rattle.std.specs.Str.{bytes_eq}
use Rattle.std.proofs.lemmas.Bool.{cond_both, cond-true, cond-false, cases_Bool, cases_lt, ltb-true, lt-ltb, leb-true, le-leb, and_parts, false≢true}
use Rattle.std.proofs.lemmas.Fmt.{decimal_digit, decimal_step}
use Rattle.parts.specs.Parts.{Entry}
use Rattle.text.specs.Text.{Head, Work, Said, variable, rule, pool, build, Stated}
use Rattle.store.specs.Try.{got}
use Rattle.expansion.specs.Model.{TextsData, Read, file_scope, block_scope, with_store, read_as, set_file, set_block, read_path}
use Rattle.names.specs.Named.{last_from, last_of}
use Rattle.lists.specs.Files.{Walk, take_input, take_output, afresh}
use Rattle.names.specs.Depth.{digit_from, low_depth, depth_of}
use Rattle.draft.specs.State.{State}
use Rattle.draft.specs.Statements.{rule_at, pool_at, add_variable, add_rule, take_depth, deep_pool, add_pool, add_edge, add_said, add}
use Rattle.lists.specs.Paths.{take_paths}
use Rattle.reader.specs.Values.{no_head}
use Rattle.reader.specs.Expands.{Lacks, Keeps}
use Rattle.reader.specs.Rules.{Steps, Input, Output, InBlock, InPool, Paths, Adds}
use Rattle.reader.specs.Means.{Last, no_pool}
use Rattle.reader.proofs.Formed.{Formed, FormedEntry, FormedLines, FormedWork, FormedSaid, FormedIn}
use Rattle.reader.proofs.Expanding.{same_name, other_name, named, not_named, keep_sound}
use Rattle.reader.proofs.Naming.{Got, then_got, then_as, got_cond, after, each_full, each_sound, is_none, kept_full, bound_full, bound_sound, Placed, placed, place_first, place_none, first_at, mention_full, mention_sound, claim_full, claim_sound, listed_full, listed_sound}

read_path_sound : (d : TextsData) (v p u : List ℕ) → Keeps 1 128 (block_scope d) d.store v p u → read_path d v ≡ got (record { text = p; texts = with_store d u })
read_path_sound d v p u h = after _ _ _ _ (keep_sound 1 128 (block_scope d) d.store v p u h) refl

pub input_full : (k : ℕ) (w : Walk) (v : List ℕ) → Formed v → Got (Input k w v) (take_input k w v)
input_full k w v f =
    then_as (read_as w.texts) _ (kept_full 1 128 (block_scope w.texts) w.texts.store v f) (λ t h.
    then_got _ (mention_full w.files t.text) (λ m n.
    listed_full (Input k w v) k w.found m.file _ (λ l. Got.gives (Input.input h n l))))

pub input_sound : (k : ℕ) (w : Walk) (v : List ℕ) (x : Walk) → Input k w v x → take_input k w v ≡ got x
input_sound k w v x (Input.input {p = p} {u = u} {i = i} h n l) =
    after _ _ _ _ (read_path_sound w.texts v p u h) (after _ _ _ _ (mention_sound n) (after _ _ _ _ (listed_sound k w.found i l) refl))

pub output_full : (e : ℕ) (w : Walk) (v : List ℕ) → Formed v → Got (Output e w v) (take_output e w v)
output_full e w v f =
    then_as (read_as w.texts) _ (kept_full 1 128 (block_scope w.texts) w.texts.store v f) (λ t h.
    then_got _ (mention_full w.files t.text) (λ m n.
    claim_full (Output e w v) m.files m.file e _ (λ c.
    listed_full (Output e w v) 8 w.found m.file _ (λ l. Got.gives (Output.output h n c l)))))

pub output_sound : (e : ℕ) (w : Walk) (v : List ℕ) (x : Walk) → Output e w v x → take_output e w v ≡ got x
output_sound e w v x (Output.output {p = p} {u = u} {i = i} {gs = gs} h n c l) =
    after _ _ _ _ (read_path_sound w.texts v p u h) (after _ _ _ _ (mention_sound n) (after _ _ _ _ (claim_sound gs i e c) (after _ _ _ _ (listed_sound 8 w.found i l) refl)))

pub block_full : (d : TextsData) (l : Entry) → FormedEntry l → Got (InBlock d l) (set_block d l)
block_full d l f =
    then_got _ (kept_full 0 1024 (file_scope d) d.store l.value f) (λ k h.
    then_got _ (bound_full 16 d.block l.name k.text) (λ vs s. Got.gives (InBlock.line h s)))

pub block_sound : (d : TextsData) (l : Entry) (x : TextsData) → InBlock d l x → set_block d l ≡ got x
block_sound d l x (InBlock.line {t = t} {u = u} h s) =
    after _ _ _ _ (keep_sound 0 1024 (file_scope d) d.store l.value t u h) (after _ _ _ _ (bound_sound s) refl)

pub depth_line_full : (r : Read) (l : Entry) → FormedEntry l → Got (InPool r l) (take_depth r l)
depth_line_full r l f = then_got _ (kept_full 0 1024 (file_scope r.texts) r.texts.store l.value f) (λ k h. Got.gives (InPool.line h))

pub depth_line_sound : (r : Read) (l : Entry) (x : Read) → InPool r l x → take_depth r l ≡ got x
depth_line_sound r l x (InPool.line {t = t} {u = u} h) = after _ _ _ _ (keep_sound 0 1024 (file_scope r.texts) r.texts.store l.value t u h) refl

-- the text of a depth
pub record Depth (t : List ℕ) (k : ℕ) : Type 0 where
  pub is : t ≡ decimal k
  pub least : 1 ≤ k
  pub most : k ≤ 64

two_digits : (a b : ℕ) → a < 10 → 1 ≤ a → b < 10 → decimal (10 * a + b) ≡ (48 + a) ∷ (48 + b) ∷ []
two_digits a b l m n =
    let q : (10 * a + b) / 10 ≡ a = omega arith in
    let r : (10 * a + b) % 10 ≡ b = omega arith in
    decimal_step (10 * a + b) (omega arith) (omega arith) ∙ rw (q, r, decimal_digit a l)

-- what a text's depth says
abbrev pub Deep : List ℕ → Option ℕ → Type 0
Deep t None = Unit {0}
Deep t (Some k) = Depth t k

pub depth_full : (t : List ℕ) → Deep t (depth_of t)
depth_full [] = tt
depth_full (a ∷ []) =
    cond_both (digit_from 49 a) (Some (a - 48)) None (Deep (a ∷ []))
    (λ h. let w = and_parts (leb 49 a) (leb a 57) h in
    let low = leb-true 49 a w.0 in
    let high = leb-true a 57 w.1 in
    let e : a ≡ 48 + (a - 48) = omega arith in
    record { is = ap (λ z. z ∷ []) e ∙ sym (decimal_digit (a - 48) (omega arith)); least = omega arith; most = omega arith })
    (λ _. tt)
depth_full (a ∷ b ∷ []) =
    cond_both (digit_from 49 a && digit_from 48 b) (low_depth (10 * (a - 48) + (b - 48))) None (Deep (a ∷ b ∷ []))
    (λ h. let w = and_parts (digit_from 49 a) (digit_from 48 b) h in
    let x = and_parts (leb 49 a) (leb a 57) w.0 in
    let y = and_parts (leb 48 b) (leb b 57) w.1 in
    let la = leb-true 49 a x.0 in
    let ha = leb-true a 57 x.1 in
    let lb = leb-true 48 b y.0 in
    let hb = leb-true b 57 y.1 in
    cond_both (leb (10 * (a - 48) + (b - 48)) 64) (Some (10 * (a - 48) + (b - 48))) None (Deep (a ∷ b ∷ []))
    (λ m. let d : a ≡ 48 + (a - 48) = omega arith in
    let e : b ≡ 48 + (b - 48) = omega arith in
    record { is = (ap (λ z. z ∷ b ∷ []) d ∙ ap (λ z. (48 + (a - 48)) ∷ z ∷ []) e) ∙ sym (two_digits (a - 48) (b - 48) (omega arith) (omega arith) (omega arith)); least = omega arith; most = leb-true _ 64 m })
    (λ _. tt))
    (λ _. tt)
depth_full (a ∷ b ∷ c ∷ s) = tt

one_deep : (k : ℕ) → 1 ≤ k → k < 10 → depth_of ((48 + k) ∷ []) ≡ Some k
one_deep k l m =
    let e : 48 + k - 48 ≡ k = omega arith in
    rw (le-leb 49 (48 + k) (omega arith), le-leb (48 + k) 57 (omega arith)) (ap (λ z. Some z) e)

two_deep : (a b : ℕ) → 1 ≤ a → a < 10 → b < 10 → 10 * a + b ≤ 64 → depth_of ((48 + a) ∷ (48 + b) ∷ []) ≡ Some (10 * a + b)
two_deep a b l m n h =
    let e : 10 * (48 + a - 48) + (48 + b - 48) ≡ 10 * a + b = omega arith in
    rw (le-leb 49 (48 + a) (omega arith), le-leb (48 + a) 57 (omega arith), le-leb 48 (48 + b) (omega arith), le-leb (48 + b) 57 (omega arith))
    (ap low_depth e ∙ rw (le-leb (10 * a + b) 64 h))

pub depth_sound : (k : ℕ) → 1 ≤ k → k ≤ 64 → depth_of (decimal k) ≡ Some k
depth_sound k l m = ⊎_elim
    (λ (s : k < 10). ap depth_of (decimal_digit k s) ∙ one_deep k l s)
    (λ (s : 10 ≤ k).
    let e : 10 * (k / 10) + k % 10 ≡ k = omega arith in
    let h : k % 10 < 10 = omega arith in
    ap (λ z. depth_of (decimal z)) (sym e) ∙ ap depth_of (two_digits (k / 10) (k % 10) (omega arith) (omega arith) h) ∙ two_deep (k / 10) (k % 10) (omega arith) (omega arith) h (omega arith) ∙ ap (λ z. Some z) e)
    (cases_lt k 10)

-- the last line that sets a name, or that none does
last_lacks : (d : Option (List ℕ)) (ls : List Entry) (n : List ℕ) → Lacks ls n → last_from d ls n ≡ d
last_lacks d [] n h = refl
last_lacks d (l ∷ ls) n h = rw (other_name l.name n h.0) (last_lacks d ls n h.1)

last_found : {ls : List Entry} {n v : List ℕ} → Last ls n v → (d : Option (List ℕ)) → last_from d ls n ≡ Some v
last_found (Last.here {l = l} {ls = ls} {n = n} e h) d = rw (same_name l.name n e) (last_lacks (Some l.value) ls n h)
last_found (Last.there h) d = last_found h _

last_cases : (ls : List Entry) (n : List ℕ) → Lacks ls n ⊎ ((v : List ℕ) × Last ls n v)
last_cases [] n = inl tt
last_cases (l ∷ ls) n = ⊎_elim
    (λ (h : Lacks ls n). ⊎_elim
    (λ (t : bytes_eq l.name n ≡ true). inr (l.value, Last.here (named l.name n t) h))
    (λ (f : bytes_eq l.name n ≡ false). inl (not_named l.name n f, h))
    (cases_Bool (bytes_eq l.name n)))
    (λ (w : (v : List ℕ) × Last ls n v). inr (w.0, Last.there w.1))
    (last_cases ls n)

pub last_sound : {ls : List Entry} {n v : List ℕ} → Last ls n v → last_of ls n ≡ Some v
last_sound h = last_found h None

pub last_none : (ls : List Entry) (n : List ℕ) → Lacks ls n → last_of ls n ≡ None
last_none ls n h = last_lacks None ls n h

pub last_full : (ls : List Entry) (n v : List ℕ) → last_of ls n ≡ Some v → Last ls n v
last_full ls n v e = ⊎_elim
    (λ (h : Lacks ls n). absurd (false≢true (ap is_some (sym (last_none ls n h) ∙ e))))
    (λ (w : (v : List ℕ) × Last ls n v). let u : w.0 ≡ v = some_same w.0 v (sym (last_sound w.1) ∙ e) in subst (Last ls n) u w.1)
    (last_cases ls n)
  where
    some_same : (a b : List ℕ) → Some a ≡ Some b → a ≡ b
    some_same a b p = cc

pub last_lack : (ls : List Entry) (n : List ℕ) → last_of ls n ≡ None → Lacks ls n
last_lack ls n e = ⊎_elim
    (λ (h : Lacks ls n). h)
    (λ (w : (v : List ℕ) × Last ls n v). absurd (false≢true (ap is_some (sym e ∙ last_sound w.1))))
    (last_cases ls n)

pub paths_full : (e : ℕ) (s : Walk) (w : Work) → FormedWork w → Got (λ l. Paths e s w l.outputs l.reads l.order_only l.after) (take_paths e s w)
paths_full e s w f =
    then_got _ (each_full (take_output e) (Output e) Formed (output_full e) s _ f.outs.explicit) (λ o1 h1.
    then_got _ (each_full (take_output e) (Output e) Formed (output_full e) o1 _ f.outs.implicit) (λ o2 h2.
    then_got _ (each_full (take_input 64) (Input 64) Formed (input_full 64) (afresh o2) _ f.ins.explicit) (λ i1 h3.
    then_got _ (each_full (take_input 64) (Input 64) Formed (input_full 64) i1 _ f.ins.implicit) (λ i2 h4.
    then_got _ (each_full (take_input 64) (Input 64) Formed (input_full 64) (afresh i2) _ f.ins.order_only) (λ o3 h5.
    then_got _ (each_full (take_input 16) (Input 16) Formed (input_full 16) (afresh o3) _ f.ins.validations) (λ v h6.
    Got.gives (record { explicit_outs = o1; all_outs = o2; explicit_reads = i1; all_reads = i2; all_order = o3; first = h1; second = h2; third = h3; fourth = h4; fifth = h5; sixth = h6; outputs = refl; inputs = refl; ordered = refl })))))))

pub paths_sound : (e : ℕ) (s : Walk) (w : Work) (outs reads order : List ℕ) (v : Walk) → Paths e s w outs reads order v → take_paths e s w ≡ got (record { outputs = outs; reads = reads; order_only = order; after = v })
paths_sound e s w outs reads order v h =
    after _ _ _ _ (each_sound (take_output e) (Output e) (output_sound e) h.first)
    (after _ _ _ _ (each_sound (take_output e) (Output e) (output_sound e) h.second)
    (after _ _ _ _ (each_sound (take_input 64) (Input 64) (input_sound 64) h.third)
    (after _ _ _ _ (each_sound (take_input 64) (Input 64) (input_sound 64) h.fourth)
    (after _ _ _ _ (each_sound (take_input 64) (Input 64) (input_sound 64) h.fifth)
    (after _ _ _ _ (each_sound (take_input 16) (Input 16) (input_sound 16) h.sixth)
    (rw (h.outputs, h.inputs, h.ordered)))))))

-- the state with other texts
abbrev with_texts : State → TextsData → State
with_texts st d = record { texts = d; rules = st.rules; pools = st.pools; files = st.files; edges = st.edges; chosen = st.chosen }

file_full : (st : State) (place : ℕ) (e : Entry) → FormedEntry e → Got (λ d. Adds st (record { place = place; says = variable e }) (with_texts st d)) (set_file st.texts e)
file_full st place e f =
    then_got _ (kept_full 0 1024 (file_scope st.texts) st.texts.store e.value f) (λ k h.
    then_got _ (bound_full 128 st.texts.file e.name k.text) (λ vs s. Got.gives (Adds.is_variable h s)))

variable_full : (st : State) (place : ℕ) (e : Entry) → FormedEntry e → Got (Adds st (record { place = place; says = variable e })) (add_variable st e)
variable_full st place e f = then_got _ (file_full st place e f) (λ d h. Got.gives h)

rule_full : (st : State) (place : ℕ) (h : Head) → Got (Adds st (record { place = place; says = rule h })) (add_rule st h)
rule_full st place h =
    got_cond (is_some (rule_at st.rules h.name)) _ _ (λ _. Got.fails) (λ n.
    got_cond (ltb (length st.rules) 64) _ _
    (λ l. got_cond (is_some (last_of h.lines (codes "command"))) _ _
    (λ c. Got.gives (Adds.is_rule
    (subst (Placed (λ h. h.name) no_head 0 st.rules h.name) (is_none (rule_at st.rules h.name) n) (placed (λ h. h.name) no_head 0 st.rules h.name))
    (ltb-true (length st.rules) 64 l)
    (λ z. false≢true (ap is_some (sym (last_none h.lines (codes "command") z)) ∙ c))))
    (λ _. Got.fails))
    (λ _. Got.fails))

deep_full : (st : State) (place : ℕ) (h : Head) (r : Read) (o : Option ℕ) → Deep r.text o → AllByRecursion (λ p. p.name ≡ h.name → ⊥) st.pools → length st.pools < 16 → Steps InPool (record { text = []; texts = st.texts }) h.lines r → Got (Adds st (record { place = place; says = pool h })) (deep_pool o st r.texts h.name)
deep_full st place h r None d a l s = Got.fails
deep_full st place h r (Some k) d a l s =
    Got.gives (Adds.is_pool a l (subst (λ z. Steps InPool (record { text = []; texts = st.texts }) h.lines (record { text = z; texts = r.texts })) d.is s) d.least d.most)

pool_full : (st : State) (place : ℕ) (h : Head) → FormedLines h.lines → Got (Adds st (record { place = place; says = pool h })) (add_pool st h)
pool_full st place h f =
    got_cond (is_some (pool_at st.pools h.name)) _ _ (λ _. Got.fails) (λ n.
    got_cond (ltb (length st.pools) 16) _ _
    (λ l. then_got _ (each_full take_depth InPool FormedEntry depth_line_full (record { text = []; texts = st.texts }) h.lines f) (λ r s.
    deep_full st place h r (depth_of r.text) (depth_full r.text)
    (subst (Placed (λ p. p.name) no_pool 0 st.pools h.name) (is_none (pool_at st.pools h.name) n) (placed (λ p. p.name) no_pool 0 st.pools h.name))
    (ltb-true (length st.pools) 16 l) s))
    (λ _. Got.fails))

edge_full : (st : State) (place : ℕ) (w : Work) → FormedWork w → (o : Option ℕ) → Placed (λ h. h.name) no_head 0 st.rules w.rule o → Got (Adds st (record { place = place; says = build w })) (add_edge o st place w)
edge_full st place w f None p = Got.fails
edge_full st place w f (Some k) p =
    let r = first_at (λ h. h.name) no_head st.rules w.rule k p in
    got_cond (ltb (length st.edges) 128) _ _
    (λ l. then_got _ (each_full set_block InBlock FormedEntry block_full st.texts w.lines f.lines) (λ d b.
    then_got _ (paths_full (length st.edges) (record { texts = d; files = st.files; found = [] }) w f) (λ ls q.
    Got.gives (Adds.is_build r.within r.is r.first (ltb-true (length st.edges) 128 l) b q))))
    (λ _. Got.fails)

said_full : (st : State) (place : ℕ) (x : Said) → FormedSaid x → Got (Adds st (record { place = place; says = x })) (add_said st place x)
said_full st place (variable e) f = variable_full st place e f
said_full st place (rule h) f = rule_full st place h
said_full st place (pool h) f = pool_full st place h f
said_full st place (build w) f = edge_full st place w f _ (placed (λ h. h.name) no_head 0 st.rules w.rule)

pub add_full : (st : State) (x : Stated) → FormedIn x → Got (Adds st x) (add st x)
unfolding add
add_full st x f = said_full st x.place x.says f

some_command : (ls : List Entry) (n : List ℕ) → (Lacks ls n → ⊥) → is_some (last_of ls n) ≡ true
some_command ls n h = ⊎_elim
    (λ (z : Lacks ls n). absurd (h z)) (λ (w : (v : List ℕ) × Last ls n v). ap is_some (last_sound w.1)) (last_cases ls n)

pub add_sound : (st : State) (x : Stated) (t : State) → Adds st x t → add st x ≡ got t
unfolding add
add_sound st x t (Adds.is_variable {e = e} {t = v} {u = u} h s) =
    after _ _ _ _ (after _ _ _ _ (keep_sound 0 1024 (file_scope st.texts) st.texts.store e.value v u h) (after _ _ _ _ (bound_sound s) refl)) refl
add_sound st x t (Adds.is_rule {h = h} a l c) =
    cond-false _ _ _ (ap is_some (place_none (λ h. h.name) no_head 0 st.rules h.name a))
    ∙ cond-true _ _ _ (lt-ltb (length st.rules) 64 l) ∙ cond-true _ _ _ (some_command h.lines (codes "command") c)
add_sound st x t (Adds.is_pool {h = h} {k = k} {d = d} a l s m n) =
    cond-false _ _ _ (ap is_some (place_none (λ p. p.name) no_pool 0 st.pools h.name a))
    ∙ cond-true _ _ _ (lt-ltb (length st.pools) 16 l)
    ∙ after _ _ _ _ (each_sound take_depth InPool depth_line_sound s) (ap (λ o. deep_pool o st d h.name) (depth_sound k m n))
add_sound st x t (Adds.is_build {place = place} {k = k} {w = w} {outs = outs} {reads = reads} {order = order} {v = v} r i f l b q) =
    ap (λ o. add_edge o st place w) (place_first (λ h. h.name) no_head st.rules w.rule k (record { within = r; is = i; first = f }))
    ∙ cond-true _ _ _ (lt-ltb (length st.edges) 128 l)
    ∙ after _ _ _ _ (each_sound set_block InBlock block_sound b) (after _ _ _ _ (paths_sound _ _ w outs reads order v q) refl)
