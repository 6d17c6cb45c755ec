-- No statement and no value is wrong for a circle.
use Rattle.std.proofs.Common.{◌≡◌, ℕ, ◌+◌, Bool, cond, ◌&&◌, ltb, leb, List, [], ◌∷◌, length, is_some, Some, None, codes, Option, arith}
use Rattle.std.proofs.lemmas.Bool.{cond_both}
use Rattle.parts.specs.Parts.{Entry}
use Rattle.text.specs.Text.{Head, Work, Said, variable, rule, pool, build, Stated}
use Rattle.store.specs.declared.wrong.Wrong.{Wrong}
use Rattle.store.specs.declared.wrong.Wrong.TheVariants.{Unknown, Again, Made, Limit, Lacks, Circle}
use Rattle.store.specs.Try.{Try, got, wrong, and_try}
use Rattle.values.specs.Expand.{dollar, find, Scope, look, expand}
use Rattle.store.specs.Stores.{stored}
use Rattle.values.specs.Kept.{sized, received, keep, bound}
use Rattle.expansion.specs.Model.{TextsData, Read, file_scope, block_scope, set_file, set_block, read_path, rule_scope, ask}
use Rattle.graph.specs.Data.{FileData, PoolData, maker_at, edge_at}
use Rattle.names.specs.Named.{place_from_on, last_of}
use Rattle.lists.specs.Each.{each_try}
use Rattle.lists.specs.Files.{Walk, mention_at, mention, claim_from, claim, listed, take_input, take_output, afresh}
use Rattle.names.specs.Depth.{depth_of}
use Rattle.draft.specs.State.{State}
use Rattle.draft.specs.Statements.{rule_at, pool_at, add_rule, take_depth, deep_pool, add_pool, add_edge, add_said, add}
use Rattle.lists.specs.Paths.{take_paths}
use Rattle.reader.specs.Values.{in_text, out_text, block_of, rule_of, value_by, value_for, pool_found, pool_named, valued, question_for, asked}

-- a step that is wrong is wrong for something else than a circle
pub data Other {A : Type 0} : Try A → Type 0 where
  fine : {a : A} → Other (got a)
  else : {w : Wrong} → (w ≡ Circle → ⊥) → Other (wrong w)

then_other : {A B : Type 0} {o : Try A} (f : A → Try B) → Other o → ((a : A) → Other (f a)) → Other (and_try o f)
then_other f (Other.fine {a = a}) k = k a
then_other f (Other.else n) k = Other.else n

cond_other : {A : Type 0} (t : Bool) {x y : Try A} → Other x → Other y → Other (cond t x y)
cond_other t {x = x} {y = y} h k = cond_both t x y Other (λ _. h) (λ _. k)

limit : {A : Type 0} → Other {A = A} (wrong Limit)
limit = Other.else (λ (e : Limit ≡ Circle). let z : ◌≡◌ {A = ℕ} 0 1 = cc in omega arith)

unknown : {A : Type 0} → Other {A = A} (wrong Unknown)
unknown = Other.else (λ (e : Unknown ≡ Circle). let z : ◌≡◌ {A = ℕ} 0 1 = cc in omega arith)

again : {A : Type 0} → Other {A = A} (wrong Again)
again = Other.else (λ (e : Again ≡ Circle). let z : ◌≡◌ {A = ℕ} 0 1 = cc in omega arith)

made : {A : Type 0} → Other {A = A} (wrong Made)
made = Other.else (λ (e : Made ≡ Circle). let z : ◌≡◌ {A = ℕ} 0 1 = cc in omega arith)

lacks : {A : Type 0} → Other {A = A} (wrong Lacks)
lacks = Other.else (λ (e : Lacks ≡ Circle). let z : ◌≡◌ {A = ℕ} 0 1 = cc in omega arith)

sized_other : (low high : ℕ) (t : List ℕ) → Other (sized low high t)
sized_other low high t = cond_other (leb low (length t) && leb (length t) high) Other.fine limit

stored_other : (s t : List ℕ) → Other (stored s t)
stored_other s t = cond_other (leb (length s + length t) 32768) Other.fine limit

received_other : (s v t : List ℕ) → Other (received s v t)
received_other s v t = cond_other (dollar v) (stored_other s t) Other.fine

keep_other : (low high : ℕ) (c : Scope) (s v : List ℕ) → Other (keep low high c s v)
keep_other low high c s v = then_other _ (sized_other low high _) (λ t. then_other _ (received_other s v t) (λ u. Other.fine))

bound_other : (k : ℕ) (es : List Entry) (e : Entry) → Other (bound k es e)
bound_other k es e = cond_other (is_some (find es e.name)) Other.fine (cond_other (ltb (length es) k) Other.fine limit)

mention_at_other : (o : Option ℕ) (fs : List FileData) (p : List ℕ) → Other (mention_at o fs p)
mention_at_other None fs p = cond_other (ltb (length fs) 256) Other.fine limit
mention_at_other (Some i) fs p = Other.fine

mention_other : (fs : List FileData) (p : List ℕ) → Other (mention fs p)
mention_other fs p = mention_at_other (place_from_on (λ f. f.path) 0 fs p) fs p

claim_at_other : (o : Option ℕ) (fs : List FileData) (i e : ℕ) → Other (claim_from o fs i e)
claim_at_other None fs i e = Other.fine
claim_at_other (Some d) fs i e = made

claim_other : (fs : List FileData) (i e : ℕ) → Other (claim fs i e)
claim_other fs i e = claim_at_other (maker_at fs i) fs i e

listed_other : (k : ℕ) (ns : List ℕ) (n : ℕ) → Other (listed k ns n)
listed_other k ns n = cond_other (ltb (length ns) k) Other.fine limit

each_other : {S A : Type 0} (f : S → A → Try S) → ((s : S) (x : A) → Other (f s x)) → (s : S) (xs : List A) → Other (each_try f s xs)
each_other f h s [] = Other.fine
each_other f h s (x ∷ xs) = then_other _ (h s x) (λ t. each_other f h t xs)

path_other : (d : TextsData) (v : List ℕ) → Other (read_path d v)
path_other d v = then_other _ (keep_other 1 128 (block_scope d) d.store v) (λ k. Other.fine)

input_other : (k : ℕ) (w : Walk) (v : List ℕ) → Other (take_input k w v)
input_other k w v =
    then_other _ (path_other w.texts v) (λ r.
    then_other _ (mention_other w.files r.text) (λ m.
    then_other _ (listed_other k w.found m.file) (λ ns. Other.fine)))

output_other : (e : ℕ) (w : Walk) (v : List ℕ) → Other (take_output e w v)
output_other e w v =
    then_other _ (path_other w.texts v) (λ r.
    then_other _ (mention_other w.files r.text) (λ m.
    then_other _ (claim_other m.files m.file e) (λ fs.
    then_other _ (listed_other 8 w.found m.file) (λ ns. Other.fine))))

file_other : (d : TextsData) (e : Entry) → Other (set_file d e)
file_other d e =
    then_other _ (keep_other 0 1024 (file_scope d) d.store e.value) (λ k.
    then_other _ (bound_other 128 d.file (record { name = e.name; value = k.text })) (λ vs. Other.fine))

block_other : (d : TextsData) (e : Entry) → Other (set_block d e)
block_other d e =
    then_other _ (keep_other 0 1024 (file_scope d) d.store e.value) (λ k.
    then_other _ (bound_other 16 d.block (record { name = e.name; value = k.text })) (λ vs. Other.fine))

depth_other : (r : Read) (e : Entry) → Other (take_depth r e)
depth_other r e = then_other _ (keep_other 0 1024 (file_scope r.texts) r.texts.store e.value) (λ k. Other.fine)

rule_other : (st : State) (h : Head) → Other (add_rule st h)
rule_other st h =
    cond_other (is_some (rule_at st.rules h.name)) again
    (cond_other (ltb (length st.rules) 64) (cond_other (is_some (last_of h.lines (codes "command"))) Other.fine lacks) limit)

deep_other : (o : Option ℕ) (st : State) (d : TextsData) (n : List ℕ) → Other (deep_pool o st d n)
deep_other None st d n = lacks
deep_other (Some k) st d n = Other.fine

pool_other : (st : State) (h : Head) → Other (add_pool st h)
pool_other st h =
    cond_other (is_some (pool_at st.pools h.name)) again
    (cond_other (ltb (length st.pools) 16)
    (then_other _ (each_other take_depth depth_other (record { text = []; texts = st.texts }) h.lines) (λ r. deep_other (depth_of r.text) st r.texts h.name))
    limit)

paths_other : (e : ℕ) (s : Walk) (w : Work) → Other (take_paths e s w)
paths_other e s w =
    then_other _ (each_other (take_output e) (output_other e) s w.outs.explicit) (λ o1.
    then_other _ (each_other (take_output e) (output_other e) o1 w.outs.implicit) (λ o2.
    then_other _ (each_other (take_input 64) (input_other 64) (afresh o2) w.ins.explicit) (λ i1.
    then_other _ (each_other (take_input 64) (input_other 64) i1 w.ins.implicit) (λ i2.
    then_other _ (each_other (take_input 64) (input_other 64) (afresh i2) w.ins.order_only) (λ o3.
    then_other _ (each_other (take_input 16) (input_other 16) (afresh o3) w.ins.validations) (λ v. Other.fine))))))

edge_other : (o : Option ℕ) (st : State) (place : ℕ) (w : Work) → Other (add_edge o st place w)
edge_other None st place w = unknown
edge_other (Some k) st place w =
    cond_other (ltb (length st.edges) 128)
    (then_other _ (each_other set_block block_other st.texts w.lines) (λ d. then_other _ (paths_other (length st.edges) (record { texts = d; files = st.files; found = [] }) w) (λ l. Other.fine)))
    limit

said_other : (st : State) (place : ℕ) (x : Said) → Other (add_said st place x)
said_other st place (variable e) = then_other _ (file_other st.texts e) (λ d. Other.fine)
said_other st place (rule h) = rule_other st h
said_other st place (pool h) = pool_other st h
said_other st place (build w) = edge_other (rule_at st.rules w.rule) st place w

pub add_other : (st : State) (x : Stated) → Other (add st x)
unfolding add
add_other st x = said_other st x.place x.says

value_by_other : (b r : Option (List ℕ)) (st : State) (e : ℕ) → Other (value_by b r st e)
value_by_other (Some t) r st e = Other.fine
value_by_other None None st e = Other.fine
value_by_other None (Some v) st e =
    sized_other 0 1024 (expand (look (rule_scope st.texts e (in_text st.files (edge_at st.edges e)) (out_text st.files (edge_at st.edges e)))) v)

value_other : (st : State) (e : ℕ) (n : List ℕ) → Other (value_for st e n)
value_other st e n = value_by_other (find (block_of st e) n) (last_of (rule_of st e).lines n) st e

found_other : (o : Option ℕ) → Other (pool_found o)
found_other None = unknown
found_other (Some k) = Other.fine

named_other : (ps : List PoolData) (n : List ℕ) → Other (pool_named ps n)
named_other ps [] = Other.fine
named_other ps (b ∷ n) = found_other (pool_at ps (b ∷ n))

pub valued_other : (st : State) (e : ℕ) → Other (valued st e)
valued_other st e =
    then_other _ (value_other st e (codes "command")) (λ c.
    then_other _ (value_other st e (codes "description")) (λ d.
    then_other _ (value_other st e (codes "pool")) (λ p.
    then_other _ (value_other st e (codes "restat")) (λ r. then_other _ (named_other st.pools p) (λ k. Other.fine)))))

ask_other : (d : TextsData) (q : List ℕ) → Other (ask d q)
ask_other d q = then_other _ (sized_other 0 1024 q) (λ t. then_other _ (stored_other d.store t) (λ s. Other.fine))

pub asked_other : (st : State) (e : ℕ) → Other (asked st e)
asked_other st e = then_other _ (ask_other st.texts (question_for st.files (edge_at st.edges e))) (λ d. Other.fine)
