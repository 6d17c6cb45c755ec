-- Texts without byte 0: expansion, the variables and what is read of them keep free of it.
use Rattle.std.proofs.Common.{◌≡◌, ℕ, zero, suc, ◌+◌, ◌≤◌, cond, ◌&&◌, ◌||◌, eqb, ltb, leb, List, [], ◌∷◌, ◌++◌, length, get_or, take, is_some, Some, None, Option, unwrap_or, arith}
use Rattle.std.specs.List.{AllByRecursion}
use Rattle.std.specs.Str.{bytes_eq}
use Rattle.std.proofs.ByRecursion.{All-append, All-push}
use Rattle.std.proofs.lemmas.Bool.{cond_both, and_parts, leb-true}
use Rattle.byteclass.specs.Class.{name_byte, simple_byte}
use Rattle.cursor.proofs.Bytes.{AllSome}
use Rattle.parts.specs.Parts.{Entry}
use Rattle.store.specs.declared.wrong.Wrong.TheVariants.{Limit}
use Rattle.store.specs.Try.{Try, got, wrong, and_try}
use Rattle.values.specs.Expand.{front, find, or_else, Scope, look, Piece, piece, expand_from, expand}
use Rattle.values.specs.Kept.{sized, received, keep, bind, bound}
use Rattle.expansion.specs.Model.{TextsData, no_texts, file_scope, block_scope, set_file, set_block, Read, read_depth, read_path, close_block}
use Rattle.lists.specs.Each.{each_try}
use Rattle.names.specs.Named.{last_from, last_of}

-- what is got, if anything, has P
abbrev pub GotAll : {A : Type 0} → (A → Type 0) → Try A → Type 0
GotAll P (got a) = P a
GotAll P (wrong w) = Unit {0}

pub then_got : {A B : Type 0} (P : A → Type 0) (Q : B → Type 0) (o : Try A) (f : A → Try B) → GotAll P o → ((a : A) → P a → GotAll Q (f a)) → GotAll Q (and_try o f)
then_got P Q (got a) f h k = k a h
then_got P Q (wrong w) f h k = tt

pub got_more : {A : Type 0} (P Q : A → Type 0) (o : Try A) → GotAll P o → ((a : A) → P a → Q a) → GotAll Q o
got_more P Q (got a) h k = k a h
got_more P Q (wrong w) h k = tt

-- a step for each element, by an invariant that counts them
pub each_got : {S A : Type 0} (P : ℕ → S → Type 0) (Q : A → Type 0) (f : S → A → Try S) → ((n : ℕ) (s : S) (a : A) → P n s → Q a → GotAll (P (suc n)) (f s a)) → (n : ℕ) (s : S) (xs : List A) → P n s → AllByRecursion Q xs → GotAll (λ t. (m : ℕ) × (m ≡ length xs + n) × P m t) (each_try f s xs)
each_got P Q f step n s [] h k = (n, omega arith, h)
each_got P Q f step n s (x ∷ xs) h k =
    then_got (P (suc n)) _ (f s x) (λ t. each_try f t xs) (step n s x h k.0) (λ t g.
    got_more _ _ (each_try f t xs) (each_got P Q f step (suc n) t xs g k.1) (λ u c. (c.0, omega arith, c.2)))

-- no byte of a text is 0
abbrev pub Clean : List ℕ → Type 0
Clean = AllByRecursion (λ b. b ≡ 0 → ⊥)

-- the value of a variable has no byte 0
abbrev pub Fine : Entry → Type 0
Fine e = Clean e.value

-- the values of all variables in a scope have no byte 0
pub record FineScope (c : Scope) : Type 0 where
  pub special : AllByRecursion Fine c.special
  pub block : AllByRecursion Fine c.block
  pub file : AllByRecursion Fine c.file

pub find_fine : (es : List Entry) (n : List ℕ) → AllByRecursion Fine es → AllSome Clean (find es n)
find_fine [] n h = tt
find_fine (e ∷ es) n h =
    cond_both (bytes_eq e.name n) (Some e.value) (find es n) (AllSome Clean) (λ _. h.0) (λ _. find_fine es n h.1)

or_else_clean : (o p : Option (List ℕ)) → AllSome Clean o → AllSome Clean p → AllSome Clean (or_else o p)
or_else_clean None p h k = k
or_else_clean (Some a) p h k = h

value_or_clean : (o : Option (List ℕ)) → AllSome Clean o → Clean (unwrap_or o [])
value_or_clean None h = tt
value_or_clean (Some a) h = h

pub look_clean : (c : Scope) (n : List ℕ) → FineScope c → Clean (look c n)
look_clean c n h =
    value_or_clean (or_else (find c.special n) (or_else (find c.block n) (find c.file n)))
    (or_else_clean (find c.special n) _ (find_fine c.special n h.special)
    (or_else_clean (find c.block n) _ (find_fine c.block n h.block) (find_fine c.file n h.file)))

module _ (f : List ℕ → List ℕ) (clean : (n : List ℕ) → Clean (f n)) where
  piece_clean : (s : List ℕ) → Clean s → Clean (piece f s).text
  piece_clean [] h = tt
  piece_clean (c ∷ s) h =
      cond_both (eqb c 10) _ _ (λ (p : Piece). Clean p.text) (λ _. tt) (λ _.
      cond_both (eqb c 32 || (eqb c 58 || eqb c 36)) _ _ (λ (p : Piece). Clean p.text) (λ _. (h.0, tt)) (λ _.
      cond_both (eqb c 123) _ _ (λ (p : Piece). Clean p.text) (λ _. clean (take (front name_byte s) s)) (λ _. clean (take (front simple_byte (c ∷ s)) (c ∷ s)))))

  expand_from_clean : (k : ℕ) (s : List ℕ) → Clean s → Clean (expand_from f k s)
  expand_from_clean k [] h = tt
  expand_from_clean (suc k) (b ∷ s) h = expand_from_clean k s h.1
  expand_from_clean zero (b ∷ s) h =
      cond_both (eqb b 36) ((piece f s).text ++ expand_from f (piece f s).taken s) (b ∷ expand_from f zero s) Clean
      (λ _. All-append _ (piece f s).text (expand_from f (piece f s).taken s) (piece_clean s h.1) (expand_from_clean (piece f s).taken s h.1))
      (λ _. (h.0, expand_from_clean zero s h.1))

  pub expand_clean : (s : List ℕ) → Clean s → Clean (expand f s)
  unfolding expand
  expand_clean s h = expand_from_clean zero s h

-- a text of low to high bytes, none of which is 0
pub record CleanText (low high : ℕ) (t : List ℕ) : Type 0 where
  pub some : low ≤ length t
  pub short : length t ≤ high
  pub clean : Clean t

pub sized_clean : (low high : ℕ) (t : List ℕ) → Clean t → GotAll (CleanText low high) (sized low high t)
sized_clean low high t h =
    cond_both (leb low (length t) && leb (length t) high) (got t) (wrong Limit) (GotAll (CleanText low high))
    (λ e.
    let p = and_parts (leb low (length t)) (leb (length t) high) e in
    record { some = leb-true low (length t) p.0; short = leb-true (length t) high p.1; clean = h })
    (λ _. tt)

pub keep_clean : (low high : ℕ) (c : Scope) (s v : List ℕ) → FineScope c → Clean v → GotAll (λ k. CleanText low high k.text) (keep low high c s v)
keep_clean low high c s v h k =
    then_got (CleanText low high) _ (sized low high (expand (look c) v)) _ (sized_clean low high _ (expand_clean (look c) (λ n. look_clean c n h) v k)) (λ t g.
    then_got (λ _. Unit {0}) _ (received s v t) _ (got_any (received s v t)) (λ u _. g))
  where
    got_any : {A : Type 0} (o : Try A) → GotAll (λ _. Unit {0}) o
    got_any (got a) = tt
    got_any (wrong w) = tt

bind_fine : (es : List Entry) (e : Entry) → AllByRecursion Fine es → Fine e → AllByRecursion Fine (bind es e)
bind_fine [] e h k = (k, tt)
bind_fine (d ∷ ds) e h k =
    cond_both (bytes_eq d.name e.name) (e ∷ ds) (d ∷ bind ds e) (AllByRecursion Fine) (λ _. (k, h.1)) (λ _. (h.0, bind_fine ds e h.1 k))

bound_fine : (n : ℕ) (es : List Entry) (e : Entry) → AllByRecursion Fine es → Fine e → GotAll (AllByRecursion Fine) (bound n es e)
bound_fine n es e h k =
    cond_both (is_some (find es e.name)) (got (bind es e)) (cond (ltb (length es) n) (got (bind es e)) (wrong Limit)) (GotAll (AllByRecursion Fine))
    (λ _. bind_fine es e h k) (λ _.
    cond_both (ltb (length es) n) (got (bind es e)) (wrong Limit) (GotAll (AllByRecursion Fine)) (λ _. bind_fine es e h k) (λ _. tt))

-- the values of all variables so far have no byte 0
pub record FineTexts (d : TextsData) : Type 0 where
  pub file : AllByRecursion Fine d.file
  pub block : AllByRecursion Fine d.block
  pub blocks : AllByRecursion (AllByRecursion Fine) d.blocks

pub no_texts_fine : FineTexts no_texts
no_texts_fine = record { file = tt; block = tt; blocks = tt }

file_scope_lem : (d : TextsData) → FineTexts d → FineScope (file_scope d)
file_scope_lem d h = record { special = tt; block = tt; file = h.file }

pub set_file_fine : (d : TextsData) (e : Entry) → FineTexts d → Fine e → GotAll FineTexts (set_file d e)
set_file_fine d e h k =
    then_got (λ k. CleanText 0 1024 k.text) FineTexts (keep 0 1024 (file_scope d) d.store e.value) _ (keep_clean 0 1024 (file_scope d) d.store e.value (file_scope_lem d h) k) (λ t g.
    then_got (AllByRecursion Fine) FineTexts (bound 128 d.file (record { name = e.name; value = t.text })) _ (bound_fine 128 d.file (record { name = e.name; value = t.text }) h.file g.clean) (λ vs u.
    record { file = u; block = h.block; blocks = h.blocks }))

pub set_block_fine : (d : TextsData) (e : Entry) → FineTexts d → Fine e → GotAll FineTexts (set_block d e)
set_block_fine d e h k =
    then_got (λ k. CleanText 0 1024 k.text) FineTexts (keep 0 1024 (file_scope d) d.store e.value) _ (keep_clean 0 1024 (file_scope d) d.store e.value (file_scope_lem d h) k) (λ t g.
    then_got (AllByRecursion Fine) FineTexts (bound 16 d.block (record { name = e.name; value = t.text })) _ (bound_fine 16 d.block (record { name = e.name; value = t.text }) h.block g.clean) (λ vs u.
    record { file = h.file; block = u; blocks = h.blocks }))

-- a text of low to high bytes that was read, and all texts after it
pub record FineRead (low high : ℕ) (r : Read) : Type 0 where
  pub text : CleanText low high r.text
  pub texts : FineTexts r.texts

pub read_depth_fine : (d : TextsData) (v : List ℕ) → FineTexts d → Clean v → GotAll (FineRead 0 1024) (read_depth d v)
read_depth_fine d v h k =
    then_got (λ k. CleanText 0 1024 k.text) (FineRead 0 1024) (keep 0 1024 (file_scope d) d.store v) _ (keep_clean 0 1024 (file_scope d) d.store v (file_scope_lem d h) k) (λ t g.
    record { text = g; texts = record { file = h.file; block = h.block; blocks = h.blocks } })

pub read_path_fine : (d : TextsData) (v : List ℕ) → FineTexts d → Clean v → GotAll (FineRead 1 128) (read_path d v)
read_path_fine d v h k =
    then_got (λ k. CleanText 1 128 k.text) (FineRead 1 128) (keep 1 128 (block_scope d) d.store v) _ (keep_clean 1 128 (block_scope d) d.store v (record { special = tt; block = h.block; file = h.file }) k) (λ t g.
    record { text = g; texts = record { file = h.file; block = h.block; blocks = h.blocks } })

pub close_block_fine : (d : TextsData) → FineTexts d → FineTexts (close_block d)
close_block_fine d h = record { file = h.file; block = tt; blocks = All-push (AllByRecursion Fine) d.blocks d.block h.blocks h.block }

-- what holds of each element and of the default holds of what is found at any place
pub all_or : {X : Type 0} (P : X → Type 0) (xs : List X) (i : ℕ) (d : X) → P d → AllByRecursion P xs → P (get_or xs i d)
all_or P [] i d h k = h
all_or P (x ∷ xs) zero d h k = k.0
all_or P (x ∷ xs) (suc i) d h k = all_or P xs i d h k.1

-- the variables of any block
pub block_fine : (d : TextsData) (e : ℕ) → FineTexts d → AllByRecursion Fine (get_or d.blocks e [])
block_fine d e h = all_or (AllByRecursion Fine) d.blocks e [] tt h.blocks

last_from_clean : (o : Option (List ℕ)) (es : List Entry) (n : List ℕ) → AllSome Clean o → AllByRecursion Fine es → AllSome Clean (last_from o es n)
last_from_clean o [] n h k = h
last_from_clean o (e ∷ es) n h k =
    last_from_clean (cond (bytes_eq e.name n) (Some e.value) o) es n
    (cond_both (bytes_eq e.name n) (Some e.value) o (AllSome Clean) (λ _. k.0) (λ _. h)) k.1

pub last_of_clean : (es : List Entry) (n : List ℕ) → AllByRecursion Fine es → AllSome Clean (last_of es n)
last_of_clean es n h = last_from_clean None es n tt h
