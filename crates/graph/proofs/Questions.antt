-- A question has one reading: the command and the paths can be told from its bytes.
use Rattle.std.proofs.Common.{◌≡◌, ℕ, ◌<◌, ◌≤◌, false, eqb, List, [], ◌∷◌, ◌++◌, map, length, get_or, sym, refl, ap, ◌∙◌, arith}
use Rattle.std.specs.List.{AllByRecursion as All}
use Rattle.std.proofs.ByRecursion.{All-map, All-from_get_or}
use Rattle.std.proofs.lemmas.List.{append_assoc, length-append}
use Rattle.std.proofs.lemmas.Bool.{or_parts, or_from, eqb-false, ne_eqb, cond_both}
use Rattle.graph.specs.Data.{GraphData, path_at, edge_at}
use Rattle.graph.specs.Question.{ended, question_of, command_of, holds}
use Rattle.graph.specs.Lawful.{Lawful}
use Rattle.graph.specs.Graphs.{question_at, read_paths, output_paths, SameAction}

-- a path has a byte, and no byte 0
pub record Plain (p : List ℕ) : Type 0 where
  pub some : 1 ≤ length p
  pub plain : holds 0 p ≡ false

-- two lists of bytes, each up to its first byte 0
pub record Split (c d t u : List ℕ) : Type 0 where
  pub front : c ≡ d
  pub rest : t ≡ u

not_zero : (b : ℕ) (s : List ℕ) → holds 0 (b ∷ s) ≡ false → 0 ≡ b → ⊥
not_zero b s h e = eqb-false 0 b (or_parts (eqb 0 b) (holds 0 s) h).0 e

split : (c d t u : List ℕ) → holds 0 c ≡ false → holds 0 d ≡ false → c ++ 0 ∷ t ≡ d ++ 0 ∷ u → Split c d t u
split [] [] t u p q e = record { front = refl; rest = cc }
split [] (b ∷ d) t u p q e = absurd (not_zero b d q (cc))
split (b ∷ c) [] t u p q e = absurd (not_zero b c p (cc))
split (a ∷ c) (b ∷ d) t u p q e =
    let r = split c d t u (or_parts (eqb 0 a) (holds 0 c) p).1 (or_parts (eqb 0 b) (holds 0 d) q).1 (cc) in
    let f = r.front in
    record { front = cc; rest = r.rest }

-- two lists of paths, each up to the byte 0 where a path would begin
pub record Splits (ps qs : List (List ℕ)) (t u : List ℕ) : Type 0 where
  pub front : ps ≡ qs
  pub rest : t ≡ u

begins : (p r t : List ℕ) → Plain p → 0 ∷ t ≡ p ++ r → ⊥
begins [] r t h e = let s = h.some in omega arith
begins (b ∷ p) r t h e = not_zero b p h.plain (cc)

splits : (ps qs : List (List ℕ)) (t u : List ℕ) → All Plain ps → All Plain qs → ended ps ++ 0 ∷ t ≡ ended qs ++ 0 ∷ u → Splits ps qs t u
splits [] [] t u a b e = record { front = refl; rest = cc }
splits [] (q ∷ qs) t u a b e = absurd (begins q (0 ∷ (ended qs ++ 0 ∷ u)) t b.0 (e ∙ append_assoc q (0 ∷ ended qs) (0 ∷ u)))
splits (p ∷ ps) [] t u a b e = absurd (begins p (0 ∷ (ended ps ++ 0 ∷ t)) u a.0 (sym e ∙ append_assoc p (0 ∷ ended ps) (0 ∷ t)))
splits (p ∷ ps) (q ∷ qs) t u a b e =
    let r = split p q (ended ps ++ 0 ∷ t) (ended qs ++ 0 ∷ u) a.0.plain b.0.plain (sym (append_assoc p (0 ∷ ended ps) (0 ∷ t)) ∙ e ∙ append_assoc q (0 ∷ ended qs) (0 ∷ u)) in
    let s = splits ps qs t u a.1 b.1 r.rest in
    let f = r.front in
    let g = s.front in
    record { front = cc; rest = s.rest }

no_path : (p r : List ℕ) → [] ≡ p ++ 0 ∷ r → ⊥
no_path p r e = omega (arith, ap length e, length-append p (0 ∷ r))

ended_same : (ps qs : List (List ℕ)) → All Plain ps → All Plain qs → ended ps ≡ ended qs → ps ≡ qs
ended_same [] [] a b e = refl
ended_same [] (q ∷ qs) a b e = absurd (no_path q (ended qs) e)
ended_same (p ∷ ps) [] a b e = absurd (no_path p (ended ps) (sym e))
ended_same (p ∷ ps) (q ∷ qs) a b e =
    let r = split p q (ended ps) (ended qs) a.0.plain b.0.plain e in
    let f = r.front in
    let g = ended_same ps qs a.1 b.1 r.rest in
    cc

-- the same command and the same paths
pub record Same (c d : List ℕ) (rs ss os us : List (List ℕ)) : Type 0 where
  pub command : c ≡ d
  pub reads : rs ≡ ss
  pub outputs : os ≡ us

pub question_same : (c d : List ℕ) (rs ss os us : List (List ℕ)) → holds 0 c ≡ false → holds 0 d ≡ false → All Plain rs → All Plain ss → All Plain os → All Plain us → question_of c rs os ≡ question_of d ss us → Same c d rs ss os us
question_same c d rs ss os us p q a1 a2 b1 b2 e =
    let r = split c d (ended rs ++ 0 ∷ ended os) (ended ss ++ 0 ∷ ended us) p q e in
    let s = splits rs ss (ended os) (ended us) a1 a2 r.rest in
    record { command = r.front; reads = s.front; outputs = ended_same os us b1 b2 s.rest }

pub command_plain : (q : List ℕ) → holds 0 (command_of q) ≡ false
command_plain [] = refl
command_plain (b ∷ s) = cond_both (eqb b 0) [] (b ∷ command_of s) (λ x. holds 0 x ≡ false) (λ t. refl)
    (λ f. or_from (eqb 0 b) (holds 0 (command_of s)) (ne_eqb 0 b (λ e. eqb-false b 0 f (sym e))) (command_plain s))

module _ (g : GraphData) (law : Lawful g) where
  plain_path : (f : ℕ) → f < length g.files → Plain (path_at g.files f)
  plain_path f h = record { some = (law.file f h).some; plain = (law.file f h).plain }

  plain_paths : (xs : List ℕ) → ((i : ℕ) → i < length xs → get_or xs i 0 < length g.files) → All Plain (map (path_at g.files) xs)
  plain_paths xs h = All-map Plain (path_at g.files) xs (All-from_get_or (λ f. Plain (path_at g.files f)) xs 0 (λ i l. plain_path (get_or xs i 0) (h i l)))

  pub plain_reads : (e : ℕ) → e < length g.edges → All Plain (read_paths g e)
  plain_reads e l = plain_paths (edge_at g.edges e).reads (law.edge e l).lists.reads_known

  pub plain_outputs : (e : ℕ) → e < length g.edges → All Plain (output_paths g e)
  plain_outputs e l = plain_paths (edge_at g.edges e).outputs (law.edge e l).lists.outputs_known

-- in lawful graphs, edges that ask the same do the same
pub same_action : (g h : GraphData) (e d : ℕ) → Lawful g → Lawful h → e < length g.edges → d < length h.edges → question_at h d ≡ question_at g e → SameAction g e h d
same_action g h e d lg lh a b q =
    let s = question_same (command_of (question_at g e)) (command_of (question_at h d)) (read_paths g e) (read_paths h d) (output_paths g e) (output_paths h d)
    (command_plain (question_at g e)) (command_plain (question_at h d))
    (plain_reads g lg e a) (plain_reads h lh d b) (plain_outputs g lg e a) (plain_outputs h lh d b)
    (sym (lg.edge e a).asks ∙ sym q ∙ (lh.edge d b).asks) in
    record { command = s.command; reads = s.reads; outputs = s.outputs }
