-- The paths of a build statement: each list keeps its limit and names files that are there, and the new edge makes its outputs.
use Rattle.std.proofs.Common.{◌≡◌, ℕ, suc, ◌+◌, ◌<◌, ◌≤◌, cond, eqb, ltb, List, [], ◌∷◌, ◌++◌, length, Some, None, Option, sym, refl, ap, ◌∙◌, subst, ⊎_elim, arith}
use Rattle.std.specs.List.{AllByRecursion}
use Rattle.std.proofs.lemmas.List.{length_push, get_or_push, get_or_append_left}
use Rattle.std.proofs.lemmas.Bool.{cond_both, cond-true, cond-false, cases_lt, eq-eqb, ne_eqb, ltb-true}
use Rattle.store.specs.declared.wrong.Wrong.TheVariants.{Limit}
use Rattle.store.specs.Try.{got, wrong}
use Rattle.expansion.specs.Model.{read_path}
use Rattle.graph.specs.Data.{FileData, EdgeData, maker_at, edge_at}
use Rattle.graph.specs.Lawful.{Below}
use Rattle.text.specs.Text.{Work}
use Rattle.text.proofs.Bytes.{AllWork}
use Rattle.lists.specs.Each.{each_try}
use Rattle.lists.specs.Files.{mention, claim_from, claim, listed, Walk, take_input, take_output, afresh}
use Rattle.lists.specs.Paths.{Lists, take_paths}
use Rattle.reader.proofs.GoodTexts.{GotAll, then_got, got_more, each_got, Clean, FineTexts, FineRead, read_path_fine}
use Rattle.reader.proofs.GoodFiles.{GoodFiles, GoodMention, mention_good, Makers, makers_same, claimed_files, claimed_makers, claimed_long}

pub below_more : (n m : ℕ) (xs : List ℕ) → n ≤ m → Below n xs → Below m xs
below_more n m xs l h i k = let g = h i k in omega arith

below_push : (n : ℕ) (xs : List ℕ) (x : ℕ) → Below n xs → x < n → Below n (xs ++ x ∷ [])
below_push n xs x h l i k = ⊎_elim
    (λ lt. let g = h i lt in subst (λ y. y < n) (sym (get_or_append_left xs (x ∷ []) 0 i lt)) g)
    (λ le. subst (λ y. y < n) (sym (get_or_push xs x 0 i (omega (arith, length_push xs x)))) l)
    (cases_lt i (length xs))

-- a list that had room for one number more
record Longer (k : ℕ) (ns : List ℕ) (n : ℕ) (ms : List ℕ) : Type 0 where
  is : ms ≡ ns ++ n ∷ []
  room : length ns < k

listed_longer : (k : ℕ) (ns : List ℕ) (n : ℕ) → GotAll (Longer k ns n) (listed k ns n)
listed_longer k ns n =
    cond_both (ltb (length ns) k) (got (ns ++ n ∷ [])) (wrong Limit) (GotAll (Longer k ns n))
    (λ e. record { is = refl; room = ltb-true (length ns) k e }) (λ _. tt)

-- what the paths of a list have come to: c of at most k, and at least n files; O has the outputs of each edge
pub record Going (O : ℕ → List ℕ) (n k c : ℕ) (w : Walk) : Type 0 where
  pub texts : FineTexts w.texts
  pub files : GoodFiles w.files
  pub grown : n ≤ length w.files
  pub makers : Makers (maker_at w.files) O
  pub count : length w.found ≡ c
  pub few : length w.found ≤ k
  pub known : Below (length w.files) w.found

take_input_good : (O : ℕ → List ℕ) (n k c : ℕ) (w : Walk) (v : List ℕ) → Going O n k c w → Clean v → GotAll (Going O n k (suc c)) (take_input k w v)
take_input_good O n k c w v h clean =
    then_got (FineRead 1 128) _ (read_path w.texts v) _ (read_path_fine w.texts v h.texts clean) (λ r hr.
    then_got (GoodMention w.files) _ (mention w.files r.text) _ (mention_good w.files r.text h.files hr.text) (λ m hm.
    then_got (Longer k w.found m.file) _ (listed k w.found m.file) _ (listed_longer k w.found m.file) (λ ns hl.
    let long = ap length hl.is ∙ length_push w.found m.file in
    let grown = hm.grown in
    record {
      texts = hr.texts;
      files = hm.files;
      grown = omega arith;
      makers = makers_same (maker_at w.files) (maker_at m.files) O hm.makers h.makers;
      count = omega (arith, h.count);
      few = omega (arith, hl.room);
      known = subst (Below (length m.files)) (sym hl.is) (below_push _ w.found m.file (below_more _ _ w.found grown h.known) hm.within);
    })))

-- the outputs of each edge, while those of the next one are read
abbrev pub open_outputs : List EdgeData → List ℕ → ℕ → List ℕ
open_outputs es found e = cond (eqb e (length es)) found (edge_at es e).outputs

pub open_here : (es : List EdgeData) (found : List ℕ) (e : ℕ) → e ≡ length es → open_outputs es found e ≡ found
open_here es found e s = cond-true (eqb e (length es)) found (edge_at es e).outputs (eq-eqb e (length es) s)

pub open_other : (es : List EdgeData) (found : List ℕ) (e : ℕ) → (e ≡ length es → ⊥) → open_outputs es found e ≡ (edge_at es e).outputs
open_other es found e s = cond-false (eqb e (length es)) found (edge_at es e).outputs (ne_eqb e (length es) s)

-- the edge e has claimed the file i
record Claimed (O : ℕ → List ℕ) (e i : ℕ) (fs gs : List FileData) : Type 0 where
  files : GoodFiles gs
  long : length gs ≡ length fs
  makers : (U : ℕ → List ℕ) → U e ≡ O e ++ i ∷ [] → ((d : ℕ) → (d ≡ e → ⊥) → U d ≡ O d) → Makers (maker_at gs) U

claim_from_good : (O : ℕ → List ℕ) (e i : ℕ) (fs : List FileData) (o : Option ℕ) → maker_at fs i ≡ o → i < length fs → GoodFiles fs → Makers (maker_at fs) O → GotAll (Claimed O e i fs) (claim_from o fs i e)
claim_from_good O e i fs (Some d) s l h m = tt
claim_from_good O e i fs None s l h m = record {
  files = claimed_files fs i e l s h;
  long = claimed_long fs i e l s;
  makers = λ U here other. claimed_makers fs i e l s O U here other m;
}

-- what the outputs of the next edge have come to
abbrev pub Claiming : List EdgeData → ℕ → ℕ → Walk → Type 0
Claiming es n c w = Going (open_outputs es w.found) n 8 c w

take_output_good : (es : List EdgeData) (n c : ℕ) (w : Walk) (v : List ℕ) → Claiming es n c w → Clean v → GotAll (Claiming es n (suc c)) (take_output (length es) w v)
take_output_good es n c w v h clean =
    let O = open_outputs es w.found in
    then_got (FineRead 1 128) _ (read_path w.texts v) _ (read_path_fine w.texts v h.texts clean) (λ r hr.
    then_got (GoodMention w.files) _ (mention w.files r.text) _ (mention_good w.files r.text h.files hr.text) (λ m hm.
    then_got (Claimed O (length es) m.file m.files) _ (claim m.files m.file (length es)) _
    (claim_from_good O (length es) m.file m.files (maker_at m.files m.file) refl hm.within hm.files (makers_same (maker_at w.files) (maker_at m.files) O hm.makers h.makers)) (λ fs hc.
    then_got (Longer 8 w.found m.file) _ (listed 8 w.found m.file) _ (listed_longer 8 w.found m.file) (λ ns hl.
    let long = ap length hl.is ∙ length_push w.found m.file in
    let same = hc.long in
    let grown : length w.files ≤ length fs = omega (arith, hm.grown) in
    let within : m.file < length fs = omega (arith, hm.within) in
    record {
      texts = hr.texts;
      files = hc.files;
      grown = omega (arith, h.grown);
      makers = hc.makers (open_outputs es ns)
          (open_here es ns (length es) refl ∙ hl.is ∙ ap (λ xs. xs ++ m.file ∷ []) (sym (open_here es w.found (length es) refl)))
          (λ d ne. open_other es ns d ne ∙ sym (open_other es w.found d ne));
      count = omega (arith, h.count);
      few = omega (arith, hl.room);
      known = subst (Below (length fs)) (sym hl.is) (below_push (length fs) w.found m.file (below_more (length w.files) (length fs) w.found grown h.known) within);
    }))))

-- the lists of an edge, in a graph of n files
pub record GoodLists (n : ℕ) (outs : List ℕ) (explicit_outs : ℕ) (reads : List ℕ) (explicit_reads : ℕ) (order checks : List ℕ) : Type 0 where
  pub some : 1 ≤ length outs
  pub few : length outs ≤ 8
  pub explicit : 1 ≤ explicit_outs
  pub all : explicit_outs ≤ length outs
  pub few_reads : length reads ≤ 64
  pub all_reads : explicit_reads ≤ length reads
  pub few_order : length order ≤ 64
  pub few_checks : length checks ≤ 16
  pub outs_known : Below n outs
  pub reads_known : Below n reads
  pub order_known : Below n order
  pub checks_known : Below n checks

-- what the paths of the build statement w come to, as those of the edge after es
pub record GoodPaths (es : List EdgeData) (n : ℕ) (w : Work) (l : Lists) : Type 0 where
  pub texts : FineTexts l.after.texts
  pub files : GoodFiles l.after.files
  pub grown : n ≤ length l.after.files
  pub makers : Makers (maker_at l.after.files) (open_outputs es l.outputs)
  pub lists : GoodLists (length l.after.files) l.outputs (length w.outs.explicit) l.reads (length w.ins.explicit) l.order_only l.after.found

-- the next list begins
begins : (O : ℕ → List ℕ) (n k c j : ℕ) (w : Walk) → Going O n k c w → Going O (length w.files) j 0 (afresh w)
begins O n k c j w h = record {
  texts = h.texts;
  files = h.files;
  grown = omega arith;
  makers = h.makers;
  count = refl;
  few = omega arith;
  known = λ i l. absurd (omega arith);
}

-- a list that is read to its end
record Read (P : ℕ → Walk → Type 0) (m c : ℕ) (w : Walk) : Type 0 where
  all : ℕ
  sum : all ≡ m + c
  at : P all w

outputs_read : (es : List EdgeData) (n c : ℕ) (w : Walk) (ps : List (List ℕ)) → Claiming es n c w → AllByRecursion Clean ps → GotAll (Read (Claiming es n) (length ps) c) (each_try (take_output (length es)) w ps)
outputs_read es n c w ps h k =
    got_more _ _ (each_try (take_output (length es)) w ps) (each_got (Claiming es n) Clean (take_output (length es)) (take_output_good es n) c w ps h k)
    (λ a g. record { all = g.0; sum = g.1; at = g.2 })

inputs_read : (O : ℕ → List ℕ) (n k c : ℕ) (w : Walk) (ps : List (List ℕ)) → Going O n k c w → AllByRecursion Clean ps → GotAll (Read (Going O n k) (length ps) c) (each_try (take_input k) w ps)
inputs_read O n k c w ps h g =
    got_more _ _ (each_try (take_input k) w ps) (each_got (Going O n k) Clean (take_input k) (take_input_good O n k) c w ps h g)
    (λ a u. record { all = u.0; sum = u.1; at = u.2 })

pub take_paths_good : (es : List EdgeData) (n : ℕ) (s : Walk) (w : Work) → Claiming es n 0 s → AllWork (λ b. b ≡ 0 → ⊥) w → 1 ≤ length w.outs.explicit → GotAll (GoodPaths es n w) (take_paths (length es) s w)
take_paths_good es n s w h clean some =
    then_got (Read (Claiming es n) (length w.outs.explicit) 0) _ (each_try (take_output (length es)) s w.outs.explicit) _ (outputs_read es n 0 s w.outs.explicit h clean.outs.explicit) (λ o1 h1.
    then_got (Read (Claiming es n) (length w.outs.implicit) h1.all) _ (each_try (take_output (length es)) o1 w.outs.implicit) _ (outputs_read es n h1.all o1 w.outs.implicit h1.at clean.outs.implicit) (λ o2 h2.
    let O = open_outputs es o2.found in
    then_got (Read (Going O (length o2.files) 64) (length w.ins.explicit) 0) _ (each_try (take_input 64) (afresh o2) w.ins.explicit) _ (inputs_read O (length o2.files) 64 0 (afresh o2) w.ins.explicit (begins O n 8 h2.all 64 o2 h2.at) clean.ins.explicit) (λ i1 h3.
    then_got (Read (Going O (length o2.files) 64) (length w.ins.implicit) h3.all) _ (each_try (take_input 64) i1 w.ins.implicit) _ (inputs_read O (length o2.files) 64 h3.all i1 w.ins.implicit h3.at clean.ins.implicit) (λ i2 h4.
    then_got (Read (Going O (length i2.files) 64) (length w.ins.order_only) 0) _ (each_try (take_input 64) (afresh i2) w.ins.order_only) _ (inputs_read O (length i2.files) 64 0 (afresh i2) w.ins.order_only (begins O _ 64 h4.all 64 i2 h4.at) clean.ins.order_only) (λ o3 h5.
    then_got (Read (Going O (length o3.files) 16) (length w.ins.validations) 0) _ (each_try (take_input 16) (afresh o3) w.ins.validations) _ (inputs_read O (length o3.files) 16 0 (afresh o3) w.ins.validations (begins O _ 64 h5.all 16 o3 h5.at) clean.ins.validations) (λ v h6.
    let g1 = h2.at.grown in
    let g2 = h4.at.grown in
    let g3 = h5.at.grown in
    let g4 = h6.at.grown in
    let s1 = h1.sum in
    let s2 = h2.sum in
    let c2 = h2.at.count in
    let s3 = h3.sum in
    let s4 = h4.sum in
    let c4 = h4.at.count in
    record {
      texts = h6.at.texts;
      files = h6.at.files;
      grown = omega arith;
      makers = h6.at.makers;
      lists = record {
        some = omega arith;
        few = h2.at.few;
        explicit = some;
        all = omega arith;
        few_reads = h4.at.few;
        all_reads = omega arith;
        few_order = h5.at.few;
        few_checks = h6.at.few;
        outs_known = below_more (length o2.files) (length v.files) o2.found (omega arith) h2.at.known;
        reads_known = below_more (length i2.files) (length v.files) i2.found (omega arith) h4.at.known;
        order_known = below_more (length o3.files) (length v.files) o3.found (omega arith) h5.at.known;
        checks_known = h6.at.known;
      };
    }))))))
