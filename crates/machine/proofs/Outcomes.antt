-- What the hash of a command comes to, and that it gives the outcome that a host means.
use Rattle.std.proofs.Common.{◌≡◌, ℕ, true, false, List, [], ◌∷◌, ◌++◌, map, length, Some, None, Option, sym, refl, ap, ◌∙◌, inl, inr, arith}
use Rattle.std.specs.List.{range_with_len, flat_map}
use Rattle.std.specs.Option.{option_map}
use Rattle.std.proofs.lemmas.List.FromFn.{length-map-range_with_len}
use Rattle.std.proofs.lemmas.Bool.{cases_Bool, cond-true, cond-false}
use Rattle.host.specs.declared.Stamped.{Stamped}
use Rattle.host.specs.State.{Files, at}
use Rattle.host.specs.Calls.{marks, with_mark, outcome_of}
use Rattle.machine.specs.Fnv.{fnv_more, fnv_1a, low_first, fails, mark_of, hashes}
use Rattle.machine.specs.Pendings.{marks_from}
use Rattle.machine.specs.Outcomes.{hash_by, hash_then, hash_from, hash_of}
use Rattle.machine.proofs.Hashes.{fnv_more_append}

-- the hash over the reads is that over their marks, if all are there
over_marks : (h : ℕ) (x : Stamped) (o : Option (List ℕ)) → option_map (λ (ms : List ℕ). fnv_more (fnv_more h (low_first x.mark)) (flat_map low_first ms)) o ≡ option_map (λ (ms : List ℕ). fnv_more h (flat_map low_first ms)) (with_mark (Some x) o)
over_marks h x None = refl
over_marks h x (Some ms) = ap (λ (z : ℕ). Some z) (sym (fnv_more_append h (low_first x.mark) (flat_map low_first ms)))

hash_marks : (fs : Files) (h : ℕ) (rs : List ℕ) → hash_from fs h rs ≡ option_map (λ (ms : List ℕ). fnv_more h (flat_map low_first ms)) (marks fs rs)
hash_marks fs h [] = refl
hash_marks fs h (f ∷ rs) = go (at fs f) (λ k. hash_marks fs k rs) where
  go : (x : Option Stamped) → ((k : ℕ) → hash_from fs k rs ≡ option_map (λ (ms : List ℕ). fnv_more k (flat_map low_first ms)) (marks fs rs)) → hash_then (hash_by h x) (λ k. hash_from fs k rs) ≡ option_map (λ (ms : List ℕ). fnv_more h (flat_map low_first ms)) (with_mark x (marks fs rs))
  go None on = refl
  go (Some x) on = on (fnv_more h (low_first x.mark)) ∙ over_marks h x (marks fs rs)

-- the marks of a hash are the marks of question and reads
map_same : (f g : ℕ → ℕ) → ((j : ℕ) → f j ≡ g j) → (xs : List ℕ) → map f xs ≡ map g xs
map_same f g e [] = refl
map_same f g e (x ∷ xs) = λ i. e x i ∷ map_same f g e xs i

marks_same : (q ms : List ℕ) (n : ℕ) → marks_from n (fnv_more (fnv_1a q) (flat_map low_first ms)) ≡ map (mark_of q ms) (range_with_len 0 n)
marks_same q ms n = map_same _ _ (λ j. sym (fnv_more_append 2166136261 q (flat_map low_first ms ++ (j ∷ [])) ∙ fnv_more_append (fnv_1a q) (flat_map low_first ms) (j ∷ []))) (range_with_len 0 n)

fine : (q : List ℕ) (n : ℕ) (o : Option (List ℕ)) → fails q ≡ false → option_map (marks_from n) (option_map (λ (ms : List ℕ). fnv_more (fnv_1a q) (flat_map low_first ms)) o) ≡ outcome_of hashes q n o
fine q n None h = refl
fine q n (Some ms) h = ap (λ (z : List ℕ). Some z) (marks_same q ms n) ∙ sym (cond-false (fails q) None (Some (map (mark_of q ms) (range_with_len 0 n))) h)

failed : (q : List ℕ) (n : ℕ) (o : Option (List ℕ)) → fails q ≡ true → None ≡ outcome_of hashes q n o
failed q n None h = refl
failed q n (Some ms) h = sym (cond-true (fails q) None (Some (map (mark_of q ms) (range_with_len 0 n))) h)

-- the outcome that a started command is kept with is the one that the host means
pub outcome_kept : (fs : Files) (q rs : List ℕ) (n : ℕ) → option_map (marks_from n) (hash_of fs q rs) ≡ outcome_of hashes q n (marks fs rs)
outcome_kept fs q rs n = elim (cases_Bool (fails q)) [
  | inl a ↦ ap (option_map (marks_from n)) (cond-true (fails q) None (hash_from fs (fnv_1a q) rs) a) ∙ failed q n (marks fs rs) a
  | inr b ↦ ap (option_map (marks_from n)) (cond-false (fails q) None (hash_from fs (fnv_1a q) rs) b ∙ hash_marks fs (fnv_1a q) rs) ∙ fine q n (marks fs rs) b
]

some_list : (xs ys : List ℕ) → ◌≡◌ {A = Option (List ℕ)} (Some xs) (Some ys) → xs ≡ ys
some_list xs ys e = cc

none_list : (ys : List ℕ) → ◌≡◌ {A = Option (List ℕ)} None (Some ys) → ⊥
none_list ys e = let z : ◌≡◌ {A = ℕ} 0 1 = cc in omega arith

-- a question that does not fail has one mark for each output
pub hashes_each : (q rs ms : List ℕ) (n : ℕ) → hashes q rs n ≡ Some ms → length ms ≡ n
hashes_each q rs ms n h = elim (cases_Bool (fails q)) [
  | inl a ↦ absurd (none_list ms (sym (cond-true (fails q) None (Some (map (mark_of q rs) (range_with_len 0 n))) a) ∙ h))
  | inr b ↦ ap length (sym (some_list _ ms (sym (cond-false (fails q) None (Some (map (mark_of q rs) (range_with_len 0 n))) b) ∙ h))) ∙ length-map-range_with_len (mark_of q rs) 0 n
]
