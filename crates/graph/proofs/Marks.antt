-- The bits of the makers of files.
use Rattle.std.proofs.Common.{◌≡◌, ℕ, ◌<◌, Bool, true, false, ◌||◌, List, [], ◌∷◌, ◌++◌, length, replicate, sym, refl, ap, ◌∙◌}
use Rattle.std.proofs.lemmas.List.{get_or-replicate}
use Rattle.graph.specs.Data.{FileData, maker_at}
use Rattle.graph.specs.Circle.{is_maker, makes_one}
use Rattle.graph.specs.Rows.{bit, Row}

or_assoc : (a b c : Bool) → ((a || b) || c) ≡ (a || (b || c))
or_assoc true b c = refl
or_assoc false b c = refl

makes_append : (fs : List FileData) (d : ℕ) (xs ys : List ℕ) → (makes_one fs d xs || makes_one fs d ys) ≡ makes_one fs d (xs ++ ys)
makes_append fs d [] ys = refl
makes_append fs d (x ∷ xs) ys = or_assoc (is_maker d (maker_at fs x)) (makes_one fs d xs) (makes_one fs d ys) ∙ ap (λ b. is_maker d (maker_at fs x) || b) (makes_append fs d xs ys)

-- the bit of a row, once the makers of one list of files and then of another are marked
pub marks_append : (fs : List FileData) (d : ℕ) (xs ys : List ℕ) (b : Bool) → (b || makes_one fs d (xs ++ ys)) ≡ ((b || makes_one fs d xs) || makes_one fs d ys)
marks_append fs d xs ys b = ap (λ x. b || x) (sym (makes_append fs d xs ys)) ∙ sym (or_assoc b (makes_one fs d xs) (makes_one fs d ys))

-- a row of n bits, none of them set, once the makers of some files are marked
pub marked : (fs : List FileData) (xs : List ℕ) (n : ℕ) (s m r : List Bool) → s ≡ replicate n false → r ≡ m → length m ≡ n → ((d : ℕ) → d < n → bit m d ≡ (bit s d || makes_one fs d xs)) → Row n (λ d. makes_one fs d xs) r
marked fs xs n s m r e1 e2 l p = record {
  wide = ap length e2 ∙ l;
  bits = λ d h. ap (λ t. bit t d) e2 ∙ p d h ∙ ap (λ x. x || makes_one fs d xs) (ap (λ t. bit t d) e1 ∙ get_or-replicate n d false false h);
}
