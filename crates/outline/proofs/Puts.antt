-- One put after another.
use Rattle.std.proofs.Common.{◌≡◌, ℕ, ◌+◌, ◌<◌, ◌≤◌, List, [], ◌∷◌, ◌++◌, map, length, get_or, drop, Ok, Err, vec_items, Result, Vec, sym, refl, subst, ap, ◌∙◌, append_assoc, append-nil, Bor}
use Rattle.std.proofs.lemmas.List.{drop_more, drop_all}
use Rattle.std.specs.declared.alloc.AllocError.{AllocError}
use Rattle.std.specs.declared.alloc.Global.{Global}
use Rattle.parts.specs.declared.kinds.Binding.{Binding}
use Rattle.parts.specs.Parts.{entry_of}
use Rattle.text.specs.declared.kinds.Statement.{Statement}
use Rattle.text.specs.Text.{stated_of}
use Rattle.outline.specs.Outline.{Puts, marked, names, line_of, lines_shown}

pub then_puts : (r : Result (Unit {0}) AllocError) (x y z : Vec ℕ Global) (a b : List ℕ) → vec_items y ≡ vec_items x ++ a → Puts r y z b → Puts r x z (a ++ b)
then_puts (Ok u) x y z a b h k = k ∙ (ap (λ w. w ++ b) h ∙ append_assoc (vec_items x) a b)
then_puts (Err e) x y z a b h k = tt

-- a turn of a loop that puts w: what is put so far, items, and what is left, f1, come to z
pub turn_puts : (items more w f1 f2 z : List ℕ) → more ≡ items ++ w → f1 ≡ w ++ f2 → items ++ f1 ≡ z → more ++ f2 ≡ z
turn_puts items more w f1 f2 z h k e = ap (λ x. x ++ f2) h ∙ (append_assoc items w f2 ∙ (ap (λ x. items ++ x) (sym k) ∙ e))

pub all_put : (items f z : List ℕ) → f ≡ [] → items ++ f ≡ z → items ≡ z
all_put items f z h e = sym (append-nil items) ∙ (ap (λ x. items ++ x) (sym h) ∙ e)

module _ {X : Type 0} (xs : List X) (i : ℕ) (x : X) where
  pub drop_item : i < length xs → x ≡ get_or xs i x → drop i xs ≡ x ∷ drop (i + 1) xs
  drop_item h e = drop_more xs i x h ∙ ap (λ y. y ∷ drop (i + 1) xs) (sym e)

pub lines_more : (xs : List Statement) (i : ℕ) (x : Statement) → i < length xs → x ≡ get_or xs i x → lines_shown (map stated_of (drop i xs)) ≡ line_of (stated_of x) ++ lines_shown (map stated_of (drop (i + 1) xs))
lines_more xs i x h e = ap (λ y. lines_shown (map stated_of y)) (drop_item xs i x h e)

pub lines_none : (xs : List Statement) (i : ℕ) → length xs ≤ i → lines_shown (map stated_of (drop i xs)) ≡ []
lines_none xs i h = rw (drop_all i xs h)

names_of : (bs : List Binding) → map (λ x. x.now) (map (λ b. b.name) bs) ≡ names (map entry_of bs)
names_of [] = refl
names_of (b ∷ bs) = ap (λ ns. b.name.now ∷ ns) (names_of bs)

pub block_puts : (r : Result (Unit {0}) AllocError) (x z : Vec ℕ Global) (m : List ℕ) (bs : List Binding) (ns : List (Bor (List ℕ))) → ns ≡ map (λ b. b.name) bs → Puts r x z (marked m (map (λ x. x.now) ns)) → Puts r x z (marked m (names (map entry_of bs)))
block_puts r x z m bs ns e h = subst (λ y. Puts r x z (marked m y)) (ap (map (λ x. x.now)) e ∙ names_of bs) h
