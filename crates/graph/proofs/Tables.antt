-- The table of what reaches what, from the edges that each edge needs, one more edge on the way at a time.
use Rattle.std.proofs.Common.{◌≡◌, ℕ, ◌+◌, ◌<◌, ◌≤◌, Bool, ◌&&◌, ◌||◌, List, [], length, set, sym, ap, ◌∙◌, subst, ⊎_elim, add-one, arith}
use Rattle.std.proofs.lemmas.List.{length-set, get_or-set_same, get_or-set_other}
use Rattle.std.proofs.lemmas.Bool.{cases_lt}
use Rattle.graph.specs.Circle.{via}
use Rattle.graph.specs.Rows.{bit, row_at, Row, Table, Passed, passed}

-- the first rows of a table
pub record Filled (n : ℕ) (p : ℕ → ℕ → Bool) (rows : List (List Bool)) (i : ℕ) : Type 0 where
  pub tall : length rows ≡ i
  pub row : (a : ℕ) → a < i → Row n (p a) (row_at rows a)

module _ (n : ℕ) (p : ℕ → ℕ → Bool) where
  pub filled_all : (rows : List (List Bool)) (i : ℕ) → Filled n p rows i → n ≡ i → Table n p rows
  filled_all rows i h e = record {
    square = record { tall = h.tall ∙ sym e; wide = λ a lt. (h.row a (omega arith)).wide };
    bits = λ a b lt. (h.row a (omega arith)).bits b;
  }

-- the rows below i are passed, the others as they were
pub record Passing (n k : ℕ) (other : List Bool) (before rows : List (List Bool)) (i : ℕ) : Type 0 where
  pub tall : length rows ≡ length before
  pub done : (a : ℕ) → a < i → Row n (passed k other (row_at before a)) (row_at rows a)
  pub left : (a : ℕ) → i ≤ a → row_at rows a ≡ row_at before a

module _ (n k : ℕ) (other : List Bool) (before : List (List Bool)) where
  pub passing_more : (rows : List (List Bool)) (i : ℕ) (r : List Bool) → Passing n k other before rows i → i < length rows → Row n (passed k other (row_at rows i)) r → Passing n k other before (set rows i r) (i + 1)
  passing_more rows i r h l new = record {
    tall = length-set rows i r ∙ h.tall;
    done = λ a lt. ⊎_elim
        (λ low. subst (Row n (passed k other (row_at before a))) (sym (get_or-set_other rows i a r [] (λ e. omega arith))) (h.done a low))
        (λ high.
        let same : i ≡ a = omega arith in
        subst (λ x. Row n (passed k other (row_at before x)) (row_at (set rows i r) x)) same
        (subst (λ y. Row n (passed k other (row_at before i)) y) (sym (get_or-set_same rows i r [] l)) (subst (λ y. Row n (passed k other y) r) (h.left i (omega arith)) new)))
        (cases_lt a i);
    left = λ a le. get_or-set_other rows i a r [] (λ e. omega arith) ∙ h.left a (omega arith);
  }

-- the edge k may stand on the way too: its own row and column stay as they are
pub table_more : (n : ℕ) (R : ℕ → ℕ → Bool) (k : ℕ) (before rows : List (List Bool)) → k < n → Table n (via R k) before → Passed n k (row_at before k) before rows → Table n (via R (k + 1)) rows
table_more n R k before rows l t p =
    subst (λ x. Table n (via R x) rows) (sym (add-one k)) (record {
      square = record { tall = p.tall ∙ t.square.tall; wide = λ a lt. (p.row a (omega (arith, t.square.tall))).wide };
      bits = λ a b la lb.
          (p.row a (omega (arith, t.square.tall))).bits b lb
          ∙ ap (λ x. x || (bit (row_at before a) k && bit (row_at before k) b)) (t.bits a b la lb)
          ∙ ap (λ x. via R k a b || (x && bit (row_at before k) b)) (t.bits a k la l)
          ∙ ap (λ x. via R k a b || (via R k a k && x)) (t.bits k b l lb);
    })
