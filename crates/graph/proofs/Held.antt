-- The rows of a table as the code holds them.
use Rattle.std.proofs.Common.{◌≡◌, ℕ, ◌+◌, ◌<◌, Bool, List, [], ◌++◌, map, length, get_or, take, drop, set, vec_items, vec_len, Vec, sym, ap, ◌∙◌, subst, zero-add, arith}
use Rattle.std.proofs.lemmas.List.{length-map, map-set, get_or-map, take_at}
use Rattle.std.proofs.lemmas.List.FromFn.{fill_by_all}
use Rattle.std.specs.declared.alloc.Global.{Global}
use Rattle.graph.specs.Data.{FileData, EdgeData}
use Rattle.graph.specs.Rows.{bit, row_at, set_bits, Row, Square, Table, Passed, passed}
use Rattle.graph.specs.Circle.{reaches, least, count_of, circle_of, rank_of, ranks_of}
use Rattle.graph.proofs.Tables.{Passing, passing_more}
use Rattle.std.specs.List.{position, enumerate_from}
use Rattle.std.proofs.lemmas.List.FromFn.{length-enumerate_from, get_or-enumerate_from}
use mathlib.Core.List.{map-map}
use Rattle.graph.proofs.Counts.{least_same, count_same, position_least, bits_count}

-- what a Vec holds, once a slice of all its elements was written to
pub refill : {X : Type 0} (n : ℕ) (ws xs : List X) → length ws ≡ n → take n (ws ++ drop (length ws) xs) ≡ ws
refill n ws xs e = take_at ws (drop (length ws) xs) n e

pub row_held : (rows : List (Vec Bool Global)) (i : ℕ) (x : Vec Bool Global) → i < length rows → x ≡ get_or rows i x → row_at (map vec_items rows) i ≡ vec_items x
row_held rows i x h e = get_or-map vec_items rows i x [] h ∙ sym (ap vec_items e)

module _ (n k : ℕ) (other : List Bool) (before : List (List Bool)) (rows : List (Vec Bool Global)) (i : ℕ) (x : Vec Bool Global) (h : Passing n k other before (map vec_items rows) i) (l : i < length rows) (e : x ≡ get_or rows i x) where
  pub passing_wide : Square n before → vec_len (get_or rows i x) ≡ n
  passing_wide s =
      let tall = h.tall in
      let count = length-map rows vec_items in
      ap vec_len (sym e) ∙ x.ok.0 ∙ ap length (sym (row_held rows i x l e) ∙ h.left i (omega arith)) ∙ s.wide i (omega (arith, s.tall))

  pub passing_set : (v : Vec Bool Global) → Row n (passed k other (vec_items (get_or rows i x))) (vec_items v) → Passing n k other before (map vec_items (set rows i v)) (i + 1)
  passing_set v w =
      subst (λ xs. Passing n k other before xs (i + 1)) (sym (map-set vec_items rows i v))
      (passing_more n k other before (map vec_items rows) i (vec_items v) h (omega (arith, length-map rows vec_items))
      (subst (λ y. Row n (passed k other y) (vec_items v)) (ap vec_items (sym e) ∙ sym (row_held rows i x l e)) w))

-- a row as it is written by way of a slice
pub row_written : (n k : ℕ) (x : Vec Bool Global) (other a b w : List Bool) → a ≡ vec_items x → b ≡ other → length b ≡ n → length w ≡ vec_len x → Row (length b) (passed k b a) w → Row n (passed k other (vec_items x)) (take (vec_len x) (w ++ drop (length w) (vec_items x)))
row_written n k x other a b w p q r l h =
    subst (Row n (passed k other (vec_items x))) (sym (refill (vec_len x) w (vec_items x) l))
    (subst (λ y. Row n (passed k other y) w) p (subst (λ y. Row n (passed k y a) w) q (subst (λ m. Row m (passed k b a) w) r h)))

-- the table after a pass, by way of slices
pub table_passed : (n k : ℕ) (rows s w last : List (Vec Bool Global)) → s ≡ rows → length s ≡ n → last ≡ w → Passed (length s) k (row_at (map vec_items s) k) (map vec_items s) (map vec_items w) → Passed n k (row_at (map vec_items rows) k) (map vec_items rows) (map vec_items last)
table_passed n k rows s w last e l q h =
    subst (λ y. Passed n k (row_at (map vec_items rows) k) (map vec_items rows) (map vec_items y)) (sym q)
    (subst (λ y. Passed n k (row_at (map vec_items y) k) (map vec_items y) (map vec_items w)) e (subst (λ m. Passed m k (row_at (map vec_items s) k) (map vec_items s) (map vec_items w)) l h))

-- a table's height is the number of its rows
pub height : (n : ℕ) (rows : List (Vec Bool Global)) → Square n (map vec_items rows) → n ≡ length rows
height n rows s = sym s.tall ∙ length-map rows vec_items

pub row_wide : (rows : List (Vec Bool Global)) (i : ℕ) (x : Vec Bool Global) → i < length rows → Square (length rows) (map vec_items rows) → vec_len (get_or rows i x) ≡ length rows
row_wide rows i x h s = (get_or rows i x).ok.0 ∙ ap length (sym (get_or-map vec_items rows i x [] h)) ∙ s.wide i h

-- the first row that has its own bit
pub own_bits : (rows : List (Vec Bool Global)) → position (λ (p : ℕ × Vec Bool Global). bit (vec_items p.1) p.0) (enumerate_from 0 rows) ≡ least (λ i. bit (row_at (map vec_items rows) i) i) 0 (length rows)
own_bits rows =
    position_least (λ (p : ℕ × Vec Bool Global). bit (vec_items p.1) p.0) (enumerate_from 0 rows) (λ i. bit (row_at (map vec_items rows) i) i)
    (λ k x l e.
    let m : k < length rows = omega (arith, length-enumerate_from 0 rows) in
    let q : x ≡ (0 + k, get_or rows k x.1) = e ∙ get_or-enumerate_from 0 rows k x m in
    let a : x.0 ≡ k = ap (λ (p : ℕ × Vec Bool Global). p.0) q ∙ zero-add k in
    ap (λ row. bit row k) (row_held rows k x.1 m (ap (λ (p : ℕ × Vec Bool Global). p.1) q)) ∙ sym (ap (bit (vec_items x.1)) a))
    ∙ ap (least (λ i. bit (row_at (map vec_items rows) i) i) 0) (length-enumerate_from 0 rows)

module _ (fs : List FileData) (es : List EdgeData) (rows : List (Vec Bool Global)) (t : Table (length es) (reaches fs es) (map vec_items rows)) where
  as_many : length rows ≡ length es
  as_many = sym (length-map rows vec_items) ∙ t.square.tall

  pub circle_same : position (λ (p : ℕ × Vec Bool Global). bit (vec_items p.1) p.0) (enumerate_from 0 rows) ≡ circle_of fs es
  circle_same =
      own_bits rows
      ∙ ap (least (λ i. bit (row_at (map vec_items rows) i) i) 0) as_many
      ∙ least_same (λ i. bit (row_at (map vec_items rows) i) i) (λ i. reaches fs es i i) 0 (length es) (λ d a b. t.bits d d (omega arith) (omega arith))

  pub ranks_same : map (λ (row : Vec Bool Global). set_bits (vec_items row)) rows ≡ ranks_of fs es
  ranks_same = fill_by_all (rank_of fs es) (map (λ (row : Vec Bool Global). set_bits (vec_items row)) rows) (length es) 0
      (length-map rows (λ (row : Vec Bool Global). set_bits (vec_items row)) ∙ as_many)
      (λ k l.
      ap (λ xs. get_or xs k 0) (sym (map-map set_bits vec_items rows))
      ∙ get_or-map set_bits (map vec_items rows) k [] 0 (omega (arith, t.square.tall))
      ∙ sym (bits_count (row_at (map vec_items rows) k))
      ∙ ap (count_of (bit (row_at (map vec_items rows) k))) (t.square.wide k l)
      ∙ count_same (bit (row_at (map vec_items rows) k)) (reaches fs es k) (length es) (λ d m. t.bits k d l m))
