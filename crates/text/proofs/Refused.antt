-- A refusal of one statement is a refusal of all.
use Rattle.std.proofs.Common.{◌≡◌, ℕ, ltb, List, map, length, take, Some, None, Ok, Err, vec_items, Result, Vec, refl, ◌∙◌, subst, arith}
use Rattle.std.proofs.lemmas.List.{take_all}
use Rattle.std.proofs.lemmas.Bool.{cond_both, ltb-false}
use Rattle.std.specs.declared.alloc.Global.{Global}
use Rattle.cursor.specs.Scan.{Out, bad}
use Rattle.cursor.specs.declared.place.Cursor.{Cursor}
use Rattle.cursor.specs.declared.place.Fault.{Fault}
use Rattle.cursor.specs.declared.place.Fault.TheVariants.{TooLong}
use Rattle.parts.specs.Many.{each}
use Rattle.parts.specs.Parts.{Stops, Tells}
use Rattle.parts.specs.declared.refusal.Refusal.{Refusal}
use Rattle.parts.specs.declared.refusal.Refusal.TheVariants.{Faulty, Memory}
use Rattle.parts.proofs.Many.{Sofar, each_moves, fail_here, bad_each}
use Rattle.text.specs.declared.kinds.Statement.{Statement}
use Rattle.text.specs.Text.{Stated, stated_of, next, statements, first_banned, checked, manifest_of, Answers}
use Rattle.text.proofs.Moves.{next_statement_moves}

pub refused_here : (e : Refusal) (i : ℕ) (s : List ℕ) (o : Out (List Stated)) (es : List Stated) → Sofar (each next) o i s es → Stops e (next i s) → Stops e o
refused_here (Faulty f) i s o es h q = fail_here (each next) (each_moves next next_statement_moves) i s o f es h (bad_each next next_statement_moves i s f q)
refused_here Memory i s o es h q = tt

-- a text with no fault over all bytes is no longer than what is read of it
pub all_read : (s : List ℕ) → None ≡ checked s → take 65535 s ≡ s
all_read s =
    cond_both (ltb 65535 (length s)) (Some TooLong) (first_banned 0 s) (λ x. None ≡ x → take 65535 s ≡ s)
    (λ _ p. let z : ◌≡◌ {A = ℕ} 0 1 = cc in absurd (omega arith))
    (λ t _. take_all 65535 s (omega (arith, ltb-false 65535 (length s) t)))

-- what the reading of all statements told is what the text comes to, where nothing came before
told_whole : (r : Result (Vec Statement Global) Refusal) (d : Cursor) (s : List ℕ) → None ≡ checked s → Tells (λ v. map stated_of (vec_items v)) r d (statements 0 s) → Answers r (manifest_of s)
told_whole (Ok v) d s p q = rw (← p, ← q) refl
told_whole (Err (Faulty f)) d s p q = rw (← p) q
told_whole (Err Memory) d s p q = tt

pub whole : (r : Result (Vec Statement Global) Refusal) (d : Cursor) (s : List ℕ) (i : ℕ) (t : List ℕ) → i ≡ 0 → t ≡ take 65535 s → None ≡ checked s → Tells (λ v. map stated_of (vec_items v)) r d (statements i t) → Answers r (manifest_of s)
whole r d s i t e u p q =
    told_whole r d s p (subst (λ x. Tells (λ v. map stated_of (vec_items v)) r d (statements 0 x)) (u ∙ all_read s p) (subst (λ n. Tells (λ v. map stated_of (vec_items v)) r d (statements n t)) e q))

pub none_whole : (f : Fault) (s : List ℕ) → Some f ≡ checked s → bad f ≡ manifest_of s
none_whole f s p = rw (← p)
