-- The texts that are accepted are the manifests of the grammar, with just their statements.
use Rattle.std.proofs.Common.{◌≡◌, ℕ, zero, suc, ◌+◌, ◌<◌, ◌≤◌, false, ltb, List, [], ◌∷◌, length, get_or, Some, None, Ok, Err, Option, Result, Vec, sym, refl, ◌∙◌, subst, arith}
use Rattle.std.proofs.lemmas.Bool.{cond_both, ltb-false, ltb-true}
use Rattle.std.specs.declared.alloc.Global.{Global}
use Rattle.byteclass.specs.Class.{banned_byte}
use Rattle.cursor.specs.Scan.{Out, ok, bad, spot}
use Rattle.cursor.specs.declared.place.Fault.{Fault}
use Rattle.cursor.specs.declared.place.Fault.TheVariants.{TooLong, Banned}
use Rattle.parts.specs.declared.refusal.Refusal.{Refusal}
use Rattle.parts.specs.declared.refusal.Refusal.TheVariants.{Faulty, Memory}
use Rattle.text.specs.declared.kinds.Statement.{Statement}
use Rattle.text.specs.Text.{Stated, statements, first_banned, checked, unless, manifest_of, Comes, Answers}
use Rattle.text.specs.Grammar.{Statements, Manifest, Admits}
use Rattle.text.proofs.Sound.{Sound}
use Rattle.text.proofs.SoundParts.{statements_sound}
use Rattle.text.proofs.Full.{Reads}
use Rattle.text.proofs.FullParts.{statements_full}

none_some : (f : Fault) → Some f ≡ None → ⊥
none_some f e = let z : ◌≡◌ {A = ℕ} 0 1 = cc in omega arith

-- no byte of s is one that no manifest holds
abbrev pub Clean : List ℕ → Type 0
Clean s = (k : ℕ) → k < length s → banned_byte (get_or s k 0) ≡ false

clean_tail : (b : ℕ) (s : List ℕ) → Clean (b ∷ s) → Clean s
clean_tail b s h k l = h (suc k) (omega arith)

clean_cons : (b : ℕ) (s : List ℕ) → banned_byte b ≡ false → Clean s → Clean (b ∷ s)
clean_cons b s f h zero l = f
clean_cons b s f h (suc k) l = h k (omega arith)

pub none_banned : (i : ℕ) (s : List ℕ) → first_banned i s ≡ None → Clean s
none_banned i [] e = λ k l. absurd (omega arith)
none_banned i (b ∷ s) e =
    cond_both (banned_byte b) (Some (Banned (spot i))) (first_banned (i + 1) s) (λ x. x ≡ None → Clean (b ∷ s))
    (λ _ q. absurd (none_some _ q)) (λ f q. clean_cons b s f (none_banned (i + 1) s q)) e

pub clean_none : (i : ℕ) (s : List ℕ) → Clean s → first_banned i s ≡ None
clean_none i [] h = refl
clean_none i (b ∷ s) h = rw (h 0 (omega arith)) (clean_none (i + 1) s (clean_tail b s h))

-- what the first checks say
pub record Passed (s : List ℕ) : Type 0 where
  pub short : length s ≤ 65535
  pub clean : Clean s

pub passed : (s : List ℕ) → checked s ≡ None → Passed s
passed s =
    cond_both (ltb 65535 (length s)) (Some TooLong) (first_banned 0 s) (λ x. x ≡ None → Passed s)
    (λ _ q. absurd (none_some _ q))
    (λ f q. record { short = omega (arith, ltb-false 65535 (length s) f); clean = none_banned 0 s q })

pub passes : (s : List ℕ) → Passed s → checked s ≡ None
passes s h =
    cond_both (ltb 65535 (length s)) (Some TooLong) (first_banned 0 s) (λ x. x ≡ None)
    (λ t. absurd (let l = ltb-true 65535 (length s) t in omega (arith, h.short)))
    (λ _. clean_none 0 s h.clean)

comes_sound : (s : List ℕ) (xs : List Stated) (o : Out (List Stated)) → Passed s → Sound (Statements (length s) s) o → Comes o xs → Manifest s xs
comes_sound s xs (ok ys j r) p h e = record { short = p.short; clean = p.clean; rest = r; says = subst (λ z. Statements (length s) s z r) e h }
comes_sound s xs (bad f) p h e = absurd e

unless_sound : (s : List ℕ) (xs : List Stated) (c : Option Fault) → checked s ≡ c → Comes (unless c (statements 0 s)) xs → Manifest s xs
unless_sound s xs None p h = comes_sound s xs (statements 0 s) (passed s p) (statements_sound (length s) 0 s (omega arith)) h
unless_sound s xs (Some f) p h = absurd h

pub accepted : (s : List ℕ) (xs : List Stated) → Comes (manifest_of s) xs → Manifest s xs
accepted s xs h = unless_sound s xs (checked s) refl h

reads_comes : (xs : List Stated) (r : List ℕ) (o : Out (List Stated)) → Reads xs r o → Comes o xs
reads_comes xs r (ok ys j t) h = h.0
reads_comes xs r (bad f) h = h

pub admitted : (s : List ℕ) (xs : List Stated) → Manifest s xs → Comes (manifest_of s) xs
admitted s xs h =
    rw (passes s (record { short = h.short; clean = h.clean }))
    (reads_comes xs h.rest (statements 0 s) (statements_full (length s) h.says 0 (omega arith)))

same_comes : (o : Out (List Stated)) (xs ys : List Stated) → Comes o xs → Comes o ys → xs ≡ ys
same_comes (ok zs j r) xs ys p q = sym p ∙ q
same_comes (bad f) xs ys p q = absurd p

no_comes : (o : Out (List Stated)) (f : Fault) (xs : List Stated) → bad f ≡ o → Comes o xs → ⊥
no_comes o f xs p q = subst (λ z. Comes z xs) (sym p) q

pub admits : (r : Result (Vec Statement Global) Refusal) (s : List ℕ) → Answers r (manifest_of s) → Admits r s
admits (Ok v) s h = (accepted s _ h, λ xs m. same_comes (manifest_of s) xs _ (admitted s xs m) h)
admits (Err (Faulty f)) s h = λ xs m. no_comes (manifest_of s) f xs h (admitted s xs m)
admits (Err Memory) s h = tt
