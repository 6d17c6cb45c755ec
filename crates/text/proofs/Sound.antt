-- What is read is of the grammar.
use Rattle.std.proofs.Common.{◌≡◌, ℕ, zero, suc, ◌+◌, ◌-◌, ◌<◌, ◌≤◌, Bool, true, false, cond, ◌&&◌, ◌||◌, eqb, ltb, ◌⊎◌, List, [], ◌∷◌, length, get_or, take, drop, sym, refl, ap, ◌∙◌, subst, ⊎_elim, arith, length-drop}
use Rattle.std.proofs.lemmas.Bool.{cond_both, cases_Bool, eqb-true, eqb-false, eq-eqb, and_parts, and_from, false≢true, ltb-true}
use Rattle.std.proofs.lemmas.Bool.Decides.{nat_tests}
use Rattle.byteclass.specs.Class.{class, name_byte, simple_byte}
use Rattle.cursor.specs.Scan.{Out, ok, bad, and_then, up_to, name_len, name_of, name, spaces, gap, comment, byte, scan, value, stops, walk, path, braced, escaped}
use Rattle.cursor.specs.declared.place.Opens.{Opens}
use Rattle.cursor.proofs.Steps.{name_within}
use Rattle.text.specs.Grammar.{Spaces, Gap, Comment, Name, Escape, Value, Path}

-- if a reading succeeds, P holds of what was read and what is left
abbrev pub Sound : {A : Type 0} → (A → List ℕ → Type 0) → Out A → Type 0
Sound P (ok a j r) = P a r
Sound P (bad f) = Unit {0}

pub sound_more : {A : Type 0} (P Q : A → List ℕ → Type 0) (o : Out A) → Sound P o → ((a : A) (r : List ℕ) → P a r → Q a r) → Sound Q o
sound_more P Q (ok a j r) h k = k a r h
sound_more P Q (bad f) h k = tt

pub then_sound : {A B : Type 0} (P : A → List ℕ → Type 0) (Q : B → List ℕ → Type 0) (o : Out A) (f : A → ℕ → List ℕ → Out B) → Sound P o → ((a : A) (j : ℕ) (r : List ℕ) → P a r → Sound Q (f a j r)) → Sound Q (and_then o f)
then_sound P Q (ok a j r) f h k = k a j r h
then_sound P Q (bad e) f h k = tt

-- a cond of readings, by its test
pub by : {A : Type 0} (P : A → List ℕ → Type 0) (t : Bool) (x y : Out A) → (t ≡ true → Sound P x) → (t ≡ false → Sound P y) → Sound P (cond t x y)
by P t x y h k = cond_both t x y (Sound P) h k

pub spaces_sound : (i : ℕ) (s : List ℕ) → Sound (λ _ r. Spaces s r) (spaces i s)
spaces_sound i [] = Spaces.none (λ q. omega arith)
spaces_sound i (b ∷ s) =
    by (λ _ r. Spaces (b ∷ s) r) (eqb b 32) _ _
    (λ t. sound_more (λ _ r. Spaces s r) _ (spaces (i + 1) s) (spaces_sound (i + 1) s) (λ _ r h. Spaces.space (eqb-true b 32 t) h))
    (λ n. Spaces.none (eqb-false b 32 n))

no_gap : Gap [] []
no_gap = Gap.none (λ q. omega arith) (λ q w. omega arith)

pub gap_sound : (i : ℕ) (s : List ℕ) → Sound (λ _ r. Gap s r) (gap i s)
gap_sound i [] = no_gap
gap_sound i (b ∷ []) =
    by (λ _ r. Gap (b ∷ []) r) (eqb b 32) _ _ (λ t. Gap.space (eqb-true b 32 t) no_gap)
    (λ n. Gap.none (eqb-false b 32 n) (λ q w. omega arith))
gap_sound i (b ∷ c ∷ s) =
    by (λ _ r. Gap (b ∷ c ∷ s) r) (eqb b 32) _ _
    (λ t. sound_more (λ _ r. Gap (c ∷ s) r) _ (gap (i + 1) (c ∷ s)) (gap_sound (i + 1) (c ∷ s)) (λ _ r h. Gap.space (eqb-true b 32 t) h))
    (λ n.
    by (λ _ r. Gap (b ∷ c ∷ s) r) (eqb b 36 && eqb c 10) _ _
    (λ t.
    let u = and_parts (eqb b 36) (eqb c 10) t in
    sound_more (λ _ r. Gap s r) _ (gap (i + 2) s) (gap_sound (i + 2) s) (λ _ r h. Gap.wrap (eqb-true b 36 u.0) (eqb-true c 10 u.1) h))
    (λ m. Gap.none (eqb-false b 32 n) (λ q w. false≢true (sym m ∙ and_from (eqb b 36) (eqb c 10) (eq-eqb b 36 q) (eq-eqb c 10 w)))))

pub comment_sound : (i : ℕ) (s : List ℕ) → Sound (λ _ r. Comment s r) (comment i s)
comment_sound i [] = tt
comment_sound i (b ∷ s) =
    by (λ _ r. Comment (b ∷ s) r) (eqb b 10) _ _ (λ t. Comment.end (eqb-true b 10 t))
    (λ n. sound_more (λ _ r. Comment s r) _ (comment (i + 1) s) (comment_sound (i + 1) s) (λ _ r h. Comment.more (eqb-false b 10 n) h))

-- the byte k, and what is left
pub record IsByte (k : ℕ) (s r : List ℕ) : Type 0 where
  pub head : ℕ
  pub is : head ≡ k
  pub cut : s ≡ head ∷ r

pub byte_sound : (k : ℕ) (o : Opens) (i : ℕ) (s : List ℕ) → Sound (λ _ r. IsByte k s r) (byte k o i s)
byte_sound k o i [] = tt
byte_sound k o i (b ∷ s) = by (λ _ r. IsByte k (b ∷ s) r) (eqb b k) _ _ (λ t. record { head = b; is = eqb-true b k t; cut = refl }) (λ _. tt)

pub name_0 : name_byte 0 ≡ false
unfolding class
name_0 = refl

pub name_10 : name_byte 10 ≡ false
unfolding class
name_10 = refl

pub name_32 : name_byte 32 ≡ false
unfolding class
name_32 = refl

pub name_36 : name_byte 36 ≡ false
unfolding class
name_36 = refl

pub name_125 : name_byte 125 ≡ false
unfolding class
name_125 = refl

-- a byte of a name is none that has a meaning of its own
pub not_name : (b k : ℕ) → name_byte b ≡ true → name_byte k ≡ false → b ≡ k → ⊥
not_name b k t f e = false≢true (sym f ∙ ap name_byte (sym e) ∙ t)

-- where no name byte stands
stop_name : (s : List ℕ) → name_len s ≡ 0 → name_byte (get_or s 0 0) ≡ false
stop_name [] e = name_0
stop_name (b ∷ s) e =
    cond_both (name_byte b) (suc (name_len s)) 0 (λ k. k ≡ 0 → name_byte b ≡ false)
    (λ _ q. absurd (omega arith)) (λ f _. f) e

name_tail : (b : ℕ) (s : List ℕ) (n : ℕ) → name_byte b ≡ true → name_len s ≡ n → ((m : ℕ) → name_len s ≡ suc m → Name s (drop (suc m) s)) → Name (b ∷ s) (drop n s)
name_tail b s zero t q k = Name.last t (stop_name s q)
name_tail b s (suc n) t q k = Name.more t (k n q)

name_run : (s : List ℕ) (n : ℕ) → name_len s ≡ suc n → Name s (drop (suc n) s)
name_run [] n e = absurd (omega arith)
name_run (b ∷ s) n e =
    cond_both (name_byte b) (suc (name_len s)) 0 (λ k. k ≡ suc n → Name (b ∷ s) (drop n s))
    (λ t q. name_tail b s n t (omega arith) (name_run s))
    (λ _ q. absurd (omega arith))
    e

-- the bytes before what is left after n bytes
pub up_to_drop : (s : List ℕ) (n : ℕ) → n ≤ length s → up_to s (drop n s) ≡ take n s
up_to_drop s n l = let e : length s - length (drop n s) ≡ n = omega (arith, length-drop n s) in ap (λ k. take k s) e

-- a name, and its bytes
pub record Named (s n r : List ℕ) : Type 0 where
  pub is : Name s r
  pub text : n ≡ up_to s r

name_of_sound : (o : Opens) (n i : ℕ) (s : List ℕ) → name_len s ≡ n → Sound (Named s) (name_of o n i s)
name_of_sound o zero i s e = tt
name_of_sound o (suc n) i s e = record { is = name_run s n e; text = sym (up_to_drop s (suc n) (omega (arith, name_within s))) }

pub name_sound : (o : Opens) (i : ℕ) (s : List ℕ) → Sound (Named s) (name o i s)
name_sound o i s = name_of_sound o (name_len s) i s refl

pub name_58 : name_byte 58 ≡ false
unfolding class
name_58 = refl

pub name_124 : name_byte 124 ≡ false
unfolding class
name_124 = refl

stop_cases : (b : ℕ) → stops b ≡ true → (b ≡ 32) ⊎ ((b ≡ 58) ⊎ ((b ≡ 124) ⊎ (b ≡ 10)))
stop_cases b t = grind (arith, nat_tests)

-- a byte of a name ends no path
pub name_stops : (b : ℕ) → name_byte b ≡ true → stops b ≡ false
name_stops b t =
    ⊎_elim
    (λ u. absurd (⊎_elim (not_name b 32 t name_32) (⊎_elim (not_name b 58 t name_58) (⊎_elim (not_name b 124 t name_124) (not_name b 10 t name_10))) (stop_cases b u)))
    (λ f. f) (cases_Bool (stops b))

-- a name in braces, where R holds of bytes, and then of what is left after a plain byte
module _ (R : List ℕ → Type 0) (on : (b : ℕ) (s : List ℕ) → (b ≡ 10 → ⊥) → (b ≡ 36 → ⊥) → stops b ≡ false → R (b ∷ s) → R s) where
  record Braced (s : List ℕ) : Type 0 where
    close : ℕ
    after : List ℕ
    is : close ≡ 125
    named : Name s (close ∷ after)
    goes : R after

  on_name : (b : ℕ) (s : List ℕ) → name_byte b ≡ true → R (b ∷ s) → R s
  on_name b s t h = on b s (not_name b 10 t name_10) (not_name b 36 t name_36) (name_stops b t) h

  on_brace : (b : ℕ) (s : List ℕ) → b ≡ 125 → R (b ∷ s) → R s
  on_brace b s e h = on b s (λ q. omega arith) (λ q. omega arith) (rw e refl) h

  braced_here : (b : ℕ) (s : List ℕ) → name_byte b ≡ true → get_or s 0 0 ≡ 125 → R s → Braced (b ∷ s)
  braced_here b [] t e h = absurd (omega arith)
  braced_here b (d ∷ s) t e h = record { close = d; after = s; is = e; named = Name.last t (ap name_byte e ∙ name_125); goes = on_brace d s e h }

  braced_step : (b : ℕ) (s : List ℕ) (n : ℕ) → name_byte b ≡ true → name_len s ≡ n → get_or (b ∷ s) (suc n) 0 ≡ 125 → R (b ∷ s) → (0 < name_len s → get_or s (name_len s) 0 ≡ 125 → R s → Braced s) → Braced (b ∷ s)
  braced_step b s zero t q e h k = braced_here b s t e (on_name b s t h)
  braced_step b s (suc n) t q e h k =
      let w = k (omega arith) (rw q e) (on_name b s t h) in
      record { close = w.close; after = w.after; is = w.is; named = Name.more t w.named; goes = w.goes }

  brace_strip : (s : List ℕ) → 0 < name_len s → get_or s (name_len s) 0 ≡ 125 → R s → Braced s
  brace_strip [] l e h = absurd (omega arith)
  brace_strip (b ∷ s) l e h =
      cond_both (name_byte b) (suc (name_len s)) 0 (λ n. 0 < n → get_or (b ∷ s) n 0 ≡ 125 → Braced (b ∷ s))
      (λ t l2 e2. braced_step b s (name_len s) t refl e2 h (brace_strip s))
      (λ _ l2 e2. absurd (omega arith))
      l e

  pub record Escaped (s : List ℕ) : Type 0 where
    pub after : List ℕ
    pub is : Escape s after
    pub goes : R after

  -- what follows a `$` that begins something, but no continuation
  pub escape_sound : (c : ℕ) (s : List ℕ) → escaped (c ∷ s) ≡ true → (c ≡ 10 → ⊥) → R s → Escaped (c ∷ s)
  escape_sound c s e n h =
      cond_both (eqb c 10 || (eqb c 32 || (eqb c 58 || eqb c 36))) true (cond (eqb c 123) (braced s) (simple_byte c)) (λ x. x ≡ true → Escaped (c ∷ s))
      (λ t _. let w : (c ≡ 32) ⊎ ((c ≡ 58) ⊎ (c ≡ 36)) = grind (arith, nat_tests) in record { after = s; is = Escape.itself w; goes = h })
      (λ _. cond_both (eqb c 123) (braced s) (simple_byte c) (λ x. x ≡ true → Escaped (c ∷ s))
      (λ t x.
      let u = and_parts (ltb 0 (name_len s)) (eqb (get_or s (name_len s) 0) 125) x in
      let w = brace_strip s (ltb-true _ _ u.0) (eqb-true _ _ u.1) h in
      record { after = w.after; is = Escape.braces (eqb-true c 123 t) w.named w.is; goes = w.goes })
      (λ _ x. record { after = s; is = Escape.simple x; goes = h }))
      e

-- past a byte that has no meaning of its own, in a value
value_on : (r : List ℕ) (b : ℕ) (s u : List ℕ) → (b ≡ 10 → ⊥) → (b ≡ 36 → ⊥) → Value u r → u ≡ b ∷ s → Value s r
value_on r b s u n m (Value.end {b = x} p) e = absurd (n (let h : b ≡ x = cc in h ∙ p))
value_on r b s u n m (Value.plain {s = y} p q v) e = let h : y ≡ s = cc in subst (λ z. Value z r) h v
value_on r b s u n m (Value.wrap {b = x} p q v) e = absurd (m (let h : b ≡ x = cc in h ∙ p))
value_on r b s u n m (Value.escape {b = x} p q v) e = absurd (m (let h : b ≡ x = cc in h ∙ p))

-- the same in a path
path_on : (r : List ℕ) (b : ℕ) (s u : List ℕ) → (b ≡ 36 → ⊥) → stops b ≡ false → Path u r → u ≡ b ∷ s → Path s r
path_on r b s u m f (Path.end {b = x} p) e = absurd (let h : b ≡ x = cc in false≢true (sym f ∙ ap stops h ∙ p))
path_on r b s u m f (Path.plain {s = y} p q v) e = let h : y ≡ s = cc in subst (λ z. Path z r) h v
path_on r b s u m f (Path.wrap {b = x} p q w v) e = absurd (m (let h : b ≡ x = cc in h ∙ p))
path_on r b s u m f (Path.escape {b = x} p q v) e = absurd (m (let h : b ≡ x = cc in h ∙ p))

value_escape : (b c : ℕ) (s r : List ℕ) → b ≡ 36 → escaped (c ∷ s) ≡ true → Value s r → Value (b ∷ c ∷ s) r
value_escape b c s r p e v =
    ⊎_elim
    (λ t. Value.wrap p (eqb-true c 10 t) v)
    (λ n.
    let w = escape_sound (λ z. Value z r) (λ x y n2 m2 f h. value_on r x y (x ∷ y) n2 m2 h refl) c s e (eqb-false c 10 n) v in
    Value.escape p w.is w.goes)
    (cases_Bool (eqb c 10))

pub scan_sound : (i : ℕ) (s : List ℕ) → Sound (λ _ r. Value s r) (scan i s)
scan_sound i [] = tt
scan_sound i (b ∷ []) =
    by (λ _ r. Value (b ∷ []) r) (eqb b 10) _ _ (λ t. Value.end (eqb-true b 10 t)) (λ _. by (λ _ r. Value (b ∷ []) r) (eqb b 36) _ _ (λ _. tt) (λ _. tt))
scan_sound i (b ∷ c ∷ s) =
    by (λ _ r. Value (b ∷ c ∷ s) r) (eqb b 10) _ _ (λ t. Value.end (eqb-true b 10 t))
    (λ n.
    by (λ _ r. Value (b ∷ c ∷ s) r) (eqb b 36) _ _
    (λ t.
    by (λ _ r. Value (b ∷ c ∷ s) r) (escaped (c ∷ s)) _ _
    (λ e. sound_more (λ _ r. Value s r) _ (scan (i + 2) s) (scan_sound (i + 2) s) (λ _ r v. value_escape b c s r (eqb-true b 36 t) e v))
    (λ _. tt))
    (λ m. sound_more (λ _ r. Value (c ∷ s) r) _ (scan (i + 1) (c ∷ s)) (scan_sound (i + 1) (c ∷ s)) (λ _ r v. Value.plain (eqb-false b 10 n) (eqb-false b 36 m) v)))

-- a value, and its bytes
pub record Valued (s v r : List ℕ) : Type 0 where
  pub is : Value s r
  pub text : v ≡ up_to s r

pub value_sound : (i : ℕ) (s : List ℕ) → Sound (Valued s) (value i s)
value_sound i s = then_sound (λ _ r. Value s r) (Valued s) (scan i s) _ (scan_sound i s) (λ _ j r h. record { is = h; text = refl })

-- a path that goes on, after a continuation if w says so
abbrev Walked : Bool → List ℕ → List ℕ → Type 0
Walked true s r = (t : List ℕ) × (Spaces s t × Path t r)
Walked false s r = Path s r

path_escape : (b c : ℕ) (s r : List ℕ) → b ≡ 36 → escaped (c ∷ s) ≡ true → (v : Bool) → eqb c 10 ≡ v → Walked v s r → Path (b ∷ c ∷ s) r
path_escape b c s r p e true q h = Path.wrap p (eqb-true c 10 q) h.1.0 h.1.1
path_escape b c s r p e false q h =
    let w = escape_sound (λ z. Path z r) (λ x y n m f g. path_on r x y (x ∷ y) m f g refl) c s e (eqb-false c 10 q) h in
    Path.escape p w.is w.goes

path_arms : (i b c : ℕ) (s : List ℕ) (e : Out (Unit {0})) → stops b ≡ false → Sound (λ _ r. Path (b ∷ c ∷ s) r) e → Sound (λ _ r. Walked (eqb c 10) s r) (walk (eqb c 10) (i + 2) s) → Sound (λ _ r. Path (c ∷ s) r) (walk false (i + 1) (c ∷ s)) → Sound (λ _ r. Path (b ∷ c ∷ s) r) (cond (eqb b 36) (cond (escaped (c ∷ s)) (walk (eqb c 10) (i + 2) s) e) (walk false (i + 1) (c ∷ s)))
path_arms i b c s e f x h k =
    by (λ _ r. Path (b ∷ c ∷ s) r) (eqb b 36) _ _
    (λ t.
    by (λ _ r. Path (b ∷ c ∷ s) r) (escaped (c ∷ s)) _ _
    (λ u. sound_more (λ _ r. Walked (eqb c 10) s r) _ (walk (eqb c 10) (i + 2) s) h (λ _ r g. path_escape b c s r (eqb-true b 36 t) u (eqb c 10) refl g))
    (λ _. x))
    (λ m. sound_more (λ _ r. Path (c ∷ s) r) _ (walk false (i + 1) (c ∷ s)) k (λ _ r g. Path.plain f (eqb-false b 36 m) g))

pub walk_sound : (w : Bool) (i : ℕ) (s : List ℕ) → Sound (λ _ r. Walked w s r) (walk w i s)
walk_sound w i [] = tt
walk_sound true i (b ∷ []) =
    by (λ _ r. Walked true (b ∷ []) r) (eqb b 32) _ _ (λ _. tt)
    (λ n. by (λ _ r. Walked true (b ∷ []) r) (stops b) _ _ (λ t. (b ∷ [], (Spaces.none (eqb-false b 32 n), Path.end t)))
    (λ _. by (λ _ r. Walked true (b ∷ []) r) (eqb b 36) _ _ (λ _. tt) (λ _. tt)))
walk_sound false i (b ∷ []) =
    by (λ _ r. Path (b ∷ []) r) (stops b) _ _ (λ t. Path.end t) (λ _. by (λ _ r. Path (b ∷ []) r) (eqb b 36) _ _ (λ _. tt) (λ _. tt))
walk_sound true i (b ∷ c ∷ s) =
    by (λ _ r. Walked true (b ∷ c ∷ s) r) (eqb b 32) _ _
    (λ t. sound_more (λ _ r. Walked true (c ∷ s) r) _ (walk true (i + 1) (c ∷ s)) (walk_sound true (i + 1) (c ∷ s)) (λ _ r g. (g.0, (Spaces.space (eqb-true b 32 t) g.1.0, g.1.1))))
    (λ n. by (λ _ r. Walked true (b ∷ c ∷ s) r) (stops b) _ _ (λ t. (b ∷ c ∷ s, (Spaces.none (eqb-false b 32 n), Path.end t)))
    (λ f. sound_more (λ _ r. Path (b ∷ c ∷ s) r) _ (cond (eqb b 36) (cond (escaped (c ∷ s)) (walk (eqb c 10) (i + 2) s) _) (walk false (i + 1) (c ∷ s)))
    (path_arms i b c s _ f tt (walk_sound (eqb c 10) (i + 2) s) (walk_sound false (i + 1) (c ∷ s)))
    (λ _ r g. (b ∷ c ∷ s, (Spaces.none (eqb-false b 32 n), g)))))
walk_sound false i (b ∷ c ∷ s) =
    by (λ _ r. Path (b ∷ c ∷ s) r) (stops b) _ _ (λ t. Path.end t)
    (λ f. path_arms i b c s _ f tt (walk_sound (eqb c 10) (i + 2) s) (walk_sound false (i + 1) (c ∷ s)))

-- a path, and its bytes
pub record Pathed (s p r : List ℕ) : Type 0 where
  pub is : Path s r
  pub text : p ≡ up_to s r

pub path_sound : (i : ℕ) (s : List ℕ) → Sound (Pathed s) (path i s)
path_sound i s = then_sound (λ _ r. Path s r) (Pathed s) (walk false i s) _ (walk_sound false i s) (λ _ j r h. record { is = h; text = refl })
