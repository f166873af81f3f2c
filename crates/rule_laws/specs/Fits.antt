-- What follows from rule/Fits.antt: a value fits, or does not, exactly as the paper says.
use Rattle.std.specs.Prelude.{◌↔◌, ◌≡◌, Bool, cond, ◌&&◌, ℕ, zero, suc, ◌-◌, ◌≤◌, ◌<◌, leb, ℤ, get_or}
use Rattle.std.proofs.Math.Logic.{⊎_elim}
use Rattle.std.proofs.Math.Path.{refl}
use Rattle.std.proofs.Common.{sym, eq-or-lt_of_le}
use Rattle.std.proofs.Math.Bool.{true, false}
use mathlib.Core.List.{List, [], ◌∷◌}
use native.Mathlib.Omega.{arith}
use borrow.Author.Tests.{ltb-true, ltb-false, lt-ltb, leb-true, le-leb}
use Rattle.std.proofs.Math.Dec.{ltb}
use Rattle.std.specs.Int.Signed.{lt_z}
use Rattle.std.proofs.Math.ListN.{length}
use Rattle.below.specs.Below.{holds_not, and_left, and_right, and_true}
use Rattle.layout.specs.declared.Kind.{Kind}
use Rattle.layout.specs.declared.Kind.TheVariants.{Single, Multiple, Quantity, Character, Logical}
use Rattle.layout.specs.declared.Spread.{Spread}
use Rattle.layout.specs.declared.Spread.TheVariants.{Bits, Fields}
use Rattle.layout.specs.declared.Format.{Format}
use Rattle.layout.specs.declared.Row.{Row}
use Rattle.fields.specs.rule.Legal.{legal}
use Rattle.fields.specs.rule.Field.{Value, missing, number, members, text, truth, all_plain, rising_from, all_legal, set_fits, text_fits}
use Rattle.fields.specs.rule.Row.{Fit, fits, other_type, not_legal, too_many, legal_fit, fits_by}
use Rattle.rule_laws.specs.rule.Fits.{Rising, none, one, next, AllLegal, more, TextFit, sort, takes}
use Rattle.rule_laws.specs.rule.Fits.{Legal, a_code, a_quantity, a_set, a_text, a_truth, Many, many}
use Rattle.rule_laws.specs.rule.Fits.{Fitting, always, fitting, of_another, not_legal_lem, too_many_lem}

-- ---- a set
module _ (ok : ℤ → Bool) where
  rising_so : (a : ℤ) (ms : List ℤ) → rising_from a ms ≡ true → Rising (a ∷ ms)
  unfolding rising_from
  rising_so a [] e = one
  rising_so a (m ∷ ms) e =
      next (and_left (lt_z a m) (rising_from m ms) e) (rising_so m ms (and_right (lt_z a m) (rising_from m ms) e))

  so_rising : {a : ℤ} {ms : List ℤ} → Rising (a ∷ ms) → rising_from a ms ≡ true
  unfolding rising_from
  so_rising one = refl
  so_rising (next {a = a} {b = m} {ms = ms} l q) = and_true (lt_z a m) (rising_from m ms) l (so_rising q)

  legal_so : (ms : List ℤ) → all_legal ok ms ≡ true → AllLegal ok ms
  unfolding all_legal
  legal_so [] e = none
  legal_so (m ∷ ms) e = more (and_left (ok m) (all_legal ok ms) e) (legal_so ms (and_right (ok m) (all_legal ok ms) e))

  so_legal : {ms : List ℤ} → AllLegal ok ms → all_legal ok ms ≡ true
  unfolding all_legal
  so_legal none = refl
  so_legal (more {m = m} {ms = ms} h q) = and_true (ok m) (all_legal ok ms) h (so_legal q)

  set_so : (ms : List ℤ) → set_fits ok ms ≡ true → Rising ms × AllLegal ok ms
  unfolding set_fits
  set_so [] e = (none, none)
  set_so (m ∷ ms) e = (
    rising_so m ms (and_left (rising_from m ms) (all_legal ok (m ∷ ms)) e),
    legal_so (m ∷ ms) (and_right (rising_from m ms) (all_legal ok (m ∷ ms)) e),
  )

  so_set : (ms : List ℤ) → Rising ms → AllLegal ok ms → set_fits ok ms ≡ true
  unfolding set_fits
  so_set [] q h = refl
  so_set (m ∷ ms) q h = and_true (rising_from m ms) (all_legal ok (m ∷ ms)) (so_rising q) (so_legal h)

  -- A SET FITS exactly when it rises strictly and its members are legal
  pub set_fits_exactly : (ms : List ℤ) → (set_fits ok ms ≡ true) ↔ (Rising ms × AllLegal ok ms)
  set_fits_exactly ms = (set_so ms, λ p. so_set ms p.0 p.1)

-- ---- a text
plain_so : (s : List ℕ) → all_plain s ≡ true → (p : ℕ) → p < length s → 32 ≤ get_or s p 0
unfolding all_plain
plain_so [] e p h = absurd (omega arith)
plain_so (b ∷ s) e zero h = leb-true 32 b (and_left (leb 32 b) (all_plain s) e)
plain_so (b ∷ s) e (suc p) h = plain_so s (and_right (leb 32 b) (all_plain s) e) p (omega arith)

so_plain : (s : List ℕ) → ((p : ℕ) → p < length s → 32 ≤ get_or s p 0) → all_plain s ≡ true
unfolding all_plain
so_plain [] h = refl
so_plain (b ∷ s) h = and_true (leb 32 b) (all_plain s) (le-leb 32 b (h 0 (omega arith))) (so_plain s (λ p l. h (suc p) (omega arith)))

module _ (w : ℕ) (s : List ℕ) where
  abbrev last : ℕ
  last = get_or s (length s - 1) 0

  abbrev behind : Bool
  behind = leb (length s) w && (all_plain s && ltb 32 last)

  text_so : text_fits w s ≡ true → TextFit w s
  unfolding text_fits
  text_so e =
      let f : behind ≡ true = and_right (ltb 0 (length s)) behind e in
      let g : (all_plain s && ltb 32 last) ≡ true = and_right (leb (length s) w) (all_plain s && ltb 32 last) f in
      let h : 32 < last = ltb-true 32 last (and_right (all_plain s) (ltb 32 last) g) in
      record {
        some = ltb-true 0 (length s) (and_left (ltb 0 (length s)) behind e);
        fits_width = leb-true (length s) w (and_left (leb (length s) w) (all_plain s && ltb 32 last) f);
        plain = plain_so s (and_left (all_plain s) (ltb 32 last) g);
        no_space = λ q. omega arith;
      }

  so_text : TextFit w s → text_fits w s ≡ true
  unfolding text_fits
  so_text h =
      let n : 1 ≤ length s = h.some in
      let l : 32 ≤ last = h.plain (length s - 1) (omega arith) in
      let m : 32 < last = ⊎_elim (λ e. absurd (h.no_space (sym e))) (λ n. n) (eq-or-lt_of_le l) in
      and_true (ltb 0 (length s)) behind (lt-ltb 0 (length s) n)
      (and_true (leb (length s) w) (all_plain s && ltb 32 last) (le-leb (length s) w h.fits_width)
      (and_true (all_plain s) (ltb 32 last) (so_plain s h.plain) (lt-ltb 32 last m)))

  -- A TEXT FITS exactly when it has 1 to w bytes of 32 to 255 and no space at its end
  pub text_fits_exactly : (text_fits w s ≡ true) ↔ TextFit w s
  text_fits_exactly = (text_so, so_text)

-- ---- A VALUE, both ways
module _ (t : List ℤ) (v : ℕ) (r : Row) where
  abbrev ok : ℤ → Bool
  ok = legal t v r

  no_many : {k : Kind} {x : Value} → (takes k ≡ 2 → ⊥) → Many k x → ⊥
  unfolding takes
  no_many h (many l) = h refl

  no_many_bits : {x : Value} → Many (Multiple Bits) x → ⊥
  no_many_bits q = by q refl where
    by : {k : Kind} {x : Value} → Many k x → k ≡ Multiple Bits → ⊥
    by (many l) e = let z : ◌≡◌ {A = ℕ} 0 1 = cc in omega arith

  code_fit : (z : ℤ) → Fitting t v r Single (number z) (legal_fit (ok z))
  unfolding legal_fit takes sort
  code_fit z = by (ok z) refl where
    by : (b : Bool) → ok z ≡ b → Fitting t v r Single (number z) (legal_fit b)
    by true e = fitting (a_code e) (no_many {k = Single} (λ q. omega arith))
    by false e = not_legal_lem refl (λ l. of l) where
      of : Legal t v r Single (number z) → ⊥
      of (a_code f) = holds_not f e

  quantity_fit : (f : Format) (z : ℤ) → Fitting t v r (Quantity f) (number z) (legal_fit (ok z))
  unfolding legal_fit takes sort
  quantity_fit f z = by (ok z) refl where
    by : (b : Bool) → ok z ≡ b → Fitting t v r (Quantity f) (number z) (legal_fit b)
    by true e = fitting (a_quantity e) (no_many {k = Quantity f} (λ q. omega arith))
    by false e = not_legal_lem refl (λ l. of l) where
      of : Legal t v r (Quantity f) (number z) → ⊥
      of (a_quantity g) = holds_not g e

  set_legal : {s : Spread} {ms : List ℤ} → Legal t v r (Multiple s) (members ms) → set_fits ok ms ≡ true
  set_legal {s} {ms} (a_set q h) = so_set ok ms q h

  legal_set : (s : Spread) (ms : List ℤ) → set_fits ok ms ≡ true → Legal t v r (Multiple s) (members ms)
  legal_set s ms e = a_set (set_so ok ms e).0 (set_so ok ms e).1

  bits_fit : (ms : List ℤ) → Fitting t v r (Multiple Bits) (members ms) (legal_fit (set_fits ok ms))
  unfolding legal_fit takes sort
  bits_fit ms = by (set_fits ok ms) refl where
    by : (b : Bool) → set_fits ok ms ≡ b → Fitting t v r (Multiple Bits) (members ms) (legal_fit b)
    by true e = fitting (legal_set Bits ms e) no_many_bits
    by false e = not_legal_lem refl (λ l. holds_not (set_legal l) e)

  spread_fit : (n b : ℕ) (ms : List ℤ)
      → Fitting t v r (Multiple (Fields n b)) (members ms) (cond (set_fits ok ms) (cond (ltb n (length ms)) too_many fits) not_legal)
  unfolding takes sort
  spread_fit n b ms = by (set_fits ok ms) (ltb n (length ms)) refl refl where
    few : ltb n (length ms) ≡ false → Many (Multiple (Fields n b)) (members ms) → ⊥
    few e (many l) = omega (arith, ltb-false n (length ms) e)

    by : (p q : Bool) → set_fits ok ms ≡ p → ltb n (length ms) ≡ q
        → Fitting t v r (Multiple (Fields n b)) (members ms) (cond p (cond q too_many fits) not_legal)
    by true true e f = too_many_lem (legal_set (Fields n b) ms e) (many (ltb-true n (length ms) f))
    by true false e f = fitting (legal_set (Fields n b) ms e) (few f)
    by false q e f = not_legal_lem refl (λ l. holds_not (set_legal l) e)

  text_fit : (x : List ℕ) → Fitting t v r Character (text x) (legal_fit (text_fits r.width x))
  unfolding legal_fit takes sort
  text_fit x = by (text_fits r.width x) refl where
    of : text_fits r.width x ≡ false → Legal t v r Character (text x) → ⊥
    of e (a_text h) = holds_not (so_text r.width x h) e

    by : (b : Bool) → text_fits r.width x ≡ b → Fitting t v r Character (text x) (legal_fit b)
    by true e = fitting (a_text (text_so r.width x e)) (no_many {k = Character} (λ q. omega arith))
    by false e = not_legal_lem refl (of e)

  alien : (k : Kind) (x : Value) → (sort x ≡ 0 → ⊥) → (takes k ≡ sort x → ⊥) → Fitting t v r k x other_type
  alien k x f g = of_another f g

  pub fit_named : (k : Kind) (x : Value) → Fitting t v r k x (fits_by k t v r x)
  unfolding fits_by takes sort
  fit_named k missing = always
  fit_named Single (number z) = code_fit z
  fit_named (Quantity f) (number z) = quantity_fit f z
  fit_named (Multiple s) (number z) = alien (Multiple s) (number z) (λ e. omega arith) (λ e. omega arith)
  fit_named Character (number z) = alien Character (number z) (λ e. omega arith) (λ e. omega arith)
  fit_named Logical (number z) = alien Logical (number z) (λ e. omega arith) (λ e. omega arith)
  fit_named (Multiple Bits) (members ms) = bits_fit ms
  fit_named (Multiple (Fields n b)) (members ms) = spread_fit n b ms
  fit_named Single (members ms) = alien Single (members ms) (λ e. omega arith) (λ e. omega arith)
  fit_named (Quantity f) (members ms) = alien (Quantity f) (members ms) (λ e. omega arith) (λ e. omega arith)
  fit_named Character (members ms) = alien Character (members ms) (λ e. omega arith) (λ e. omega arith)
  fit_named Logical (members ms) = alien Logical (members ms) (λ e. omega arith) (λ e. omega arith)
  fit_named Character (text s) = text_fit s
  fit_named Single (text s) = alien Single (text s) (λ e. omega arith) (λ e. omega arith)
  fit_named (Multiple s) (text x) = alien (Multiple s) (text x) (λ e. omega arith) (λ e. omega arith)
  fit_named (Quantity f) (text s) = alien (Quantity f) (text s) (λ e. omega arith) (λ e. omega arith)
  fit_named Logical (text s) = alien Logical (text s) (λ e. omega arith) (λ e. omega arith)
  fit_named Logical (truth b) = fitting a_truth (no_many {k = Logical} (λ q. omega arith))
  fit_named Single (truth b) = alien Single (truth b) (λ e. omega arith) (λ e. omega arith)
  fit_named (Multiple s) (truth b) = alien (Multiple s) (truth b) (λ e. omega arith) (λ e. omega arith)
  fit_named (Quantity f) (truth b) = alien (Quantity f) (truth b) (λ e. omega arith) (λ e. omega arith)
  fit_named Character (truth b) = alien Character (truth b) (λ e. omega arith) (λ e. omega arith)

  -- a legal value is of the row's own type, and no row takes missing alone
  legal_own : {k : Kind} {x : Value} → Legal t v r k x → takes k ≡ sort x
  unfolding takes sort
  legal_own (a_code e) = refl
  legal_own (a_quantity e) = refl
  legal_own (a_set q h) = refl
  legal_own (a_text h) = refl
  legal_own a_truth = refl

  takes_some : (k : Kind) → 1 ≤ takes k
  unfolding takes
  takes_some Single = omega arith
  takes_some (Quantity f) = omega arith
  takes_some (Multiple s) = omega arith
  takes_some Character = omega arith
  takes_some Logical = omega arith

  -- two of them are one
  pub fit_once : {k : Kind} {x : Value} {f g : Fit} → Fitting t v r k x f → Fitting t v r k x g → f ≡ g
  unfolding sort
  fit_once always always = refl
  fit_once always (fitting l m) = refl
  fit_once always (of_another n o) = absurd (n refl)
  fit_once {k} always (not_legal_lem o l) = absurd (omega (arith, takes_some k))
  fit_once {k} always (too_many_lem l m) = absurd (omega (arith, takes_some k, legal_own l))
  fit_once (fitting l m) always = refl
  fit_once (fitting l m) (fitting l' m') = refl
  fit_once (fitting l m) (of_another n o) = absurd (o (legal_own l))
  fit_once (fitting l m) (not_legal_lem o n) = absurd (n l)
  fit_once (fitting l m) (too_many_lem l' q) = absurd (m q)
  fit_once (of_another n o) always = absurd (n refl)
  fit_once (of_another n o) (fitting l m) = absurd (o (legal_own l))
  fit_once (of_another n o) (of_another n' o') = refl
  fit_once (of_another n o) (not_legal_lem q l) = absurd (o q)
  fit_once (of_another n o) (too_many_lem l m) = absurd (o (legal_own l))
  fit_once {k} (not_legal_lem o l) always = absurd (omega (arith, takes_some k))
  fit_once (not_legal_lem o n) (fitting l m) = absurd (n l)
  fit_once (not_legal_lem q l) (of_another n o) = absurd (o q)
  fit_once (not_legal_lem o l) (not_legal_lem o' l') = refl
  fit_once (not_legal_lem o n) (too_many_lem l m) = absurd (n l)
  fit_once {k} (too_many_lem l m) always = absurd (omega (arith, takes_some k, legal_own l))
  fit_once (too_many_lem l q) (fitting l' m) = absurd (m q)
  fit_once (too_many_lem l m) (of_another n o) = absurd (o (legal_own l))
  fit_once (too_many_lem l m) (not_legal_lem o n) = absurd (n l)
  fit_once (too_many_lem l m) (too_many_lem l' m') = refl

  -- EXACTLY WHEN: a value fits, is of another type (26), not legal (27) or of too many members (28)
  pub fit_only : {k : Kind} {x : Value} {f : Fit} → Fitting t v r k x f → fits_by k t v r x ≡ f
  fit_only {k} {x} q = fit_once (fit_named k x) q
