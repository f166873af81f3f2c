-- What holds of each byte of a stretch.
use Rattle.std.specs.Prelude.{◌≡◌, true, not, ◌&&◌, List, ℕ, zero, suc, ◌+◌, ◌-◌, ◌≤◌, ◌<◌, length, get_or, eqb, leb}
use Rattle.std.proofs.Common.{◌∙◌, ⊎_elim, arith, leb-true}
use Rattle.std.proofs.lemmas.Bool.{eqb-false, not-true}
use Rattle.below.specs.Below.{lt_or_le, and_left, and_right}
use Rattle.scan.specs.rule.Number.{is_value}
use Rattle.looks.specs.Plain.{Plain}

pub record Each (f : ℕ → Type 0) (a e : ℕ) : Type 0 where
  pub on : a ≤ e
  pub each : (j : ℕ) → a ≤ j → j < e → f j

pub each_none : (f : ℕ → Type 0) (a : ℕ) → Each f a a
each_none f a = record { on = omega arith; each = λ j h g. absurd (omega arith) }

pub each_then : {f : ℕ → Type 0} {a b e : ℕ} → Each f a b → Each f b e → Each f a e
each_then {b = b} x y = record {
  on = omega (arith, x.on, y.on);
  each = λ j h g. ⊎_elim (λ l. x.each j h l) (λ l. y.each j l g) (lt_or_le j b);
}

pub each_one : {f : ℕ → Type 0} {a : ℕ} → f a → Each f a (a + 1)
each_one {a = a} x = record { on = omega arith; each = λ j h g. let q : j ≡ a = omega arith in rw q x }

pub each_more : {f : ℕ → Type 0} {a e : ℕ} → Each f a e → f e → Each f a (e + 1)
each_more x y = each_then x (each_one y)

pub each_as : {f g : ℕ → Type 0} {a e : ℕ} → ((j : ℕ) → f j → g j) → Each f a e → Each g a e
each_as t x = record { on = x.on; each = λ j h g. t j (x.each j h g) }

-- what such a byte changes nothing of is the same at both ends
module _ {A : Type 0} {f : ℕ → Type 0} (g : ℕ → A) (step : (j : ℕ) → f j → g j ≡ g (j + 1)) where
  same_over : (k a e : ℕ) → a + k ≡ e → Each f a e → g a ≡ g e
  same_over zero a e q x = let z : a ≡ e = omega arith in rw z
  same_over (suc k) a e q x =
      step a (x.each a (omega arith) (omega arith))
      ∙ same_over k (a + 1) e (omega arith) (record { on = omega arith; each = λ j h i. x.each j (omega arith) i })

  pub each_same : {a e : ℕ} → Each f a e → g a ≡ g e
  each_same {a} {e} x = same_over (e - a) a e (omega (arith, x.on)) x

-- a byte that is kept
pub record Kept (d : List ℕ) (j : ℕ) : Type 0 where
  pub within : j < length d
  pub above : 32 ≤ get_or d j 0

pub kept_plain : {d : List ℕ} {a e : ℕ} → Each (Kept d) a e → e ≤ length d → Plain d a e
kept_plain x h = record { on = x.on; within = h; above = λ j g k. (x.each j g k).above }

-- a byte at which a text goes on: it is kept, and neither a quote nor an opening brace
pub record OnByte (b : ℕ) : Type 0 where
  pub above : 32 ≤ b
  pub no_quote : b ≡ 34 → ⊥
  pub no_brace : b ≡ 123 → ⊥

pub record On (d : List ℕ) (j : ℕ) : Type 0 where
  pub within : j < length d
  pub byte : OnByte (get_or d j 0)

pub on_tested : (d : List ℕ) (j : ℕ) → j < length d
    → (not (eqb (get_or d j 0) 34) && (not (eqb (get_or d j 0) 123) && leb 32 (get_or d j 0))) ≡ true → On d j
on_tested d j h e =
    let b = get_or d j 0 in
    let r = and_right (not (eqb b 34)) (not (eqb b 123) && leb 32 b) e in
    record {
      within = h;
      byte = record {
        above = leb-true 32 b (and_right (not (eqb b 123)) (leb 32 b) r);
        no_quote = eqb-false b 34 (not-true (eqb b 34) (and_left (not (eqb b 34)) (not (eqb b 123) && leb 32 b) e));
        no_brace = eqb-false b 123 (not-true (eqb b 123) (and_left (not (eqb b 123)) (leb 32 b) r));
      };
    }

pub on_kept : {d : List ℕ} {a e : ℕ} → Each (On d) a e → Each (Kept d) a e
on_kept = each_as (λ j o. record { within = o.within; above = o.byte.above })

-- a byte of a value
pub record ValueAt (d : List ℕ) (j : ℕ) : Type 0 where
  pub within : j < length d
  pub is : is_value (get_or d j 0) ≡ true
