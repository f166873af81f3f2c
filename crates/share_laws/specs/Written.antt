-- "Written with no digit before the point": an optional minus, a point, digits. What the reader calls bare is just so written.
use Rattle.std.specs.Prelude.{◌≡◌, refl, Bool, cond, ℕ, ◌<◌, eqb}
use Rattle.std.proofs.Math.Path.{sym, ap}
use Rattle.std.proofs.Common.{◌∙◌, arith}
use Rattle.std.proofs.Math.Bool.{true, false}
use mathlib.Core.List.{List, [], ◌∷◌, ◌++◌, append-nil}
use borrow.Author.Tests.{eqb-true, ltb-true, lt-ltb}
use Rattle.std.proofs.Math.ListN.{length}
use Rattle.below.specs.Below.{and_left, and_right, holds_not}
use Rattle.ascii.specs.rule.Class.{class_of}
use Rattle.scan.specs.rule.Number.{is_digit}
use Rattle.survey.specs.rule.Width.{bare}
use Rattle.reading.specs.rule.Token.{leading, after_point, begins, without, amount_read}

-- ---- the words
pub data Digits : List ℕ → Type 0 where
  none : Digits []
  more : {b : ℕ} {s : List ℕ} → is_digit b ≡ true → Digits s → Digits (b ∷ s)

abbrev pub perhaps : Bool → List ℕ
perhaps true = 45 ∷ []
perhaps false = []

-- a minus or none, a point, digits, at least one
pub record Bare (s : List ℕ) : Type 0 where
  pub minus : Bool
  pub decimals : List ℕ
  pub run : s ≡ perhaps minus ++ 46 ∷ decimals
  pub digits : Digits decimals
  pub some : 0 < length decimals

-- ---- runs, taken apart
parts : (s : List ℕ) → leading s ++ after_point s ≡ s
unfolding leading after_point
parts [] = refl
parts (b ∷ s) = by (is_digit b) (parts s) where
  by : (x : Bool) → leading s ++ after_point s ≡ s → cond x (b ∷ leading s) [] ++ cond x (after_point s) (b ∷ s) ≡ b ∷ s
  by true e = ap (λ (l : List ℕ). b ∷ l) e
  by false e = refl

leading_digits : (s : List ℕ) → Digits (leading s)
unfolding leading
leading_digits [] = none
leading_digits (b ∷ s) = by (is_digit b) refl (leading_digits s) where
  by : (x : Bool) → is_digit b ≡ x → Digits (leading s) → Digits (cond x (b ∷ leading s) [])
  by true e d = more e d
  by false e d = none

empty : (s : List ℕ) → length s ≡ 0 → s ≡ []
empty [] e = refl
empty (b ∷ s) e = absurd (omega arith)

-- digits are led by themselves, and nothing stands behind them
leads : {s : List ℕ} → Digits s → leading s ≡ s
unfolding leading
leads none = refl
leads (more {b} {s} e d) = rw e (ap (λ (l : List ℕ). b ∷ l) (leads d))

none_behind : {s : List ℕ} → Digits s → after_point s ≡ []
unfolding after_point
none_behind none = refl
none_behind (more {b} {s} e d) = rw e (none_behind d)

dot_not : is_digit 46 ≡ false
unfolding is_digit class_of
dot_not = refl

-- what begins with a byte is it, and what is left without it
begun : (c : ℕ) (s : List ℕ) → begins c s ≡ true → s ≡ c ∷ without c s
unfolding begins without
begun c [] e = holds_not e refl
begun c (b ∷ s) e = rw (e, eqb-true b c e)

not_begun : (c : ℕ) (s : List ℕ) → begins c s ≡ false → without c s ≡ s
unfolding begins without
not_begun c [] e = refl
not_begun c (b ∷ s) e = rw e

signed : (s : List ℕ) → s ≡ perhaps (begins 45 s) ++ without 45 s
signed s = by (begins 45 s) refl where
  by : (x : Bool) → begins 45 s ≡ x → s ≡ perhaps x ++ without 45 s
  by true e = begun 45 s e
  by false e = sym (not_begun 45 s e)

-- ---- both ways
module _ (place end : ℕ) (s : List ℕ) where
  abbrev unsigned : List ℕ
  unsigned = without 45 s

  abbrev fraction : List ℕ
  fraction = after_point unsigned

  abbrev tail : List ℕ
  tail = without 46 fraction

  pub bare_written : (amount_read place end s).formed ≡ true → bare (amount_read place end s) ≡ true → Bare s
  unfolding amount_read
  bare_written formed b =
      let dot = and_left (begins 46 fraction) (eqb (length (leading unsigned)) 0) b in
      let no_whole = empty (leading unsigned) (eqb-true _ 0 (and_right (begins 46 fraction) (eqb (length (leading unsigned)) 0) b)) in
      let whole : unsigned ≡ fraction = sym (parts unsigned) ∙ ap (λ (l : List ℕ). l ++ fraction) no_whole in
      let stop = empty (after_point tail) (eqb-true _ 0 (and_left (eqb (length (after_point tail)) 0) _ formed)) in
      let all : tail ≡ leading tail = sym (parts tail) ∙ ap (λ (l : List ℕ). leading tail ++ l) stop ∙ append-nil (leading tail) in
      let count : 0 < length (leading unsigned ++ leading tail) = ltb-true 0 _ (and_right (eqb (length (after_point tail)) 0) _ formed) in
      let here : 0 < length (leading tail) = rw no_whole at count in
      record {
        minus = begins 45 s;
        decimals = leading tail;
        run = signed s ∙ ap (λ (l : List ℕ). perhaps (begins 45 s) ++ l) (whole ∙ begun 46 fraction dot ∙ ap (λ (l : List ℕ). 46 ∷ l) all);
        digits = leading_digits tail;
        some = here;
      }

  written_bare : (m : Bool) (ds : List ℕ) → s ≡ perhaps m ++ 46 ∷ ds → Digits ds → 0 < length ds
      → ((amount_read place end s).formed ≡ true) × (bare (amount_read place end s) ≡ true)
  unfolding amount_read without begins leading after_point
  written_bare true ds e d h =
      rw (e, dot_not, leads d, none_behind d)
      (lt-ltb 0 (length ds) h, refl)
  written_bare false ds e d h =
      rw (e, dot_not, leads d, none_behind d)
      (lt-ltb 0 (length ds) h, refl)

  -- A NUMBER IN FORM IS BARE EXACTLY WHEN it is an optional minus, a point, digits
  pub bare_exactly : (((amount_read place end s).formed ≡ true) × (bare (amount_read place end s) ≡ true) → Bare s)
      × (Bare s → ((amount_read place end s).formed ≡ true) × (bare (amount_read place end s) ≡ true))
  bare_exactly = (λ h. bare_written h.0 h.1, λ b. written_bare b.minus b.decimals b.run b.digits b.some)
