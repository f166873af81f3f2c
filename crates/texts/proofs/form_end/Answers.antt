-- `texts::form_end` meets its contract.
use mathlib.Core.Path.{refl, ◌∙◌, sym}
use mathlib.Core.Logic.{inl, inr}
use native.Mathlib.Omega.{arith}
use Rattle.texts.proofs.Shorts.{mark_form, line_form, pair_form}
use Rattle.texts.proofs.form_end.Goals as goal

pub returns-then-c-eq125 : goal.returns-then-c-eq125
returns-then-c-eq125 c = inr (mark_form _ _ (omega (arith, c.requires.n_in_bounds))
    c.if-s-n-ne123.false (sym c.marked.ensures ∙ c.if-marked.true)
    c.if-c-eq125.true)

pub returns-then-c-eq76 : goal.returns-then-c-eq76
returns-then-c-eq76 c =
    inr (line_form _ _ (omega (arith, c.requires.n_in_bounds))
    c.if-s-n-ne123.false c.if-b-eq78.true c.if-c-eq76.true c.if-s-n-ne125.false)

pub returns-then-is_hex : goal.returns-then-is_hex
returns-then-is_hex c =
    inr (pair_form _ _ (omega (
      arith,
      c.requires.n_in_bounds,
    )) c.if-s-n-ne123.false c.if-b-eq78.false (sym c.marked.ensures ∙ c.if-marked.false)
    (sym c.is_hex.ensures ∙ c.if-not-is_hex.false)
    (sym c.is_hex-2.ensures ∙ c.if-is_hex.true) c.if-s-n-ne125.false)

pub overflow_sub-s : goal.overflow_sub-s
overflow_sub-s c = omega (arith, c.requires.n_in_bounds)

pub returns-then-s-n-lt4 : goal.returns-then-s-n-lt4
returns-then-s-n-lt4 c = inl refl

pub bounds-s-n : goal.bounds-s-n
bounds-s-n c = omega (arith, c.requires.n_in_bounds)

pub returns-then-s-n-ne123 : goal.returns-then-s-n-ne123
returns-then-s-n-ne123 c = inl refl

pub overflow_add-b : goal.overflow_add-b
overflow_add-b c = omega (arith, c.requires.n_in_bounds)

pub bounds-s-n-2 : goal.bounds-s-n-2
bounds-s-n-2 c = omega (arith, c.requires.n_in_bounds)

pub overflow_add-c : goal.overflow_add-c
overflow_add-c c = omega (arith, c.requires.n_in_bounds)

pub bounds-s-n-3 : goal.bounds-s-n-3
bounds-s-n-3 c = omega (arith, c.requires.n_in_bounds)

pub overflow_add-result : goal.overflow_add-result
overflow_add-result c = omega (arith, c.requires.n_in_bounds)

pub returns-else-c-eq125 : goal.returns-else-c-eq125
returns-else-c-eq125 c = inl refl

pub overflow_add-n : goal.overflow_add-n
overflow_add-n c = omega (arith, c.requires.n_in_bounds)

pub bounds-s-n-4 : goal.bounds-s-n-4
bounds-s-n-4 c = omega (arith, c.requires.n_in_bounds)

pub returns-then-s-n-ne125 : goal.returns-then-s-n-ne125
returns-then-s-n-ne125 c = inl refl

pub overflow_add-result-then-c-eq76 : goal.overflow_add-result-then-c-eq76
overflow_add-result-then-c-eq76 c = omega (arith, c.requires.n_in_bounds)

pub returns-else-c-eq76 : goal.returns-else-c-eq76
returns-else-c-eq76 c = inl refl

pub is_hex-requires : goal.is_hex-requires
is_hex-requires c = c.requires.classes

pub returns-then-not-is_hex : goal.returns-then-not-is_hex
returns-then-not-is_hex c = inl refl

pub is_hex-requires-2 : goal.is_hex-requires-2
is_hex-requires-2 c = c.requires.classes

pub overflow_add-result-then-is_hex : goal.overflow_add-result-then-is_hex
overflow_add-result-then-is_hex c = omega (
  arith,
  c.requires.n_in_bounds,
)

pub returns-else-is_hex : goal.returns-else-is_hex
returns-else-is_hex c = inl refl
