-- `texts::form_sign` meets its contract.
use mathlib.Core.Path.{◌∙◌, sym}
use native.Mathlib.Omega.{arith}
use borrow.Author.Tests.{eq-eqb, ne_eqb}
use Rattle.texts.specs.Measured.{form_sign}
use Rattle.texts.proofs.form_sign.Goals as goal

pub returns-then-b-eq78 : goal.returns-then-b-eq78
unfolding form_sign
returns-then-b-eq78 c = rw (eq-eqb _ 78 c.if-b-eq78.true)

pub returns-then-marked : goal.returns-then-marked
unfolding form_sign
returns-then-marked c = rw (ne_eqb _ 78 c.if-b-eq78.false, sym c.marked.ensures ∙ c.if-marked.true)

pub hex_value-high-requires : goal.hex_value-high-requires
hex_value-high-requires c = record {
  classes = c.requires.classes;
  b_value = (c.requires.form.hex c.if-b-eq78.false
      (sym c.marked.ensures ∙ c.if-marked.false)).0;
}

pub hex_value-requires : goal.hex_value-requires
hex_value-requires c = record {
  classes = c.requires.classes;
  b_value = (c.requires.form.hex c.if-b-eq78.false (sym c.marked.ensures ∙ c.if-marked.false)).1;
}

pub returns : goal.returns
unfolding form_sign
returns c =
    rw (
      ne_eqb _ 78 c.if-b-eq78.false,
      sym c.marked.ensures ∙ c.if-marked.false,
      c.hex_value-high.ensures.0,
      c.hex_value.ensures.0,
    )

pub overflow_add-b : goal.overflow_add-b
overflow_add-b c = omega (arith, c.requires.form.room)

pub bounds-s-n : goal.bounds-s-n
bounds-s-n c = omega (arith, c.requires.form.room)

pub overflow_mul-result : goal.overflow_mul-result
overflow_mul-result c = omega (arith, c.hex_value-high.ensures.1)

pub overflow_add-n : goal.overflow_add-n
overflow_add-n c = omega (arith, c.requires.form.room)

pub bounds-s-n-2 : goal.bounds-s-n-2
bounds-s-n-2 c = omega (arith, c.requires.form.room)

pub overflow_add-result : goal.overflow_add-result
overflow_add-result c = omega (arith, c.hex_value-high.ensures.1, c.hex_value.ensures.1)
