use borrow.Author.Tests.{eq-eqb, ne_eqb}
use Rattle.forms.specs.rule.Form.{fits_of}
use Rattle.forms.proofs.fits.Goals as goal

pub returns-then-form-eq0 : goal.returns-then-form-eq0
unfolding fits_of
returns-then-form-eq0 c = rw (eq-eqb _ 0 c.if-form-eq0.true)

pub returns-then-form-eq1 : goal.returns-then-form-eq1
unfolding fits_of
returns-then-form-eq1 c = rw (ne_eqb _ 0 c.if-form-eq0.false, eq-eqb _ 1 c.if-form-eq1.true, c.count_in.ensures)

pub returns-then-form-eq2 : goal.returns-then-form-eq2
unfolding fits_of
returns-then-form-eq2 c = rw (
  ne_eqb _ 0 c.if-form-eq0.false,
  ne_eqb _ 1 c.if-form-eq1.false,
  eq-eqb _ 2 c.if-form-eq2.true,
  c.count_in-then-form-eq2.ensures,
)

pub returns-then-form-eq3 : goal.returns-then-form-eq3
unfolding fits_of
returns-then-form-eq3 c = rw (
  ne_eqb _ 0 c.if-form-eq0.false,
  ne_eqb _ 1 c.if-form-eq1.false,
  ne_eqb _ 2 c.if-form-eq2.false,
  eq-eqb _ 3 c.if-form-eq3.true,
  c.count_in-then-form-eq3.ensures,
)

pub returns-then-form-eq4 : goal.returns-then-form-eq4
unfolding fits_of
returns-then-form-eq4 c = rw (
  ne_eqb _ 0 c.if-form-eq0.false,
  ne_eqb _ 1 c.if-form-eq1.false,
  ne_eqb _ 2 c.if-form-eq2.false,
  ne_eqb _ 3 c.if-form-eq3.false,
  eq-eqb _ 4 c.if-form-eq4.true,
  c.kind_in.ensures,
)

pub returns-then-form-eq5 : goal.returns-then-form-eq5
unfolding fits_of
returns-then-form-eq5 c = rw (
  ne_eqb _ 0 c.if-form-eq0.false,
  ne_eqb _ 1 c.if-form-eq1.false,
  ne_eqb _ 2 c.if-form-eq2.false,
  ne_eqb _ 3 c.if-form-eq3.false,
  ne_eqb _ 4 c.if-form-eq4.false,
  eq-eqb _ 5 c.if-form-eq5.true,
  c.use_in.ensures,
)

pub returns : goal.returns
unfolding fits_of
returns c =
    rw (
      ne_eqb _ 0 c.if-form-eq0.false,
      ne_eqb _ 1 c.if-form-eq1.false,
      ne_eqb _ 2 c.if-form-eq2.false,
      ne_eqb _ 3 c.if-form-eq3.false,
      ne_eqb _ 4 c.if-form-eq4.false,
      ne_eqb _ 5 c.if-form-eq5.false,
    ) c.is_word.ensures
