-- `texts::completed` meets its contract, case by case.
use native.Mathlib.Omega.{arith}
use borrow.Author.Tests.{eq-eqb, ne_eqb}
use Rattle.marks.specs.rule.Spelling.{gives_of}
use Rattle.texts.specs.Measured.{completes}
use Rattle.texts.proofs.completed.Goals as goal

pub returns-then-b-eq34 : goal.returns-then-b-eq34
unfolding completes gives_of
returns-then-b-eq34 c = (rw (c.in-Opened.is, eq-eqb _ 34 c.if-b-eq34.true), omega arith)

pub returns-then-b-eq123 : goal.returns-then-b-eq123
unfolding completes gives_of
returns-then-b-eq123 c = (rw (c.in-Plain.is, eq-eqb _ 123 c.if-b-eq123.true), omega arith)

pub returns-else-b-eq123 : goal.returns-else-b-eq123
unfolding completes gives_of
returns-else-b-eq123 c = (rw (c.in-Plain.is, ne_eqb _ 123 c.if-b-eq123.false), omega arith)

pub returns-then-b-eq123-2 : goal.returns-then-b-eq123-2
unfolding completes gives_of
returns-then-b-eq123-2 c = (rw (c.in-Opened.is, ne_eqb _ 34 c.if-b-eq34.false, eq-eqb _ 123 c.if-b-eq123-2.true), omega arith)

pub returns-else-b-eq123-2 : goal.returns-else-b-eq123-2
unfolding completes gives_of
returns-else-b-eq123-2 c = (rw (c.in-Opened.is, ne_eqb _ 34 c.if-b-eq34.false, ne_eqb _ 123 c.if-b-eq123-2.false), omega arith)

pub returns-in-Shut : goal.returns-in-Shut
unfolding completes gives_of
returns-in-Shut c = (rw c.in-Shut.is, omega arith)

pub returns-in-Ell : goal.returns-in-Ell
unfolding completes gives_of
returns-in-Ell c = (rw c.in-Ell.is, omega arith)

pub returns-in-Pair : goal.returns-in-Pair
unfolding completes gives_of
returns-in-Pair c = (rw c.in-Pair.is, omega arith)

pub returns-in-Low : goal.returns-in-Low
unfolding completes gives_of
returns-in-Low c = (rw c.in-Low.is, omega arith)
