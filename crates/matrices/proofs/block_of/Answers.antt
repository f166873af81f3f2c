-- `matrices::block_of` meets its contract: no more than there are, and at least one of them.
-- Assumes nothing.
use native.Mathlib.Nat.{div-le_self}
use native.Mathlib.Omega.{arith}
use Rattle.matrices.proofs.block_of.Goals as goal

pub returns-then-records-lt256 : goal.returns-then-records-lt256
returns-then-records-lt256 c = (omega arith, λ x. x)

pub returns-then-columns-gt2048 : goal.returns-then-columns-gt2048
returns-then-columns-gt2048 c = (omega arith, λ x. x)

pub returns-then-rows-lt64 : goal.returns-then-rows-lt64
returns-then-rows-lt64 c = (omega arith, λ x. x)

pub nonzero_div-columns : goal.nonzero_div-columns
nonzero_div-columns c = omega (arith, c.requires)

pub overflow_add-columns : goal.overflow_add-columns
overflow_add-columns c = omega (arith, div-le_self 16384 c.args.columns)

pub returns : goal.returns
returns c = (omega (arith, c.min.ensures), λ x. omega (arith, c.min.ensures))
