-- `import_lines::stride_of` meets its contract.
use native.Mathlib.Omega.{arith}
use borrow.Author.Tests.{eq-eqb, ne_eqb}
use Rattle.import_lines.specs.Undoubled.{stride}
use Rattle.import_lines.proofs.stride_of.Goals as goal

pub returns-then-b-eq34 : goal.returns-then-b-eq34
unfolding stride
returns-then-b-eq34 c = (rw (eq-eqb _ _ c.if-b-eq34.true), omega arith, omega arith)

pub returns-else-b-eq34 : goal.returns-else-b-eq34
unfolding stride
returns-else-b-eq34 c = (rw (ne_eqb _ _ c.if-b-eq34.false), omega arith, omega arith)
