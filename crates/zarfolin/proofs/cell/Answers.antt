-- `zarfolin::cell` meets its contract.
use native.Mathlib.Omega.{arith}
use borrow.Author.Tests.{lt-ltb, le-ltb}
use mir.Syntax.{w64}
use mir.ValLaws.{to_z_pos}
use Rattle.record_values.specs.rule.Record.{cell_of}
use Rattle.zarfolin.proofs.cell.Goals as goal

pub returns-then-n-lt9223372036854775807 : goal.returns-then-n-lt9223372036854775807
unfolding cell_of
returns-then-n-lt9223372036854775807 c = rw (lt-ltb _ _ c.if-n-lt9223372036854775807.true) (to_z_pos w64 _ (omega arith))

pub returns-else-n-lt9223372036854775807 : goal.returns-else-n-lt9223372036854775807
unfolding cell_of
returns-else-n-lt9223372036854775807 c = rw (le-ltb _ _ c.if-n-lt9223372036854775807.false)
