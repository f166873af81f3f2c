-- `matrices::too_large` meets its contract: by the columns alone, or by a division.
-- Assumes nothing.
use mathlib.Core.Path.{refl, sym}
use Rattle.matrices.specs.Written.{large_columns, large_records}
use Rattle.matrices.proofs.too_large.Goals as goal

pub returns-then-columns-gt699049 : goal.returns-then-columns-gt699049
returns-then-columns-gt699049 c = sym (large_columns c.args.records c.args.columns c.if-columns-gt699049.true)

pub returns : goal.returns
returns c = large_records c.args.records c.args.columns c.requires.0 c.if-columns-gt699049.false _ refl
