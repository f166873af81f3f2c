-- `record_values::sets_fit` meets its contract: whatever the record holds, or by the count.
use mathlib.Core.Path.{sym}
use borrow.Author.Tests.{le-leb}
use Rattle.record_values.proofs.sets_fit.Goals as goal

pub returns-then-always_fits : goal.returns-then-always_fits
returns-then-always_fits c = sym (le-leb _ _ (c.always_fits.ensures c.if-always_fits.true _))
