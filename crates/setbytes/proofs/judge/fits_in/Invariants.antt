-- `setbytes::judge::fits_in` meets its contract. The invariant: the set rises between the two where the members that are left do.
use mathlib.Core.Path.{◌≡◌}
use Rattle.fields.specs.rule.Field.{set_fits}
use Rattle.setbytes.specs.Sets.{within}
use Rattle.setbytes.proofs.JudgeSteps.{good_from}
use Rattle.setbytes.proofs.judge.fits_in.Given as goal

abbrev pub invariant-loop-i : goal.invariant-loop-i
invariant-loop-i l = set_fits (within l.from l.to) l.list ≡ good_from (within l.from l.to) l.list l.i
