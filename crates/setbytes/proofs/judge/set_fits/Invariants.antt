-- `setbytes::judge::set_fits` meets its contract. The invariant: the set may be written where the members that are left may.
use mathlib.Core.Path.{◌≡◌}
use Rattle.fields.specs.rule.Legal.{legal}
use Rattle.fields.specs.rule.Field.{set_fits}
use Rattle.setbytes.proofs.JudgeSteps.{good_from}
use Rattle.setbytes.proofs.judge.set_fits.Given as goal

abbrev pub invariant-loop-i : goal.invariant-loop-i
invariant-loop-i l = set_fits (legal l.t l.rows l.row) l.list ≡ good_from (legal l.t l.rows l.row) l.list l.i
