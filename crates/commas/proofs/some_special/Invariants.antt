-- `commas::some_special` meets its contract. The invariant: no byte so far is one of the four.
use mathlib.Core.Path.{◌≡◌}
use lib.ListN.{drop}
use Rattle.commas.specs.rule.Csv.{holds_special}
use Rattle.commas.proofs.some_special.Given as goal

abbrev pub invariant-loop-i : goal.invariant-loop-i
invariant-loop-i l = holds_special (drop l.from l.s) ≡ holds_special (drop l.i l.s)
