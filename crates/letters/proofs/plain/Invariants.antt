-- `letters::plain` meets its contract. The invariant: what is left is plain just where the whole is.
use mathlib.Core.Path.{◌≡◌}
use lib.ListN.{drop}
use Rattle.fields.specs.rule.Field.{all_plain}
use Rattle.letters.proofs.plain.Given as goal

abbrev pub invariant-loop-b : goal.invariant-loop-b
invariant-loop-b l = all_plain (drop l.b-index l.s) ≡ all_plain l.s
