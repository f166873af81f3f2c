use mathlib.Core.Path.{◌≡◌}
use lib.ListN.{drop}
use Rattle.markup.specs.rule.Gap.{xml_comment}
use Rattle.markup.proofs.comment.Given as goal

abbrev pub invariant-loop-i : goal.invariant-loop-i
invariant-loop-i l = xml_comment l.bad l.opened l.at (drop l.at l.d) ≡ xml_comment l.bad l.opened l.i (drop l.i l.d)
