use mathlib.Core.Path.{◌≡◌}
use Rattle.contents.specs.Pass.{all_plain}
use Rattle.contents.proofs.all_plain.Given as goal

abbrev pub invariant-loop-k : goal.invariant-loop-k
invariant-loop-k l = l.plain ≡ all_plain l.d l.i l.k
