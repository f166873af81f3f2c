use mathlib.Core.Path.{◌≡◌}
use Rattle.utf.specs.Stride.{all_plain}
use Rattle.utf.proofs.all_plain.Given as goal

abbrev pub invariant-loop-k : goal.invariant-loop-k
invariant-loop-k l = l.plain ≡ all_plain l.latin l.d l.i l.k
