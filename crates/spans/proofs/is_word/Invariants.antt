use mathlib.Core.Path.{◌≡◌}
use Prim.Native.Nat.{◌≤◌}
use lib.ListN.{length, drop}
use Rattle.spans.specs.rule.Heard.{heard}
use Rattle.spans.specs.rule.Says.{heard_word}
use Rattle.spans.proofs.is_word.Given as goal

abbrev pub invariant-loop-x : goal.invariant-loop-x
invariant-loop-x l = (heard_word l.w (heard l.s 0) ≡ heard_word (drop l.x-index l.w) (heard l.s l.n)) × (l.n ≤ length l.s)
