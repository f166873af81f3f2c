-- `numbers::too_short` meets its contract: what goes beyond the tail is never too short.
use mathlib.Core.Path.{sym}
use native.Mathlib.Omega.{arith}
use borrow.Author.Tests.{le-ltb}
use Prim.Native.Nat.{◌+◌}
use Rattle.widths.specs.rule.Width.{tail_of, least_whole}
use Rattle.widths.specs.Width.{least_upto}
use Rattle.numbers.proofs.too_short.Goals as goal

pub returns-then-tail-n : goal.returns-then-tail-n
returns-then-tail-n c =
    let a = c.args in
    sym (le-ltb a.n (least_whole a.f + tail_of a.f) (omega (arith, c.requires.0, least_upto a.f, c.if-tail-n.true)))

pub overflow_add-result : goal.overflow_add-result
overflow_add-result c = omega (arith, c.least_whole.ensures, least_upto c.args.f)

pub returns : goal.returns
returns c = rw (c.least_whole.ensures, c.requires.0)
