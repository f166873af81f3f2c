use mathlib.Core.Path.{◌≡◌, sym, ◌∙◌}
use Prim.Native.Nat.{◌+◌, ◌-◌}
use native.Mathlib.Omega.{arith}
use borrow.Author.Tests.{not-true}
use Rattle.lows.specs.Lows.{clear_more, clear_last}
use Rattle.lows.proofs.plain_short.Goals as goal

pub loop-i-preserved : goal.loop-i-preserved
loop-i-preserved c = (
  omega arith,
  clear_more _ _ _ 16 c.loop-i.invariant.1 (sym c.low_among.ensures ∙ c.if-low_among.false) (omega arith),
)

pub returns : goal.returns
returns c e =
    let a = c.args in
    let q : a.from + (a.n - 16) + 16 ≡ a.from + a.n = omega arith in
    rw q at (clear_last a.s.now _ _ (a.from + (a.n - 16)) 16 c.loop-i.invariant.1
    (sym c.low_among-2.ensures ∙ not-true _ e) (omega arith) (omega arith) (omega arith))
