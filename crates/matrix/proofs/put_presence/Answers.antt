use mathlib.Core.Path.{sym, ◌∙◌}
use Prim.Native.Nat.{◌+◌}
use Rattle.matrix.specs.Noughts.{flags_next, flags_end}
use Rattle.matrix.proofs.put_presence.Goals as goal

pub loop-i-preserved : goal.loop-i-preserved
loop-i-preserved c =
    let l = c.loop-i in
    let a = c.args in
    rw c.from-b.ensures (flags_next l.out a.flags l.i a.n a.there c.loop-i-test.true ∙ l.invariant)

pub returns : goal.returns
returns c =
    let l = c.loop-i in
    let a = c.args in
    sym (flags_end l.out (a.flags + l.i) l.i a.n a.there c.loop-i-test.false) ∙ l.invariant
