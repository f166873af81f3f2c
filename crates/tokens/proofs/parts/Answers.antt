use Prim.Native.Nat.{◌<◌}
use borrow.Author.Tests.{ltb-true}
use native.Mathlib.Omega.{arith}
use Rattle.tokens.proofs.Leads.{space_parts, above_parts}
use Rattle.tokens.proofs.parts.Goals as goal

pub returns-then-b-eq32 : goal.returns-then-b-eq32
returns-then-b-eq32 c e = (omega arith, space_parts _ c.if-b-eq32.true)

pub returns : goal.returns
returns c e =
    let b = c.args.b in
    let h : 57 < b = ltb-true 57 b e in
    (omega arith, above_parts b h)
