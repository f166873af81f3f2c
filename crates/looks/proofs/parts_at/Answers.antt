use mathlib.Core.Path.{refl}
use native.Mathlib.Omega.{arith}
use lib.ListN.{get_or}
use borrow.Author.Tests.{ltb-true}
use Rattle.below.specs.Below.{holds_not}
use Rattle.tokens.proofs.Leads.{space_parts, above_parts}
use Rattle.looks.proofs.parts_at.Goals as goal

pub returns-then-d-at : goal.returns-then-d-at
returns-then-d-at c e = holds_not e refl

pub returns-then-b-eq32 : goal.returns-then-b-eq32
returns-then-b-eq32 c e = record { within = omega arith; kept = omega arith; parts = space_parts _ c.if-b-eq32.true }

pub returns : goal.returns
returns c e =
    let a = c.args in
    let h = ltb-true 57 (get_or a.d.now a.at 0) e in
    record { within = omega arith; kept = omega (arith, h); parts = above_parts (get_or a.d.now a.at 0) h }
