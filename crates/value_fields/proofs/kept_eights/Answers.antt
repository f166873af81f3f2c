use mathlib.Core.Path.{◌≡◌}
use native.Mathlib.Omega.{arith}
use Prim.Native.Nat.{◌+◌, ◌-◌}
use lib.Seq.{take-length}
use Rattle.value_fields.specs.Ends.{spaces_gone}
use Rattle.value_fields.proofs.kept_eights.Goals as goal

pub loop-n-init : goal.loop-n-init
loop-n-init c = record { few = omega arith; ends = rw take-length; blank = rw take-length }

pub returns-then-not-eight_spaces : goal.returns-then-not-eight_spaces
returns-then-not-eight_spaces c = c.loop-n.invariant

pub loop-n-preserved : goal.loop-n-preserved
loop-n-preserved c =
    let l = c.loop-n in
    let g = c.loop-n-test.true in
    let q : l.n - 8 + 8 ≡ l.n = omega arith in
    spaces_gone c.args.s.now (l.n - 8) 8 (rw q l.invariant)
    (c.eight_spaces.ensures c.if-not-eight_spaces.false)

pub returns : goal.returns
returns c = c.loop-n.invariant

pub eight_spaces-requires : goal.eight_spaces-requires
eight_spaces-requires c = let g = c.loop-n-test.true in omega arith

pub loop-n-smaller : goal.loop-n-smaller
loop-n-smaller c = let g = c.loop-n-test.true in omega arith
