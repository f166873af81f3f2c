use mathlib.Core.Path.{◌≡◌}
use native.Mathlib.Omega.{arith}
use lib.ListN.{length}
use Rattle.number_fields.specs.Reads.{digits_none, digits_more}
use Rattle.number_fields.proofs.digits_from.Goals as goal

pub loop-i-init : goal.loop-i-init
loop-i-init c = let p = c.requires in digits_none _ _ _ p.0 p.1

pub returns-then-not-is_digit : goal.returns-then-not-is_digit
returns-then-not-is_digit c = c.loop-i.invariant

pub returns-then-n-ge-FEW : goal.returns-then-n-ge-FEW
returns-then-n-ge-FEW c = c.loop-i.invariant

pub overflow_sub-n : goal.overflow_sub-n
overflow_sub-n c = let d = c.is_digit.ensures c.if-not-is_digit.false in omega (arith, d.0)

pub overflow_cast-n : goal.overflow_cast-n
overflow_cast-n c = let d = c.is_digit.ensures c.if-not-is_digit.false in omega (arith, d.0, d.1)

pub overflow_add-n : goal.overflow_add-n
overflow_add-n c = let d = c.is_digit.ensures c.if-not-is_digit.false in omega (arith, d.0, d.1)

pub loop-i-preserved : goal.loop-i-preserved
loop-i-preserved c =
    let d = c.is_digit.ensures c.if-not-is_digit.false in
    digits_more c.loop-i.invariant c.loop-i-test.true d.0 d.1
    (omega arith)

pub returns : goal.returns
returns c =
    let e : c.loop-i.i ≡ length c.args.d.now = omega arith in
    rw e at c.loop-i.invariant
