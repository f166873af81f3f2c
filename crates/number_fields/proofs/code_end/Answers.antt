-- `number_fields::code_end` meets its contract.
use mathlib.Core.Path.{◌≡◌}
use Prim.Native.Nat.{◌+◌}
use native.Mathlib.Omega.{arith}
use Rattle.number_fields.specs.Reads.{code_some, code_digit}
use Rattle.number_fields.proofs.code_end.Goals as goal

pub overflow_sub-result : goal.overflow_sub-result
overflow_sub-result c = let e = c.is_digit.ensures c.if-not-is_digit.false in omega (arith, e.0)

pub overflow_cast-result : goal.overflow_cast-result
overflow_cast-result c = let e = c.is_digit.ensures c.if-not-is_digit.false in omega (arith, e.0, e.1)

pub overflow_add-result-2 : goal.overflow_add-result-2
overflow_add-result-2 c =
    let e = c.is_digit.ensures c.if-not-is_digit.false in
    let p = c.requires in
    omega (arith, e.0, e.1, p.2)

pub returns : goal.returns
returns c =
    let e = c.is_digit.ensures c.if-not-is_digit.false in
    let p = c.requires in
    let k : c.args.at + 3 + 1 ≡ c.args.at + 4 = omega arith in
    code_some (omega (arith, e.0, e.1, p.2)) (omega (arith, p.0))
    (rw k at (code_digit p.3 p.1 p.2 (omega (arith, p.0)) e.0 e.1))
