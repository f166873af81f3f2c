-- `number_fields::code_more` meets its contract.
use mathlib.Core.Path.{◌≡◌}
use Prim.Native.Nat.{◌+◌}
use native.Mathlib.Omega.{arith}
use Rattle.number_fields.specs.Reads.{code_some, code_digit}
use Rattle.number_fields.proofs.code_more.Goals as goal

pub overflow_sub-m : goal.overflow_sub-m
overflow_sub-m c = let e = c.is_digit.ensures c.if-not-is_digit.false in omega (arith, e.0)

pub overflow_cast-m : goal.overflow_cast-m
overflow_cast-m c = let e = c.is_digit.ensures c.if-not-is_digit.false in omega (arith, e.0, e.1)

pub overflow_add-m : goal.overflow_add-m
overflow_add-m c =
    let e = c.is_digit.ensures c.if-not-is_digit.false in
    omega (arith, e.0, e.1, c.requires.2)

pub returns-then-not-is_digit-2 : goal.returns-then-not-is_digit-2
returns-then-not-is_digit-2 c =
    let e = c.is_digit.ensures c.if-not-is_digit.false in
    let p = c.requires in
    let k : c.args.at + 1 + 1 ≡ c.args.at + 2 = omega arith in
    code_some (omega (arith, e.0, e.1, p.2)) (omega (arith, p.0))
    (rw k at (code_digit p.3 p.1 (omega (arith, p.2)) (omega (arith, p.0)) e.0 e.1))

pub overflow_mul-m-2 : goal.overflow_mul-m-2
overflow_mul-m-2 c =
    let e = c.is_digit.ensures c.if-not-is_digit.false in
    omega (arith, e.0, e.1, c.requires.2)

pub overflow_sub-c : goal.overflow_sub-c
overflow_sub-c c = let f = c.is_digit-2.ensures c.if-not-is_digit-2.false in omega (arith, f.0)

pub overflow_cast-c : goal.overflow_cast-c
overflow_cast-c c = let f = c.is_digit-2.ensures c.if-not-is_digit-2.false in omega (arith, f.0, f.1)

pub overflow_add-m-2 : goal.overflow_add-m-2
overflow_add-m-2 c =
    let e = c.is_digit.ensures c.if-not-is_digit.false in
    let f = c.is_digit-2.ensures c.if-not-is_digit-2.false in
    omega (arith, e.0, e.1, f.0, f.1, c.requires.2)

pub code_end-requires : goal.code_end-requires
code_end-requires c =
    let e = c.is_digit.ensures c.if-not-is_digit.false in
    let f = c.is_digit-2.ensures c.if-not-is_digit-2.false in
    let p = c.requires in
    let k : c.args.at + 1 + 1 ≡ c.args.at + 2 = omega arith in
    let l : c.args.at + 2 + 1 ≡ c.args.at + 3 = omega arith in
    let two = rw k at (code_digit p.3 p.1 (omega (arith, p.2)) (omega (arith, p.0)) e.0 e.1) in (
      omega (arith, p.0),
      omega (arith, e.0, e.1, f.0, f.1, p.1),
      omega (arith, e.0, e.1, f.0, f.1, p.2),
      rw l at (code_digit two (omega (arith, p.1)) (omega (arith, e.0, e.1, p.2)) (omega (arith, p.0)) f.0 f.1),
    )
