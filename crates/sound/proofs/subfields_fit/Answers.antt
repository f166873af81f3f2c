-- `sound::subfields_fit` meets its contract: more subfields, or wider ones, than any position has bytes fit none.
use mathlib.Core.Path.{◌≡◌, sym}
use mathlib.Core.Bool.{false}
use Prim.Native.Nat.{ℕ, ◌+◌, ◌*◌, ◌≤◌, ◌<◌}
use native.Mathlib.Nat.{mul-le-mul, mul_comm, le-mul_of_pos_right, lt_of_lt_of_le, lt_of_le_of_lt}
use native.Mathlib.Omega.{arith}
use lib.Dec.{leb}
use borrow.Author.Tests.{lt-leb}
use Rattle.sound.proofs.subfields_fit.Goals as goal

-- what is more than every position has bytes does not fit one
too_many_lem : (start n b finish : ℕ) → 1 ≤ start → finish ≤ 16384 → 16384 < n * b → false ≡ leb (start + n * b) (finish + 1)
too_many_lem start n b finish h g l = sym (lt-leb (start + n * b) (finish + 1) (omega arith))

-- the product is at most 16,384 times 16,384
product : (n b : ℕ) → n ≤ 16384 → b ≤ 16384 → n * b ≤ 268435456
product n b h g = mul-le-mul h g

pub returns-then-n-gt16384 : goal.returns-then-n-gt16384
returns-then-n-gt16384 c =
    let a = c.args in
    too_many_lem a.start a.n a.b a.finish (omega arith) (omega arith)
    (lt_of_lt_of_le c.if-n-gt16384.true (le-mul_of_pos_right a.n (omega arith)))

pub returns-then-b-gt16384 : goal.returns-then-b-gt16384
returns-then-b-gt16384 c =
    let a = c.args in
    too_many_lem a.start a.n a.b a.finish (omega arith) (omega arith)
    (rw (mul_comm a.n a.b) (lt_of_lt_of_le c.if-b-gt16384.true (le-mul_of_pos_right a.b (omega arith))))

pub overflow_mul-result : goal.overflow_mul-result
overflow_mul-result c = record { fits = lt_of_le_of_lt (product _ _ c.if-n-gt16384.false c.if-b-gt16384.false) (omega arith) }

pub overflow_add-result : goal.overflow_add-result
overflow_add-result c = omega (arith, product c.args.n c.args.b c.if-n-gt16384.false c.if-b-gt16384.false)
