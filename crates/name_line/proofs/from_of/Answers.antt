-- `name_line::from_of` meets its contract.
use Prim.Native.Nat.{◌≤◌, ◌<◌}
use native.Mathlib.Omega.{arith}
use borrow.Author.Tests.{le-leb, lt-leb}
use Rattle.name_line.proofs.from_of.Goals as goal

pub returns-then-place-end : goal.returns-then-place-end
returns-then-place-end c =
    let a = c.args in
    let h : a.place ≤ a.end = omega arith in
    (rw (le-leb a.place a.end h), omega arith)

pub returns-else-place-end : goal.returns-else-place-end
returns-else-place-end c =
    let a = c.args in
    let h : a.end < a.place = omega arith in
    (rw (lt-leb a.place a.end h), omega arith)
