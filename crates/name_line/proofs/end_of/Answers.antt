-- `name_line::end_of` meets its contract.
use Prim.Native.Nat.{◌+◌, ◌≤◌, ◌<◌}
use native.Mathlib.Omega.{arith}
use borrow.Author.Tests.{le-leb, lt-leb}
use Rattle.name_line.proofs.end_of.Goals as goal

pub returns-then-n-place : goal.returns-then-n-place
returns-then-n-place c =
    let a = c.args in
    let h : a.n < a.place + a.long = omega arith in
    (rw (lt-leb (a.place + a.long) a.n h), omega arith)

pub returns-then-n-place-2 : goal.returns-then-n-place-2
returns-then-n-place-2 c =
    let a = c.args in
    let h : a.n < a.place + a.long = omega arith in
    (rw (lt-leb (a.place + a.long) a.n h), omega arith)

pub returns : goal.returns
returns c =
    let a = c.args in
    let h : a.place + a.long ≤ a.n = omega arith in
    (rw (le-leb (a.place + a.long) a.n h), omega arith)
