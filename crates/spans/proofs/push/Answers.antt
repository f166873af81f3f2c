use mathlib.Core.Path.{◌≡◌}
use Prim.Native.Nat.{ℕ, ◌≤◌}
use native.Mathlib.Omega.{arith}
use mathlib.Core.Bool.{true}
use lib.Dec.{leb}
use borrow.Author.Tests.{lt-ltb, le-ltb, leb-true}
use Rattle.below.specs.Below.{and_left, and_right}
use Rattle.markup.specs.rule.Bytes.{is_digit}
use Rattle.scan.specs.Number.{push_of}
use Rattle.spans.proofs.push.Goals as goal

bounds : (c : ℕ) → is_digit c ≡ true → (48 ≤ c) × (c ≤ 57)
unfolding is_digit
bounds c e = (leb-true 48 c (and_left (leb 48 c) (leb c 57) e), leb-true c 57 (and_right (leb 48 c) (leb c 57) e))

pub overflow_sub-r : goal.overflow_sub-r
overflow_sub-r c = let b = bounds c.args.c c.requires.c_value in omega arith

pub overflow_add-r : goal.overflow_add-r
overflow_add-r c = let b = bounds c.args.c c.requires.c_value in omega arith

pub returns-then-r-gt1000000000000000 : goal.returns-then-r-gt1000000000000000
unfolding push_of
returns-then-r-gt1000000000000000 c = (rw (lt-ltb _ _ c.if-r-gt1000000000000000.true), omega arith)

pub returns-else-r-gt1000000000000000 : goal.returns-else-r-gt1000000000000000
unfolding push_of
returns-else-r-gt1000000000000000 c = (rw (le-ltb _ _ c.if-r-gt1000000000000000.false), omega arith)
