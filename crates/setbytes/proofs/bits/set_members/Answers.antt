use mathlib.Core.Path.{◌≡◌, sym, ap, ◌∙◌}
use Prim.Native.Nat.{◌+◌, ◌≤◌, ◌<◌}
use native.Mathlib.Omega.{arith}
use borrow.Author.Rules.{rules}
use lib.IntN.{pos}
use lib.ListN.{get_or}
use mir.Syntax.{w64}
use mir.Val.{to_z, of_z}
use Rattle.cells.specs.rule.Cell.{count_of}
use Rattle.setbytes.proofs.AllSteps.{member_low, member_high, members_next, members_done}
use Rattle.setbytes.proofs.bits.set_members.Goals as goal
use Rattle.setbytes.proofs.bits.set_members.Goals.{After-count_of-c}

-- the category is the member's number, and lies in the position
counted : (c : After-count_of-c) → c.count_of-c.result ≡ count_of (get_or c.args.list.now
    c.loop-m.m-index (pos 0))
counted c =
    let m = get_or c.args.list.now c.loop-m.m-index (pos 0) in
    let back : to_z w64 (of_z w64 m) ≡ m = search rules in
    c.count_of-c.ensures ∙ ap count_of back

low : (c : After-count_of-c) → 1 ≤ c.count_of-c.result
low c = rw (counted c) (member_low c.requires.1 c.loop-m.m-index
    c.loop-m-test.true)

high : (c : After-count_of-c) → c.count_of-c.result < 1 + c.args.w
high c = rw (counted c) (member_high c.requires.1 c.loop-m.m-index
    c.loop-m-test.true)

pub loop-m-preserved : goal.loop-m-preserved
loop-m-preserved c =
    let l = c.loop-m in
    let a = c.args in
    rw (counted c) (sym (members_next l.bytes a.at a.list.now l.m-index c.loop-m-test.true) ∙ l.invariant)

pub returns : goal.returns
returns c = sym (members_done _ _ _ _ c.loop-m-test.false) ∙ c.loop-m.invariant

pub overflow_sub-bytes : goal.overflow_sub-bytes
overflow_sub-bytes c = low c

pub overflow_add-bytes : goal.overflow_add-bytes
overflow_add-bytes c = let h = high c in let i = c.requires.0.inside in omega arith

pub bounds-bytes-at : goal.bounds-bytes-at
bounds-bytes-at c = let l = low c in let h = high c in let i = c.requires.0.inside in omega arith
