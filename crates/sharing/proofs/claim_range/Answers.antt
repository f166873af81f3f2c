-- `sharing::claim_range` meets its contract: no range, or the run of places from its lower end to its upper.
use mathlib.Core.Path.{◌≡◌, sym, ◌∙◌}
use mathlib.Core.Bool.{true}
use Prim.Native.Nat.{◌≤◌}
use native.Mathlib.Omega.{arith}
use borrow.Author.Rules.{rules}
use mir.Syntax.{w64}
use mir.Val.{to_z, of_z}
use Rattle.cells.specs.rule.Cell.{count_of}
use Rattle.fields.specs.rule.Legal.{in_range}
use Rattle.sharing.specs.Claims.{claim_none}
use Rattle.sharing.specs.Known.{range_places, range_low, range_high, range_ends}
use Rattle.sharing.proofs.claim_range.Goals as goal
use Rattle.sharing.proofs.claim_range.Goals.{After-count_of, After-in_range, After-struct_told-2-1}

-- the row's numbers are read back from their bits as they are
from_back : (c : After-struct_told-2-1) → to_z w64 (of_z w64 c.args.row.from)
    ≡ c.args.row.from
from_back c = search rules

to_back : (c : After-struct_told-2-1) → to_z w64 (of_z w64 c.args.row.to)
    ≡ c.args.row.to
to_back c = search rules

ranged : (c : After-in_range) → c.in_range.result
    ≡ in_range c.args.row c.args.row.from
ranged c = c.in_range.ensures ∙ rw (from_back (goal.at.After-in_range c).After-struct_told-2-1)

here : (c : After-count_of) → in_range c.args.row c.args.row.from ≡ true
here c = sym (ranged (goal.at.After-count_of c).After-in_range) ∙ c.if-not-in_range.false

from_is : (c : After-count_of) → c.count_of-a.result ≡ count_of c.args.row.from
from_is c = c.count_of-a.ensures ∙ rw (from_back (goal.at.After-count_of c).After-struct_told-2-1)

to_is : (c : After-count_of) → c.count_of.result ≡ count_of c.args.row.to
to_is c = c.count_of.ensures ∙ rw (to_back (goal.at.After-count_of c).After-struct_told-2-1)

low : (c : After-count_of) → 1 ≤ c.count_of-a.result
low c = omega (arith, from_is c, range_low c.requires (here c))

ends : (c : After-count_of) → c.count_of-a.result ≤ c.count_of.result
ends c = omega (arith, from_is c, to_is c, range_ends c.requires (here c))

high : (c : After-count_of) → c.count_of.result ≤ c.args.row.width
high c = omega (arith, to_is c, range_high c.requires (here c))

pub returns-then-not-in_range : goal.returns-then-not-in_range
unfolding range_places
returns-then-not-in_range c = rw (sym (ranged (goal.at.returns-then-not-in_range c).After-in_range) ∙ c.if-not-in_range.true)
    (claim_none _ _)

pub returns : goal.returns
unfolding range_places
returns c = rw (
  here (goal.at.returns c).After-count_of,
  ← from_is (goal.at.returns c).After-count_of,
  ← to_is (goal.at.returns c).After-count_of,
) c.claim_run.ensures

pub overflow_sub-n : goal.overflow_sub-n
overflow_sub-n c = ends c

pub overflow_add-n : goal.overflow_add-n
overflow_add-n c = let h = high c in let i = c.requires.inside in let e = ends c in omega arith

pub overflow_sub-row : goal.overflow_sub-row
overflow_sub-row c = c.requires.from_one

pub overflow_sub-a : goal.overflow_sub-a
overflow_sub-a c = low (goal.at.overflow_sub-a c).After-count_of

pub overflow_add-row : goal.overflow_add-row
overflow_add-row c = let h = high (goal.at.overflow_add-row c).After-count_of in
    let i = c.requires.inside in let e = ends (goal.at.overflow_add-row c).After-count_of in
    omega arith

pub claim_run-requires : goal.claim_run-requires
claim_run-requires c = let l = low (goal.at.claim_run-requires c).After-count_of in
    let h = high (goal.at.claim_run-requires c).After-count_of in
    let i = c.requires.inside in
    let o = c.requires.from_one in
    let e = ends (goal.at.claim_run-requires c).After-count_of in
    omega arith

pub shape_of-stamps : goal.shape_of-stamps
shape_of-stamps c = c.claim_run.auto.stamps
