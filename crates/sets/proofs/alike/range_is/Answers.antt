-- `sets::alike::range_is` meets its contract: the range's categories within the position are one run.
use mathlib.Core.Path.{◌≡◌, ◌∙◌}
use mathlib.Core.Bool.{true}
use native.Mathlib.Omega.{arith}
use borrow.Author.Rules.{rules}
use borrow.Author.Tests.{not-true, not-false}
use mir.Syntax.{w64}
use mir.Val.{to_z, of_z}
use Rattle.sets.specs.Alike.{FirstOf, LastOf}
use Rattle.sets.proofs.AlikeLaws.{no_range, range_empty, range_alike}
use Rattle.sets.proofs.alike.range_is.Goals as goal
use Rattle.sets.proofs.alike.range_is.Goals.{After-last_of-last}

-- where the range starts and ends, within the position
from_back : (c : After-last_of-last) → to_z w64 (of_z w64 c.args.row.from)
    ≡ c.args.row.from
from_back c = search rules

to_back : (c : After-last_of-last) → to_z w64 (of_z w64 c.args.row.to)
    ≡ c.args.row.to
to_back c = search rules

first : (c : After-last_of-last) → FirstOf c.args.row.from c.first_of-first.result
first c = rw (from_back c) at c.first_of-first.ensures

last : (c : After-last_of-last) → LastOf c.args.row.to
    c.args.w c.last_of-last.result
last c = rw (to_back c) at c.last_of-last.ensures

has : (c : After-last_of-last) → c.args.row.range ≡ true
has c = not-false _ c.if-not-row.false

pub returns-then-not-row : goal.returns-then-not-row
returns-then-not-row c = no_range c.args.x c.args.y c.args.bytes.now
    c.args.at c.args.w c.args.row
    (not-true _ c.if-not-row.true)

pub returns-then-last-first : goal.returns-then-last-first
returns-then-last-first c =
    let a = c.args in
    range_empty a.x a.y a.bytes.now a.at a.w a.row _ _ (has (goal.at.returns-then-last-first c).After-last_of-last)
    (first (goal.at.returns-then-last-first c).After-last_of-last) (last (goal.at.returns-then-last-first c).After-last_of-last)
    c.if-last-first.true

pub returns : goal.returns
returns c =
    let a = c.args in
    c.run_is.ensures ∙ range_alike a.x a.y a.bytes.now a.at a.w a.row _ _ (has (goal.at.returns c).After-last_of-last)
    (first (goal.at.returns c).After-last_of-last) (last (goal.at.returns c).After-last_of-last) c.if-last-first.false

pub overflow_sub-first : goal.overflow_sub-first
overflow_sub-first c = (first (goal.at.overflow_sub-first c).After-last_of-last).low

pub overflow_add-at : goal.overflow_add-at
overflow_add-at c = let l = (last (goal.at.overflow_add-at c).After-last_of-last).few in let i = c.requires.inside in
    omega arith

pub overflow_add-last : goal.overflow_add-last
overflow_add-last c = let l = (last (goal.at.overflow_add-last c).After-last_of-last).few in let i = c.requires.few in
    omega arith

pub run_is-requires : goal.run_is-requires
run_is-requires c = let f = (first (goal.at.run_is-requires c).After-last_of-last).low in
    let l = (last (goal.at.run_is-requires c).After-last_of-last).few in
    let i = c.requires.inside in omega arith
