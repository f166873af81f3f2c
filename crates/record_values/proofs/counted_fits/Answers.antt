use mathlib.Core.Path.{◌≡◌, sym, ◌∙◌, ap}
use native.Mathlib.Omega.{arith}
use borrow.Author.Tests.{le-leb, lt-leb}
use lib.ListN.{length}
use Rattle.layout.specs.declared.Row.{Row}
use Rattle.fields.specs.rule.Row.{reading_of}
use Rattle.record_values.specs.rule.Record.{row_reading, members_of, members_below}
use Rattle.record_values.specs.Room.{none_below, members_count, members_step}
use Rattle.record_values.proofs.counted_fits.Goals as goal
use Rattle.record_values.proofs.counted_fits.Goals.{After-count_row-n}

-- the members of row i
counted : (c : After-count_row-n) →
    let a = c.args in
    c.count_row-n.result ≡ length (members_of (row_reading a.t.now a.rows a.bytes.now c.loop-i.i))
counted c =
    let a = c.args in
    c.count_row-n.ensures ∙ ap (λ (r : Row). length (members_of (reading_of a.t.now a.rows r a.bytes.now)))
    c.read.ensures

pub loop-i-init : goal.loop-i-init
loop-i-init c =
    let a = c.args in
    omega (arith, none_below (row_reading a.t.now a.rows a.bytes.now))

pub returns-then-left-n : goal.returns-then-left-n
returns-then-left-n c =
    let a = c.args in
    let f = row_reading a.t.now a.rows a.bytes.now in
    let l = c.loop-i in
    let s = members_step f l.i a.rows c.loop-i-test.true in
    let e = counted (goal.at.returns-then-left-n c).After-count_row-n in
    let q = l.invariant in
    let o = c.if-left-n.true in
    sym (lt-leb (length (members_below f a.rows)) a.room (omega arith))

pub loop-i-preserved : goal.loop-i-preserved
loop-i-preserved c =
    let a = c.args in
    let f = row_reading a.t.now a.rows a.bytes.now in
    let l = c.loop-i in
    let n = members_count f l.i in
    let e = counted (goal.at.loop-i-preserved c).After-count_row-n in
    let q = l.invariant in
    let o = c.if-left-n.false in
    omega arith

pub returns : goal.returns
returns c =
    let a = c.args in
    let l = c.loop-i in
    let q : l.i ≡ a.rows = omega arith in
    let w = rw q at l.invariant in
    sym (le-leb (length (members_below (row_reading a.t.now a.rows a.bytes.now) a.rows)) a.room (omega arith))
