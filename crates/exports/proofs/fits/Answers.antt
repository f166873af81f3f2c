-- `exports::fits` meets its contract: the names are measured in a buffer that has no room for them, and then the lines, unless there is
-- room for
-- the longest.
use mathlib.Core.Path.{ap, ◌∙◌}
use mathlib.Core.List.{List}
use Prim.Native.Nat.{ℕ}
use native.Mathlib.Omega.{arith}
use lib.Dec.{leb}
use lib.ListN.{length}
use Rattle.cuts.specs.rule.Records.{records_of}
use Rattle.sink.specs.Sent.{sent_as, then}
use Rattle.line_bounds.specs.Bounds.{lines_most}
use Rattle.exports.specs.Sizes.{rows_stand, names_and, found_records, measured, names_long, room_enough}
use Rattle.exports.proofs.fits.Goals as goal

pub send_names-names-requires : goal.send_names-names-requires
send_names-names-requires c = let p = c.requires in record {
  classes = p.classes;
  rows_le_most_rows = rows_stand p.ready.tested;
}

pub returns-then-room-names : goal.returns-then-room-names
returns-then-room-names c =
    let p = c.requires in
    let a = c.args in
    names_long _ c.send_names-names.ensures _ c.if-room-names.true
    ∙ ap (λ (s : List ℕ). leb (length s) a.room) (names_and p.ready.tested a.def.now a.n (records_of a.d.now))

pub returns-then-n-room : goal.returns-then-n-room
returns-then-n-room c =
    let p = c.requires in
    let a = c.args in
    let m = c.line_most.ensures in
    room_enough _ c.send_names-names.ensures _ a.n _ c.if-room-names.false m.1 c.if-n-room.true
    (rw m.0 (lines_most a.t.now p.ready.tested.good a.n (records_of a.d.now)))
    ∙ ap (λ (s : List ℕ). leb (length s) a.room) (names_and p.ready.tested a.def.now a.n (records_of a.d.now))

pub send_lines-need-requires : goal.send_lines-need-requires
send_lines-need-requires c =
    let p = c.requires in record {
      ready = p.ready;
      size_bound = (p.found.0.few, rw (found_records p.found.0) p.found.1);
    }

pub returns : goal.returns
returns c =
    let p = c.requires in
    measured _ (sent_as (then c.send_names-names.ensures
    (rw (found_records p.found.0) at c.send_lines-need.ensures)) (names_and p.ready.tested _ _ _))

pub overflow_add-room : goal.overflow_add-room
overflow_add-room c = omega (arith, c.requires.room_bound)

pub line_most-requires : goal.line_most-requires
line_most-requires c = c.requires.ready.tested

pub nonzero_div-room : goal.nonzero_div-room
nonzero_div-room c = omega (arith, c.line_most.ensures.1)

pub overflow_add-room-2 : goal.overflow_add-room-2
overflow_add-room-2 c = omega (arith, c.requires.room_bound)
