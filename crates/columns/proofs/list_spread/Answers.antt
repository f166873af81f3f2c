-- `columns::list_spread` meets its contract: as it is read, or missing, or by its subfields.
-- Assumes nothing.
use mathlib.Core.Path.{◌≡◌, sym, ◌∙◌}
use mathlib.Core.Bool.{false}
use Prim.Native.Nat.{ℕ, ◌-◌}
use native.Mathlib.Omega.{arith}
use lib.IntN.{ℤ}
use mathlib.Core.List.{List}
use lib.ListN.{length}
use lib.Seq.{length-take-le}
use Rattle.layout.specs.declared.Row.{Row}
use Rattle.places.specs.rule.Places.{pick}
use Rattle.fields.specs.rule.Legal.{legal}
use Rattle.fields.specs.rule.Field.{spread_field}
use Rattle.fields.specs.rule.Row.{spread_places}
use Rattle.sets.specs.rule.Sets.{is_illegal}
use Rattle.sets.specs.Sets.{SpreadRoom, FieldsFacts}
use Rattle.few_codes.specs.Few.{spread_entries}
use Rattle.readings.specs.Ready.{spread_ready}
use Rattle.readings.proofs.Laws.{as_spread}
use Rattle.columns.specs.Reach.{readable_ready}
use Rattle.columns.specs.Listed.{zero_part, lists_blank, lists_fields}
use Rattle.columns.proofs.list_spread.Goals as goal
use Rattle.columns.proofs.list_spread.Goals.{Start}

room_of : {t : List ℤ} {v : ℕ} {r : Row} {n b size : ℕ} → FieldsFacts t v r n b size → SpreadRoom (r.start - 1) b r.width n size
room_of f = let i = f.inside in let o = f.from_one in record { few = f.few; holds = f.holds; inside = omega arith }

-- the row's facts, and that it is legal
ready : (c : Start) → let a = c.args in FieldsFacts a.t.now a.rows a.row a.n a.b (length a.bytes.now)
ready c = spread_ready (readable_ready c.requires.readable.0) c.requires.readable.2

fine : (c : Start) → let a = c.args in
    is_illegal (spread_field (legal a.t.now a.rows a.row) a.row.width a.n
    (pick a.bytes.now (spread_places (a.row.start - 1) a.b a.row.width a.n))) ≡ false
fine c =
    let a = c.args in
    rw (as_spread a.t.now a.rows a.row a.bytes.now a.n a.b c.requires.readable.2) at c.requires.bytes_value

pub returns-then-spread_blank : goal.returns-then-spread_blank
returns-then-spread_blank c =
    let a = c.args in
    rw (as_spread a.t.now a.rows a.row a.bytes.now a.n a.b c.requires.readable.2)
    (lists_blank (legal a.t.now a.rows a.row) a.row.width a.n
    (pick a.bytes.now (spread_places (a.row.start - 1) a.b a.row.width a.n))
    (sym c.spread_blank.ensures ∙ c.if-spread_blank.true) a.list.now)

pub list_fields-requires : goal.list_fields-requires
list_fields-requires c =
    let few = c.if-n-gt64.false in record {
      spread_room = (
        room_of (ready (goal.at.list_fields-requires c).Start),
        length-take-le _ _ (omega arith),
        omega (arith, c.requires.readable.1),
      );
      by_index = λ i. zero_part c.args.n 64 i;
      n_value = spread_entries (legal c.args.t.now c.args.rows c.args.row) c.args.row.width c.args.n _
          (fine (goal.at.list_fields-requires c).Start);
    }

pub returns : goal.returns
returns c =
    let a = c.args in
    let few = c.if-n-gt64.false in
    rw (as_spread a.t.now a.rows a.row a.bytes.now a.n a.b c.requires.readable.2)
    (lists_fields (legal a.t.now a.rows a.row) a.row.width a.n
    (pick a.bytes.now (spread_places (a.row.start - 1) a.b a.row.width a.n)) (fine (goal.at.returns c).Start)
    (sym c.spread_blank.ensures ∙ c.if-spread_blank.false)
    (omega (arith, c.list_fields.auto.list, c.requires.readable.1)) c.list_fields.ensures)

pub list_read-requires : goal.list_read-requires
list_read-requires c = (c.requires.readable.0, c.requires.readable.1)

pub returns-then-n-gt64 : goal.returns-then-n-gt64
returns-then-n-gt64 c = c.list_read.ensures

pub overflow_sub-at : goal.overflow_sub-at
overflow_sub-at c = let o = (ready (goal.at.overflow_sub-at c).Start).from_one in omega arith

pub spread_blank-requires : goal.spread_blank-requires
spread_blank-requires c = room_of (ready (goal.at.spread_blank-requires c).Start)

pub slice_bounds-room-end : goal.slice_bounds-room-end
slice_bounds-room-end c = let few = c.if-n-gt64.false in omega arith

pub slice_bounds-list_fields-end : goal.slice_bounds-list_fields-end
slice_bounds-list_fields-end c = let few = c.if-n-gt64.false in sym (length-take-le _ _ (omega arith))
