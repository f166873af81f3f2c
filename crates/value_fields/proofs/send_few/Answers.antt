-- `value_fields::send_few` meets its contract: by what is read where no code is held, else the codes that are, rising.
use mathlib.Core.Path.{◌≡◌, ap, ◌∙◌}
use native.Mathlib.Omega.{arith}
use mathlib.Core.Bool.{false}
use Prim.Native.Nat.{◌-◌, ◌<◌}
use lib.ListN.{length}
use Rattle.layout.specs.declared.Kind.TheVariants.{Multiple}
use Rattle.layout.specs.declared.Spread.TheVariants.{Fields}
use Rattle.layout.specs.declared.Row.{Row}
use Rattle.places.specs.rule.Places.{pick}
use Rattle.fields.specs.rule.Legal.{legal}
use Rattle.fields.specs.rule.Field.{spread_field}
use Rattle.fields.specs.rule.Row.{spread_places}
use Rattle.sets.specs.rule.Sets.{is_illegal}
use Rattle.sets.specs.Sets.{FieldsFacts}
use Rattle.readings.specs.Ready.{spread_ready}
use Rattle.readings.proofs.Laws.{as_spread}
use Rattle.listing.specs.RowLaws.{row_stands, row_ready}
use Rattle.sink.specs.Sent.{sent_as, then}
use Rattle.few_codes.specs.Few.{all_zero, spread_entries}
use Rattle.widths.specs.rule.Width.{decimals_of}
use Rattle.value_fields.specs.Legal.{row_legal, row_text}
use Rattle.value_fields.proofs.Legal.{count_code}
use Rattle.value_fields.specs.Few.{first_next}
use Rattle.value_fields.proofs.Few.{held_text}
use Rattle.value_fields.proofs.send_few.Goals as goal
use Rattle.value_fields.proofs.send_few.Goals.{After-read-row}

-- the row is a spread, which is legal
kind : (c : After-read-row) → let a = c.args in c.read-row.result.kind ≡ Multiple (Fields a.n a.b)
kind c = ap (λ (r : Row). r.kind) c.read-row.ensures ∙ c.requires.n_bound.1

ready : (c : After-read-row) → let a = c.args in
    FieldsFacts a.t.now a.h.rows c.read-row.result a.n a.b (length a.bytes.now)
ready c =
    let p = c.requires in
    spread_ready (row_ready p.ready.tested p.i_lt_rows.0 c.read-row.ensures c.args.bytes.now p.i_lt_rows.1) (kind c)

fine : (c : After-read-row) → let a = c.args in let r = c.read-row.result in
    is_illegal (spread_field (legal a.t.now a.h.rows r) r.width a.n
    (pick a.bytes.now (spread_places (r.start - 1) a.b r.width a.n))) ≡ false
fine c =
    let a = c.args in
    let p = c.requires in
    rw (as_spread a.t.now a.h.rows c.read-row.result a.bytes.now a.n a.b (kind c))
    at (row_legal p.ready.tested p.i_lt_rows.0 c.read-row.ensures a.bytes.now p.bytes_value)

pub read-row-requires : goal.read-row-requires
read-row-requires c = row_stands c.requires.ready.tested c.requires.i_lt_rows.0

pub overflow_sub-row : goal.overflow_sub-row
overflow_sub-row c = let f = (ready (goal.at.overflow_sub-row c).After-read-row).from_one in omega arith

pub gather-requires : goal.gather-requires
gather-requires c =
    let f = ready (goal.at.gather-requires c).After-read-row in record {
      spread_room = (
        record { few = f.few; holds = f.holds; inside = let x = f.inside in let y = f.from_one in omega arith },
        c.requires.n_bound.0,
      );
      by_index = all_zero 8;
      n_value = spread_entries _ _ _ _ (fine (goal.at.gather-requires c).After-read-row);
    }

pub returns : goal.returns
unfolding decimals_of
returns c =
    let a = c.args in
    let p = c.requires in
    let n = c.next_above-c.ensures in
    let o = n.most in
    let l : c.next_above-c.result < 65535 = omega (arith, c.if-c.false) in
    sent_as (then (sent_as c.send_count-end.ensures (count_code _)) c.send_above.ensures)
    (first_next _ _ _ n l ∙ held_text _ _ _ _ (ready (goal.at.returns c).After-read-row).few c.gather.ensures _ _ (n.here l).0 (n.here l).1
    (fine (goal.at.returns c).After-read-row)
    ∙ row_text p.ready.tested p.i_lt_rows.0 c.read-row.ensures a.bytes.now
    (as_spread a.t.now a.h.rows c.read-row.result a.bytes.now a.n a.b (kind (goal.at.returns c).After-read-row))
    (ap decimals_of (kind (goal.at.returns c).After-read-row)))
