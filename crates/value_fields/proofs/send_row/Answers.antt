-- `value_fields::send_row` meets its contract: each kind by its writer.
use mathlib.Core.Path.{◌≡◌, sym, ap, ◌∙◌}
use native.Mathlib.Omega.{arith}
use mathlib.Core.Bool.{true, false}
use Prim.Native.Nat.{ℕ, ◌-◌}
use mathlib.Core.Path.{subst}
use mathlib.Core.List.{List}
use lib.IntN.{ℤ}
use Rattle.layout.specs.rule.Row.{row_at}
use Rattle.layout.specs.declared.Row.{Row}
use Rattle.layout.specs.declared.Spread.TheVariants.{Bits}
use Rattle.layout.specs.declared.Kind.{Kind}
use Rattle.layout.specs.declared.Kind.TheVariants.{Multiple}
use Rattle.places.specs.rule.Places.{pick}
use Rattle.fields.specs.rule.Legal.{legal}
use Rattle.fields.specs.rule.Field.{bits_field}
use Rattle.fields.specs.rule.Row.{bit_places, reading_of}
use Rattle.fields.specs.Facts.{KindFacts, WidthFacts}
use Rattle.sets.specs.Full.{EachLegal, each_defined}
use Rattle.readings.specs.Answer.{numeral_field}
use Rattle.readings.specs.Ready.{single_ready, quantity_ready, bits_ready, text_ready}
use Rattle.readings.proofs.Laws.{as_single, as_bits, as_quantity, as_text, as_truth}
use Rattle.listing.specs.RowLaws.{row_stands, row_ready}
use Rattle.sink.specs.Sent.{sent_as}
use Rattle.widths.specs.rule.Width.{decimals_of}
use Rattle.value_fields.specs.Legal.{each_field, row_fits, row_small, row_legal, row_text}
use Rattle.value_fields.proofs.Legal.{told_of}
use Rattle.value_fields.proofs.Bare.{well_of}
use Rattle.value_fields.proofs.send_row.Goals as goal

-- a bitstring of which every category is one
each_row : (t : List ℤ) (v : ℕ) (r s : Row) (bytes : List ℕ) → r ≡ s → r.kind ≡ Multiple Bits → EachLegal t v s s.width
    → reading_of t v r bytes ≡ each_field r.width bytes (r.start - 1)
each_row t v r s bytes is e l = as_bits t v r bytes e
    ∙ ap (λ (cs : List ℕ). bits_field cs (pick bytes (bit_places (r.start - 1) cs))) (each_defined t v r r.width (rw is l))

pub read-row-requires : goal.read-row-requires
read-row-requires c = row_stands c.requires.ready.tested c.requires.i_lt_rows.0

pub send_single-requires : goal.send_single-requires
unfolding numeral_field
send_single-requires c =
    let a = c.args in
    let p = c.requires in
    let is = c.read-row.ensures in
    let r = c.read-row.result in
    let e = c.in-Single.is in
    let f = single_ready (row_ready p.ready.tested p.i_lt_rows.0 is a.bytes.now p.i_lt_rows.1) e in
    let g = row_legal p.ready.tested p.i_lt_rows.0 is a.bytes.now p.bytes_value in record {
      w_le_e = (f.reach, f.inside);
      told = told_of (legal a.t.now a.h.rows r) (row_small p.ready.tested p.i_lt_rows.0 is) true _
          (rw (as_single a.t.now a.h.rows r a.bytes.now e) at g);
    }

pub bounds-full-i : goal.bounds-full-i
bounds-full-i c =
    row_fits c.requires.ready.tested c.requires.i_lt_rows.0

pub overflow_sub-row : goal.overflow_sub-row
overflow_sub-row c =
    let p = c.requires in
    let f = (row_ready p.ready.tested p.i_lt_rows.0 c.read-row.ensures c.args.bytes.now p.i_lt_rows.1).from_one in
    omega arith

pub send_each-requires : goal.send_each-requires
send_each-requires c =
    let a = c.args in
    let p = c.requires in
    let is = c.read-row.ensures in
    let r = c.read-row.result in
    let e = c.in-Multiple.is ∙ ap Multiple c.in-Bits.is in
    let q = row_ready p.ready.tested p.i_lt_rows.0 is a.bytes.now p.i_lt_rows.1 in
    let f = bits_ready q e in
    let w : WidthFacts 9999 r = subst (λ (k : Kind). KindFacts k r) e q.kind in
    let l = each_row a.t.now a.h.rows r (row_at a.t.now a.i) a.bytes.now is e
    (p.full a.i p.i_lt_rows.0 c.if-full-i-eq49.true) in record {
      tens = p.ready.tens;
      le_w = (w.some, f.few, omega (arith, f.inside, f.from_one));
      p_value = rw l at (row_legal p.ready.tested p.i_lt_rows.0 is a.bytes.now p.bytes_value);
    }

pub returns-then-full-i-eq49 : goal.returns-then-full-i-eq49
unfolding decimals_of
returns-then-full-i-eq49 c =
    let a = c.args in
    let p = c.requires in
    let is = c.read-row.ensures in
    let r = c.read-row.result in
    let e = c.in-Multiple.is ∙ ap Multiple c.in-Bits.is in
    sent_as c.send_each.ensures (row_text p.ready.tested p.i_lt_rows.0 is a.bytes.now
    (each_row a.t.now a.h.rows r (row_at a.t.now a.i) a.bytes.now is e
    (p.full a.i p.i_lt_rows.0 c.if-full-i-eq49.true)) (ap decimals_of e))

pub send_few-requires : goal.send_few-requires
send_few-requires c =
    let p = c.requires in
    let e = c.in-Multiple.is ∙ ap Multiple c.in-Fields.is in record {
      ready = p.ready;
      i_lt_rows = p.i_lt_rows;
      n_bound = (
        c.if-count-le8.true,
        ap (λ (r : Row). r.kind) (sym c.read-row.ensures) ∙ e,
      );
      bytes_value = p.bytes_value;
    }

pub send_quantity-requires : goal.send_quantity-requires
unfolding numeral_field
send_quantity-requires c =
    let a = c.args in
    let p = c.requires in
    let is = c.read-row.ensures in
    let r = c.read-row.result in
    let e = c.in-Quantity.is in
    let f = quantity_ready (row_ready p.ready.tested p.i_lt_rows.0 is a.bytes.now p.i_lt_rows.1) e in
    let g = row_legal p.ready.tested p.i_lt_rows.0 is a.bytes.now p.bytes_value in
    let l = rw (as_quantity a.t.now a.h.rows r a.bytes.now _ e) at g in record {
      tens = p.ready.tens;
      w_bound = (f.0.few, f.0.reach, f.0.inside);
      format_facts = (
        f.1,
        told_of (legal a.t.now a.h.rows r) (row_small p.ready.tested p.i_lt_rows.0 is) false _ l,
        well_of false (legal a.t.now a.h.rows r) _ l,
      );
    }

pub overflow_sub-row-in-Character : goal.overflow_sub-row-in-Character
overflow_sub-row-in-Character c =
    let p = c.requires in
    let f = (row_ready p.ready.tested p.i_lt_rows.0 c.read-row.ensures c.args.bytes.now p.i_lt_rows.1).from_one in
    omega arith

pub send_words-requires : goal.send_words-requires
send_words-requires c =
    let a = c.args in
    let p = c.requires in
    let is = c.read-row.ensures in
    let e = c.in-Character.is in
    let f = text_ready (row_ready p.ready.tested p.i_lt_rows.0 is a.bytes.now p.i_lt_rows.1) e in record {
      w_bound = (f.0, omega (arith, f.1, f.2));
      w_value = rw (as_text a.t.now a.h.rows c.read-row.result a.bytes.now e)
          at (row_legal p.ready.tested p.i_lt_rows.0 is a.bytes.now p.bytes_value);
    }

pub overflow_sub-last : goal.overflow_sub-last
overflow_sub-last c =
    let p = c.requires in
    let f = row_ready p.ready.tested p.i_lt_rows.0 c.read-row.ensures c.args.bytes.now p.i_lt_rows.1 in
    let x = f.from_one in let y = f.ordered in
    omega arith

pub bounds-bytes-last : goal.bounds-bytes-last
bounds-bytes-last c =
    let p = c.requires in
    let f = row_ready p.ready.tested p.i_lt_rows.0 c.read-row.ensures c.args.bytes.now p.i_lt_rows.1 in
    let x = f.from_one in let y = f.ordered in let z = f.inside in
    omega arith

pub send_truth-requires : goal.send_truth-requires
send_truth-requires c =
    let a = c.args in
    let p = c.requires in
    rw (as_truth a.t.now a.h.rows c.read-row.result a.bytes.now
    c.in-Logical.is)
    at (row_legal p.ready.tested p.i_lt_rows.0 c.read-row.ensures a.bytes.now p.bytes_value)

pub returns-in-Single : goal.returns-in-Single
unfolding decimals_of
returns-in-Single c =
    let a = c.args in
    let p = c.requires in
    let is = c.read-row.ensures in
    let r = c.read-row.result in
    let e = c.in-Single.is in
    let s = as_single a.t.now a.h.rows r a.bytes.now e in
    let g = row_legal p.ready.tested p.i_lt_rows.0 is a.bytes.now p.bytes_value in
    sent_as (c.send_single.ensures (legal a.t.now a.h.rows r) (rw s at g))
    (row_text p.ready.tested p.i_lt_rows.0 is a.bytes.now s (ap decimals_of e))

pub returns-in-Quantity : goal.returns-in-Quantity
unfolding decimals_of
returns-in-Quantity c =
    let a = c.args in
    let p = c.requires in
    let is = c.read-row.ensures in
    let r = c.read-row.result in
    let e = c.in-Quantity.is in
    let s = as_quantity a.t.now a.h.rows r a.bytes.now _ e in
    let g = row_legal p.ready.tested p.i_lt_rows.0 is a.bytes.now p.bytes_value in
    sent_as (c.send_quantity.ensures (legal a.t.now a.h.rows r) (rw s at g))
    (row_text p.ready.tested p.i_lt_rows.0 is a.bytes.now s (ap decimals_of e))

pub returns-in-Character : goal.returns-in-Character
unfolding decimals_of
returns-in-Character c =
    let a = c.args in
    let p = c.requires in
    let e = c.in-Character.is in
    sent_as c.send_words.ensures (row_text p.ready.tested p.i_lt_rows.0 c.read-row.ensures a.bytes.now
    (as_text a.t.now a.h.rows c.read-row.result a.bytes.now e) (ap decimals_of e))

pub returns-in-Logical : goal.returns-in-Logical
unfolding decimals_of
returns-in-Logical c =
    let a = c.args in
    let p = c.requires in
    let e = c.in-Logical.is in
    sent_as c.send_truth.ensures (row_text p.ready.tested p.i_lt_rows.0 c.read-row.ensures a.bytes.now
    (as_truth a.t.now a.h.rows c.read-row.result a.bytes.now e) (ap decimals_of e))
