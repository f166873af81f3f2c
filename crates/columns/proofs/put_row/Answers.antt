-- `columns::put_row` meets its contract: each kind by its writer.
-- Assumes nothing.
use mathlib.Core.Path.{refl, sym, ap, ◌∙◌}
use mathlib.Core.List.{List}
use native.Mathlib.Omega.{arith}
use Rattle.below.specs.Below.{holds_not}
use Rattle.layout.specs.declared.Kind.TheVariants.{Multiple}
use Rattle.layout.specs.declared.Spread.TheVariants.{Bits}
use Rattle.readings.specs.Ready.{single_ready, quantity_ready}
use Rattle.matrix.specs.declared.Entry.{Entry}
use Rattle.matrix.specs.Put.{put_entries}
use Rattle.matrix.specs.Entry.{entries_none}
use Rattle.columns.specs.Reach.{readable_ready}
use Rattle.columns.specs.Rows.{by_none, by_many}
use Rattle.columns.specs.Said.{single_shape, single_good, single_row, amount_shape, amount_good, amount_row, truth_shape, truth_row}
use Rattle.columns.specs.Said.{text_shape, set_shape, one_room}
use Rattle.columns.proofs.put_row.Goals as goal

pub put_single-requires : goal.put_single-requires
put_single-requires c =
    let b = c.args.bytes.now in
    let p = c.requires in
    let q = p.tens.1 in
    let e = c.in-Single.is in
    let f = single_ready (readable_ready q) e in record {
      w_bound = (f.few, f.reach, f.inside);
      entry_good = single_good q b p.bytes_value e;
      flags_lt_values = one_room q b p.bytes_value p.marked_row.0 (single_shape q b p.bytes_value e) p.room;
    }

pub put_bitstring-requires : goal.put_bitstring-requires
put_bitstring-requires c =
    let p = c.requires in
    let e = c.in-Multiple.is
    ∙ ap Multiple c.in-Bits.is in
    let s = set_shape p.tens.1 c.args.bytes.now p.bytes_value Bits e in record {
      readable = (p.tens.1, p.tens.2, e);
      bytes_value = p.bytes_value;
      marked_set = (p.marked_row.0.set s, p.marked_row.1);
      room = p.room;
    }

pub put_spread-requires : goal.put_spread-requires
put_spread-requires c =
    let p = c.requires in
    let e = c.in-Multiple.is
    ∙ ap Multiple c.in-Fields.is in
    let s = set_shape p.tens.1 c.args.bytes.now p.bytes_value _ e in record {
      readable = (p.tens.1, p.tens.2, e);
      bytes_value = p.bytes_value;
      marked_set = (p.marked_row.0.set s, p.marked_row.1);
      room = p.room;
    }

pub put_quantity-requires : goal.put_quantity-requires
put_quantity-requires c =
    let b = c.args.bytes.now in
    let p = c.requires in
    let q = p.tens.1 in
    let e = c.in-Quantity.is in
    let f = quantity_ready (readable_ready q) e in record {
      tens = (p.tens.0, f.1);
      w_bound = (f.0.few, f.0.reach, f.0.inside);
      entry_good = amount_good q b p.bytes_value _ e;
      flags_lt_values = one_room q b p.bytes_value p.marked_row.0 (amount_shape q b p.bytes_value _ e) p.room;
    }

pub put_truth-requires : goal.put_truth-requires
put_truth-requires c =
    let b = c.args.bytes.now in
    let p = c.requires in
    one_room p.tens.1 b p.bytes_value p.marked_row.0 (truth_shape p.tens.1 b p.bytes_value c.in-Logical.is)
    p.room

pub returns-in-Single : goal.returns-in-Single
returns-in-Single c =
    let a = c.args in
    let p = c.requires in (
      c.put_single.ensures ∙ ap (λ (es : List Entry). put_entries a.out.now a.flags a.values es)
          (sym (single_row p.tens.1 a.bytes.now p.bytes_value c.in-Single.is)),
      λ x. holds_not x refl,
    )

pub returns-in-Bits : goal.returns-in-Bits
returns-in-Bits c =
    let a = c.args in
    let p = c.requires in
    let e = c.in-Multiple.is
    ∙ ap Multiple c.in-Bits.is in
    rw (by_many a.t.now a.rows a.row a.bytes.now (set_shape p.tens.1 a.bytes.now p.bytes_value Bits e))
    c.put_bitstring.ensures

pub returns-in-Fields : goal.returns-in-Fields
returns-in-Fields c =
    let a = c.args in
    let p = c.requires in
    let e = c.in-Multiple.is
    ∙ ap Multiple c.in-Fields.is in
    rw (by_many a.t.now a.rows a.row a.bytes.now (set_shape p.tens.1 a.bytes.now p.bytes_value _ e))
    c.put_spread.ensures

pub returns-in-Quantity : goal.returns-in-Quantity
returns-in-Quantity c =
    let a = c.args in
    let p = c.requires in (
      c.put_quantity.ensures ∙ ap (λ (es : List Entry). put_entries a.out.now a.flags a.values es)
          (sym (amount_row p.tens.1 a.bytes.now p.bytes_value _ c.in-Quantity.is)),
      λ x. holds_not x refl,
    )

pub returns-in-Character : goal.returns-in-Character
returns-in-Character c =
    let a = c.args in
    let p = c.requires in (
      sym (ap (λ (es : List Entry). put_entries a.out.now a.flags a.values es)
          (by_none a.t.now a.rows a.row a.bytes.now
          (text_shape p.tens.1 a.bytes.now p.bytes_value c.in-Character.is))
          ∙ entries_none a.out.now a.flags a.values),
      λ x. holds_not x refl,
    )

pub returns-in-Logical : goal.returns-in-Logical
returns-in-Logical c =
    let a = c.args in
    let p = c.requires in (
      c.put_truth.ensures ∙ ap (λ (es : List Entry). put_entries a.out.now a.flags a.values es)
          (sym (truth_row p.tens.1 a.bytes.now p.bytes_value c.in-Logical.is)),
      λ x. holds_not x refl,
    )

pub overflow_sub-last : goal.overflow_sub-last
overflow_sub-last c = let r = readable_ready c.requires.tens.1 in let o = r.from_one in
    let d = r.ordered in omega arith

pub bounds-bytes-last : goal.bounds-bytes-last
bounds-bytes-last c = let r = readable_ready c.requires.tens.1 in let o = r.from_one in
    let d = r.ordered in let i = r.inside in omega arith
