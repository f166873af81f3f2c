-- `columns::put_bitstring` meets its contract: byte by byte where it has every category, else as it is read.
-- Assumes nothing.
use mathlib.Core.Path.{subst}
use native.Mathlib.Omega.{arith}
use Rattle.layout.specs.declared.Kind.{Kind}
use Rattle.fields.specs.Facts.{KindFacts}
use Rattle.readings.specs.Ready.{bits_ready}
use Rattle.columns.specs.Reach.{readable_ready}
use Rattle.columns.specs.Room.{room_as}
use Rattle.columns.specs.Whole.{whole_count, whole_reading, whole_put}
use Rattle.columns.proofs.put_bitstring.Goals as goal

pub put_whole-requires : goal.put_whole-requires
put_whole-requires c =
    let p = c.requires in
    let q = p.readable.0 in
    let e = p.readable.2 in
    let m = p.marked_set.0 in
    let h = c.if-row-m.true in
    let f = bits_ready (readable_ready q) e in
    let some = (subst (λ (k : Kind). KindFacts k c.args.row) e q.facts.kind).some in record {
      le_w = (
        some,
        f.few,
        omega (arith, f.inside, f.from_one),
        omega (arith, h, m.run.within, p.marked_set.1),
        room_as (whole_count q e m h) p.room,
      );
      bytes_value = rw (whole_reading q e m h c.args.bytes.now) at p.bytes_value;
    }

pub returns-then-row-m : goal.returns-then-row-m
returns-then-row-m c =
    let a = c.args in
    let p = c.requires in
    let put = c.put_whole in
    whole_put p.readable.0 p.readable.2 p.marked_set.0 c.if-row-m.true
    a.bytes.now a.flags a.values a.present.now
    put.new.met a.out.now put.ensures

pub overflow_sub-row : goal.overflow_sub-row
overflow_sub-row c = let o = (readable_ready c.requires.readable.0).from_one in omega arith

pub list_read-l-requires : goal.list_read-l-requires
list_read-l-requires c = (
  c.requires.readable.0,
  c.requires.readable.1,
)

pub put_listed-requires : goal.put_listed-requires
put_listed-requires c = record {
  lists = c.list_read-l.ensures;
  marked_set = c.requires.marked_set;
  room = c.requires.room;
}

pub returns : goal.returns
returns c = c.put_listed.ensures
