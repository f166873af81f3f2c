use mathlib.Core.Path.{◌≡◌, sym, ap, ◌∙◌}
use Prim.Native.Nat.{ℕ, ◌+◌, ◌-◌, ◌<◌}
use native.Mathlib.Omega.{arith}
use lib.ListN.{length-set}
use Rattle.layout.specs.rule.Layout.{most_rows}
use Rattle.filters.specs.Code.{name_in}
use Rattle.filters.specs.Sums.{sum_in, bin_of}
use Rattle.filters.proofs.Asked.{above}
use Rattle.filters.proofs.Summing.{with_names, room_plain, room_filtered}
use Rattle.filters.proofs.note_row.Goals as goal

pub column-q-requires : goal.column-q-requires
column-q-requires c = let y = c.requires.lying in let f = y.few in (y.room, omega arith, omega arith)

pub column-m-requires : goal.column-m-requires
column-m-requires c = let y = c.requires.lying in let f = y.few in (y.room, omega arith, omega arith)

pub name_sum-requires : goal.name_sum-requires
name_sum-requires c =
    let b = c.requires.lying.names c.args.i (omega arith) in
    let e = c.column-q.ensures in
    let f = c.column-m.ensures in
    omega arith

pub offset_bounds-sums-i : goal.offset_bounds-sums-i
offset_bounds-sums-i c = let f = c.requires.lying.few in omega arith

pub bounds-sums-i : goal.bounds-sums-i
bounds-sums-i c = let f = c.requires.lying.few in let r = c.requires.summing.room in
    omega arith

pub column-f-requires : goal.column-f-requires
column-f-requires c = let y = c.requires.lying in let f = y.few in (y.room, omega arith, omega arith)

pub overflow_sub-f : goal.overflow_sub-f
overflow_sub-f c = let h = above c.column-f.result c.if-f-ne0.true in omega arith

pub offset_bounds-sums-f : goal.offset_bounds-sums-f
offset_bounds-sums-f c =
    let f = c.requires.lying.few in
    let b = c.requires.lying.filters c.args.i (omega arith) in
    let e = c.column-f.ensures in
    omega arith

pub bounds-sums-f : goal.bounds-sums-f
bounds-sums-f c =
    let h = above c.column-f.result c.if-f-ne0.true in
    let f = c.requires.lying.few in
    let r = c.requires.summing.room in
    let b = c.requires.lying.filters c.args.i (omega arith) in
    let e = c.column-f.ensures in
    let l = length-set c.args.sums.now c.args.i c.name_sum.result in
    omega arith

pub offset_bounds-sums-k : goal.offset_bounds-sums-k
offset_bounds-sums-k c = omega (arith, c.bin_of-k.ensures.2)

pub bounds-sums-k : goal.bounds-sums-k
bounds-sums-k c =
    let r = c.requires.summing.room in
    let l = length-set c.args.sums.now c.args.i c.name_sum.result in
    omega (arith, c.bin_of-k.ensures.2)

pub returns-then-f-ne0 : goal.returns-then-f-ne0
returns-then-f-ne0 c =
    let a = c.args in
    let few : a.i < most_rows = omega (arith, c.requires.lying.few) in
    let is : c.name_sum.result ≡ sum_in a.latin a.d.now (name_in a.rows.now a.i) =
    c.name_sum.ensures ∙ rw (
      c.column-q.ensures,
      c.column-m.ensures,
    ) in
    let h = above c.column-f.result c.if-f-ne0.true in
    let e = c.column-f.ensures in
    let b = c.requires.lying.filters a.i (omega arith) in
    let k : c.column-f.result - 1 < a.i + 1 = omega arith in
    room_filtered a.latin a.d.now a.rows.now a.i a.sums.now c.requires.summing few _ is _ (c.bin_of-k.ensures.0 ∙ ap bin_of
    (with_names a.latin a.d.now a.rows.now a.i a.sums.now c.requires.summing few _ is (c.column-f.result - 1) k
    ∙ ap (λ (f : ℕ). sum_in a.latin a.d.now (name_in a.rows.now (f - 1))) e)) c.bin_of-k.ensures.2

pub returns-else-f-ne0 : goal.returns-else-f-ne0
returns-else-f-ne0 c =
    let a = c.args in
    let few : a.i < most_rows = omega (arith, c.requires.lying.few) in
    let is : c.name_sum.result ≡ sum_in a.latin a.d.now (name_in a.rows.now a.i) =
    c.name_sum.ensures ∙ rw (
      c.column-q.ensures,
      c.column-m.ensures,
    ) in
    room_plain a.latin a.d.now a.rows.now a.i a.sums.now c.requires.summing few _ is
    (sym c.column-f.ensures ∙ c.if-f-ne0.false)
