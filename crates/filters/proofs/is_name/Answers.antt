use mathlib.Core.Path.{sym, ◌∙◌}
use native.Mathlib.Omega.{arith}
use Rattle.filters.specs.Code.{text_at, name_in}
use Rattle.filters.proofs.Summing.{sums_apart}
use Rattle.filters.proofs.is_name.Goals as goal

pub offset_bounds-sums-i : goal.offset_bounds-sums-i
offset_bounds-sums-i c = let f = c.requires.known.lying.few in let h = c.requires.i_lt_count.0 in omega arith

pub bounds-sums-i : goal.bounds-sums-i
bounds-sums-i c = let y = c.requires.known in let f = y.lying.few in let r = y.summing.room in
    let h = c.requires.i_lt_count.0 in omega arith

pub returns-then-sums-i : goal.returns-then-sums-i
returns-then-sums-i c =
    let a = c.args in
    sums_apart a.latin a.standard a.d.now (text_at a.p a.n) (name_in a.rows.now a.i)
    (λ z. c.if-sums-i.true (c.requires.known.summing.names a.i c.requires.i_lt_count.0 ∙ z ∙ sym c.requires.i_lt_count.2))

pub column-q-requires : goal.column-q-requires
column-q-requires c = let y = c.requires.known.lying in let h = c.requires.i_lt_count.0 in
    let f = y.few in (y.room, omega arith, omega arith)

pub column-m-requires : goal.column-m-requires
column-m-requires c = let y = c.requires.known.lying in
    let h = c.requires.i_lt_count.0 in let f = y.few in (y.room, omega arith, omega arith)

pub same_name-requires : goal.same_name-requires
same_name-requires c =
    let b = c.requires.known.lying.names c.args.i c.requires.i_lt_count.0 in
    let e = c.column-q.ensures in
    let f = c.column-m.ensures in
    (c.requires.i_lt_count.1, omega arith)

pub returns : goal.returns
returns c = c.same_name.ensures ∙ rw (c.column-q.ensures, c.column-m.ensures)
