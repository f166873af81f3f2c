use mathlib.Core.Path.{◌≡◌, refl, sym, ◌∙◌}
use mathlib.Core.Logic.{⊎_elim}
use Prim.Native.Nat.{◌-◌, ◌≤◌}
use native.Mathlib.Nat.{eq-or-lt_of_le}
use native.Mathlib.Omega.{arith}
use Rattle.files.specs.Tested.{tested_rows}
use Rattle.lines.specs.Appended.{as_text, then, keeps_room, nothing_more}
use Rattle.listing.specs.Listing.{rows_more, rows_none}
use Rattle.listing.proofs.list_rows.Goals as goal

pub loop-row-init : goal.loop-row-init
loop-row-init c =
    let p = c.requires in
    let a = c.args in
    let z : a.i - a.i ≡ 0 = omega arith in (
      omega arith,
      refl,
      refl,
      λ e. refl,
      as_text (nothing_more _ _ (omega (arith, p.n_bound.2))) (sym (rows_none a.t.now a.n a.bytes.now a.i _ z)),
    )

pub overflow_sub-out : goal.overflow_sub-out
overflow_sub-out c = omega (arith, c.loop-row.invariant.4.inside)

pub returns-then-out-end-lt-LINE_ROOM : goal.returns-then-out-end-lt-LINE_ROOM
returns-then-out-end-lt-LINE_ROOM c =
    let l = c.loop-row.invariant in
    let p = c.requires in
    let e = tested_rows p.ready.tested in
    record {
      stands = l.4;
      from = omega arith;
      within = omega (arith, l.0, e);
      some = λ h. ⊎_elim (λ q. absurd (omega (arith, l.3 (sym q), c.if-out-end-lt-LINE_ROOM.true, l.2, p.n_bound.2))) (λ q. q)
          (let g : c.args.i ≤ c.loop-row.row = omega arith in eq-or-lt_of_le g);
    }

pub list_row-end-requires : goal.list_row-end-requires
list_row-end-requires c =
    let l = c.loop-row.invariant in
    let p = c.requires in record {
      ready = record { tens = p.ready.tens; tested = p.ready.tested; list = l.1 ∙ p.ready.list };
      n_bound = (p.n_bound.0, c.loop-row-test.true, p.n_bound.1, omega (arith, c.if-out-end-lt-LINE_ROOM.false, l.4.inside));
    }

pub loop-row-preserved : goal.loop-row-preserved
loop-row-preserved c =
    let l = c.loop-row.invariant in
    let a = c.args in
    let r = c.list_row-end.ensures in (
      omega (arith, l.0, c.loop-row-test.true),
      c.list_row-end.auto.list ∙ l.1,
      keeps_room r ∙ l.2,
      λ e. absurd (omega (arith, e)),
      as_text (then l.4 r) (rows_more a.t.now a.n a.bytes.now a.i _ (omega arith)),
    )

pub returns : goal.returns
returns c =
    let l = c.loop-row.invariant in
    let a = c.args in
    let e = tested_rows c.requires.ready.tested in
    let q : c.max.result ≡ c.loop-row.row = omega (arith, c.max.ensures, l.0, c.loop-row-test.false) in
    record {
      stands = rw q l.4;
      from = omega (arith, q);
      within = omega (arith, q, l.0, e);
      some = λ h. omega
          (arith, h, q, c.loop-row-test.false, e);
    }

pub shape_of-list-then-out-end-lt-LINE_ROOM : goal.shape_of-list-then-out-end-lt-LINE_ROOM
shape_of-list-then-out-end-lt-LINE_ROOM c = c.loop-row.invariant.1

pub shape_of-out-then-out-end-lt-LINE_ROOM : goal.shape_of-out-then-out-end-lt-LINE_ROOM
shape_of-out-then-out-end-lt-LINE_ROOM c = c.loop-row.invariant.2

pub shape_of-list : goal.shape_of-list
shape_of-list c = c.loop-row.invariant.1

pub shape_of-out : goal.shape_of-out
shape_of-out c = c.loop-row.invariant.2
