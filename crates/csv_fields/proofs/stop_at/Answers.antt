-- `csv_fields::stop_at` meets its contract.
use native.Mathlib.Omega.{arith}
use Rattle.csv_fields.proofs.Page.{stop_end, stop_comma, stop_other, stop_cut, stop_last, stop_lone}
use Rattle.csv_fields.proofs.stop_at.Goals as goal

pub returns-then-d-i : goal.returns-then-d-i
returns-then-d-i c = stop_end c.args.d.now c.args.i c.if-d-i.true

pub returns-then-d-i-eq44 : goal.returns-then-d-i-eq44
returns-then-d-i-eq44 c = (
  stop_comma c.args.d.now c.args.i
      (omega (arith, c.if-d-i.false)) c.if-d-i-eq44.true,
  omega arith,
  omega (arith, c.if-d-i.false),
)

pub returns-then-d-i-ne13 : goal.returns-then-d-i-ne13
returns-then-d-i-ne13 c = stop_other c.args.d.now c.args.i
    (omega (arith, c.if-d-i.false)) c.if-d-i-eq44.false c.if-d-i-ne13.true

pub returns-then-d-j : goal.returns-then-d-j
returns-then-d-j c =
    let args = c.args in
    stop_cut args.d.now args.i (omega (arith, c.if-d-i.false)) c.if-d-i-ne13.false c.if-d-j.true

pub returns-then-d-j-eq10 : goal.returns-then-d-j-eq10
returns-then-d-j-eq10 c =
    let args = c.args in (
      stop_last args.d.now args.i (omega (arith, c.if-d-i.false)) c.if-d-i-ne13.false
          (omega (arith, c.if-d-j.false)) c.if-d-j-eq10.true,
      omega arith,
      omega (arith, c.if-d-j.false),
    )

pub returns : goal.returns
returns c =
    let args = c.args in
    stop_lone args.d.now args.i (omega (arith, c.if-d-i.false)) c.if-d-i-ne13.false
    (omega (arith, c.if-d-j.false)) c.if-d-j-eq10.false
