-- `matrices::write_sound` meets its contract: 80, 81, 82, or written.
-- Assumes nothing.
use mathlib.Core.Path.{◌≡◌, sym, ◌∙◌}
use Prim.Native.Nat.{ℕ, ◌+◌, ◌*◌, ◌≤◌}
use native.Mathlib.Omega.{arith}
use borrow.Author.Tests.{ltb-false}
use lib.Dec.{ltb}
use mathlib.Core.Bool.{Bool, false}
use Rattle.files.specs.rule.Tested.{Tested}
use Rattle.matrix.specs.rule.Bytes.{total_of}
use Rattle.matrices.specs.rule.Matrix.{matrix_said}
use Rattle.matrices.specs.Records.{file_sound}
use Rattle.matrices.specs.Written.{no_column, too_large, short_room, all_written}
use Rattle.matrices.proofs.write_sound.Goals as goal
use Rattle.matrices.proofs.write_sound.Goals.{After-read-h}

-- a sound file's table was tested
tested : (c : After-read-h) → Tested c.args.t.now c.read-h.result
tested c = record {
  good = (file_sound c.args.t.now c.args.d.now
      c.args.records c.requires).0;
  head = c.read-h.ensures;
}

-- it is not too large
low : (n m : ℕ) {b : Bool} → b ≡ ltb 16777216 (total_of n m) → b ≡ false → total_of n m ≤ 16777216
low n m e f = ltb-false 16777216 (total_of n m) (sym e ∙ f)

pub columns_of-columns-requires : goal.columns_of-columns-requires
columns_of-columns-requires c = tested c

pub returns-then-columns-eq0 : goal.returns-then-columns-eq0
unfolding matrix_said
returns-then-columns-eq0 c = no_column c.args.t.now c.args.d.now
    c.args.out.now c.requires
    c.columns_of-columns.ensures.0 c.if-columns-eq0.true

pub too_large-requires : goal.too_large-requires
too_large-requires c = (omega (arith, c.if-columns-eq0.false), c.columns_of-columns.ensures.1)

pub returns-then-too_large : goal.returns-then-too_large
unfolding matrix_said
returns-then-too_large c =
    too_large c.args.t.now c.args.d.now c.args.out.now c.requires c.columns_of-columns.ensures.0
    c.if-columns-eq0.false (sym c.too_large.ensures ∙ c.if-too_large.true)

pub overflow_mul-total : goal.overflow_mul-total
overflow_mul-total c = omega (
  arith,
  low c.args.records
      c.columns_of-columns.result c.too_large.ensures c.if-too_large.false,
)

pub overflow_add-total : goal.overflow_add-total
overflow_add-total c = omega (
  arith,
  low c.args.records
      c.columns_of-columns.result c.too_large.ensures c.if-too_large.false,
)

pub overflow_mul-total-2 : goal.overflow_mul-total-2
overflow_mul-total-2 c = omega (
  arith,
  low c.args.records
      c.columns_of-columns.result c.too_large.ensures c.if-too_large.false,
)

pub overflow_mul-total-3 : goal.overflow_mul-total-3
overflow_mul-total-3 c = omega (
  arith,
  low c.args.records
      c.columns_of-columns.result c.too_large.ensures c.if-too_large.false,
)

pub overflow_add-total-2 : goal.overflow_add-total-2
overflow_add-total-2 c = omega (
  arith,
  low c.args.records
      c.columns_of-columns.result c.too_large.ensures c.if-too_large.false,
)

pub returns-then-out-total : goal.returns-then-out-total
unfolding matrix_said
returns-then-out-total c =
    short_room c.args.t.now c.args.d.now c.args.out.now c.requires c.columns_of-columns.ensures.0 c.if-columns-eq0.false
    (sym c.too_large.ensures ∙ c.if-too_large.false)
    (omega (arith, c.if-out-total.true))

pub fill-requires : goal.fill-requires
fill-requires c = record {
  tested = (
    tested (goal.at.fill-requires c).After-read-h,
    c.requires,
  );
  columns_value = (
    c.columns_of-columns.ensures.0,
    omega (arith, c.if-columns-eq0.false),
    low c.args.records
        c.columns_of-columns.result c.too_large.ensures
        c.if-too_large.false,
    omega (arith, c.if-out-total.false),
  );
}

pub returns : goal.returns
unfolding matrix_said
returns c =
    let a = c.args in
    let n = a.records in
    let m = c.columns_of-columns.result in
    let e : 24 + 24 * m + 9 * (n * m) ≡ total_of n m = omega arith in
    rw e (all_written a.t.now a.d.now a.out.now
    c.requires
    c.columns_of-columns.ensures.0
    c.if-columns-eq0.false
    (sym c.too_large.ensures ∙ c.if-too_large.false)
    (omega (arith, c.if-out-total.false)) c.fill.ensures)
