-- `mends::lay_piece` meets its contract.
use mathlib.Core.Path.{◌≡◌, refl, ◌∙◌}
use native.Mathlib.Omega.{arith}
use Prim.Native.Nat.{◌+◌, ◌-◌}
use Rattle.mends.specs.Mend.{stored_join, stored_length, record_empty, record_full, record_length, blank_stored}
use Rattle.mends.proofs.lay_piece.Goals as goal

pub returns-then-stop-from : goal.returns-then-stop-from
returns-then-stop-from c =
    let a = c.args in
    rw (record_empty _ a.e a.width _ _ c.requires.spans.0 c.if-stop-from.true)
    (record { stored = refl; next = omega arith })

pub lay_bytes-requires : goal.lay_bytes-requires
lay_bytes-requires c =
    let a = c.args in
    let q = c.requires in
    let n = record_length _ a.e a.width _ _ q.spans.0 c.if-stop-from.false q.spans.1 q.from_bound in
    (q.spans.0.on, omega (arith, q.spans.0.within), omega (arith, n, q.from_bound, q.p_in_bounds))

pub overflow_add-at : goal.overflow_add-at
overflow_add-at c =
    let a = c.args in
    let q = c.requires in
    let n = record_length _ a.e a.width _ _ q.spans.0 c.if-stop-from.false q.spans.1 q.from_bound in
    omega (arith, n, q.from_bound, q.p_in_bounds)

pub blank-requires : goal.blank-requires
blank-requires c =
    let a = c.args in
    let q = c.requires in
    let n = record_length _ a.e a.width _ _ q.spans.0 c.if-stop-from.false q.spans.1 q.from_bound in
    omega (arith, n, q.from_bound, q.p_in_bounds, stored_length c.lay_bytes.ensures)

pub overflow_add-end : goal.overflow_add-end
overflow_add-end c =
    let a = c.args in
    let q = c.requires in
    let n = record_length _ a.e a.width _ _ q.spans.0 c.if-stop-from.false q.spans.1 q.from_bound in
    omega (arith, n, q.from_bound, q.p_in_bounds)

pub lay_ending-requires : goal.lay_ending-requires
lay_ending-requires c =
    let a = c.args in
    let q = c.requires in
    let n = record_length _ a.e a.width _ _ q.spans.0 c.if-stop-from.false q.spans.1 q.from_bound in record {
      sized = q.spans.1;
      size_in_bounds = omega (
        arith,
        n,
        q.from_bound,
        q.p_in_bounds,
        stored_length c.lay_bytes.ensures,
        stored_length (blank_stored _ (a.at + (a.p.stop - a.from)) (a.width - (a.p.stop - a.from)) c.blank.ensures),
      );
    }

pub overflow_add-result : goal.overflow_add-result
overflow_add-result c =
    let a = c.args in
    let q = c.requires in
    let n = record_length _ a.e a.width _ _ q.spans.0 c.if-stop-from.false q.spans.1 q.from_bound in
    omega (arith, n, q.from_bound, q.p_in_bounds)

pub returns : goal.returns
returns c =
    let a = c.args in
    let q = c.requires in
    let x = record_full _ a.e a.width _ _ q.spans.0 c.if-stop-from.false in
    let k : a.at + (a.p.stop - a.from) + (a.width - (a.p.stop - a.from)) ≡ a.at + a.width = omega (arith, q.from_bound) in
    rw x (stored_join (stored_join c.lay_bytes.ensures
    (rw k at (blank_stored _ (a.at + (a.p.stop - a.from)) (a.width - (a.p.stop - a.from))
    c.blank.ensures))) c.lay_ending.ensures)

pub overflow_sub-long : goal.overflow_sub-long
overflow_sub-long c = c.requires.spans.0.on

pub overflow_sub-width : goal.overflow_sub-width
overflow_sub-width c = c.requires.from_bound

pub shape_of-out : goal.shape_of-out
shape_of-out c = let a = c.args in
    stored_length c.lay_ending.ensures
    ∙ stored_length (blank_stored _ (a.at + (a.p.stop - a.from)) (a.width - (a.p.stop - a.from))
    c.blank.ensures)
    ∙ stored_length c.lay_bytes.ensures
