use mathlib.Core.Path.{◌≡◌, sym, ap, ◌∙◌}
use native.Mathlib.Omega.{arith}
use Prim.Native.Nat.{ℕ, ◌+◌, ◌-◌, ◌*◌, ◌≤◌}
use Rattle.std.proofs.Common.{add-zero, add-mul, one-mul, zero-mul, mul-le-mul_right}
use lib.ListN.{get_or}
use Rattle.value_fields.specs.Stretch.{stretch_none}
use Rattle.value_fields.proofs.Stretch.{stretch_set, stretch_clear, stretch_over}
use Rattle.value_fields.proofs.put_run.Goals as goal
use Rattle.value_fields.proofs.put_run.Goals.{then-bytes-p-eq49, else-bytes-p-eq49}

-- one turn's bytes more
more : (j m : ℕ) → (j + 1) * m ≡ j * m + m
more j m = add-mul j 1 m ∙ ap (λ (x : ℕ). j * m + x) (one-mul m)

pub returns-then-w-n : goal.returns-then-w-n
returns-then-w-n g c =
    let f = c.requires.digits in
    stretch_over c.loop-j.invariant (omega (arith, f.0)) (omega arith) (mul-le-mul_right (g.row.D + 1) (omega arith))

pub overflow_add-n : goal.overflow_add-n
overflow_add-n g c = omega (arith, c.requires.digits)

pub put_behind-requires : goal.put_behind-requires
put_behind-requires g c =
    let s = c.loop-j.invariant in
    let f = c.requires.w_in_bounds in
    let l : (c.loop-j.j + 1) * (g.row.D + 1) ≤ g.row.N * (g.row.D + 1) = mul-le-mul_right (g.row.D + 1) (omega arith) in
    record {
      tens = c.requires.tens;
      n_bound = (
        omega (arith, c.requires.digits),
        omega (arith, f),
        omega (arith, s.few, s.room, f, l, more c.loop-j.j (g.row.D + 1)),
      );
    }

pub overflow_add-end : goal.overflow_add-end
overflow_add-end g c =
    let l : (c.loop-j.j + 1) * (g.row.D + 1) ≤ g.row.N * (g.row.D + 1) = mul-le-mul_right (g.row.D + 1) (omega arith) in
    omega (arith, c.loop-j.invariant.few, c.requires.w_in_bounds, l, more c.loop-j.j (g.row.D + 1))

pub loop-j-preserved : goal.loop-j-preserved
loop-j-preserved g c =
    let a = c.args in
    let f = c.requires.digits in
    let l = c.loop-j in
    let k : a.first - 1 + l.j ≡ a.first + l.j - 1 = omega (arith, f.0) in
    let byte = ap (λ (x : ℕ). get_or a.bytes.now (a.p + x) 0) k in
    let e = more l.j (g.row.D + 1) in
    elim c.if-bytes-p-eq49.branch [
      | then-bytes-p-eq49 w ↦
          rw (w.out-is, w.end-is)
          (stretch_set l.invariant (omega (arith, f.0)) (byte ∙ w.if-bytes-p-eq49.true) (omega (arith, f.0))
          (f.2 (a.first + l.j) (omega arith) (omega arith)) w.put_behind.ensures (omega arith) (omega (arith, e)))
      | else-bytes-p-eq49 w ↦
          rw (w.out-is, w.end-is)
          (stretch_clear l.invariant (omega (arith, f.0)) (λ e. w.if-bytes-p-eq49.false (sym byte ∙ e)) (omega arith) (omega (arith, e)))
    ]

pub returns : goal.returns
returns g c =
    let l = c.loop-j in
    let first = c.args.first in
    let n : l.j ≡ g.row.N = omega arith in
    let e : first - 1 + g.row.N ≡ first + g.row.N - 1 = omega (arith, c.requires.digits.0) in
    rw e at (rw n at l.invariant)

pub loop-j-init : goal.loop-j-init
loop-j-init g c = rw (add-zero, zero-mul) (stretch_none _ _ _ _ _ _)
