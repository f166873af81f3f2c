use mathlib.Core.Path.{◌≡◌}
use native.Mathlib.Omega.{arith}
use Rattle.value_fields.specs.Numeral.{digits_two}
use Rattle.value_fields.specs.Stretch.{stretch_none}
use Rattle.value_fields.proofs.Stretch.{stretch_over, stretch_then}
use Rattle.value_fields.proofs.put_tens.Goals as goal

pub returns-then-w-t : goal.returns-then-w-t
returns-then-w-t c = stretch_over c.loop-t.invariant (omega arith) (omega arith) (omega arith)

pub put_run-end-requires : goal.put_run-end-requires
put_run-end-requires c =
    let s = c.loop-t.invariant in
    let f = c.requires.w_in_bounds in
    record {
      tens = c.requires.tens;
      digits = (omega arith, omega arith, λ n l h. digits_two n (omega arith) (omega arith));
      w_in_bounds = (omega arith, f.0, omega (arith, s.few, s.room, f));
    }

pub loop-t-preserved : goal.loop-t-preserved
loop-t-preserved c = stretch_then c.loop-t.invariant c.put_run-end.ensures (omega arith) (omega arith)

pub returns : goal.returns
returns c =
    let l = c.loop-t in
    let e : l.t ≡ 10 = omega arith in
    rw e at l.invariant

pub loop-t-init : goal.loop-t-init
loop-t-init c = stretch_none _ _ _ _ _ _
