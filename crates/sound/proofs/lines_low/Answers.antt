use Prim.Native.Nat.{◌%◌, ◌<◌}
use native.Mathlib.Nat.{div-mul-le_self, div-add-mod', mod-lt}
use native.Mathlib.Omega.{arith}
use Rattle.sound.specs.Laid.{over_none, over_same}
use Rattle.sound.proofs.lines_low.Goals as goal

pub with_four-laid-requires : goal.with_four-laid-requires
with_four-laid-requires c =
    let s = c.requires in
    let d = div-mul-le_self c.args.e 4 in record {
      standing = record { few_rows = s.few_rows; few_lines = omega arith; stand = omega arith };
      over = c.loop-k.invariant;
    }

pub loop-k-preserved : goal.loop-k-preserved
loop-k-preserved c = over_same (omega arith) c.with_four-laid.ensures

pub rest_low-requires : goal.rest_low-requires
rest_low-requires c =
    let e = c.args.e in
    let d = div-add-mod' e 4 in
    let m : e % 4 < 4 = mod-lt e (omega arith) in record {
      standing = (c.requires, omega arith, omega arith);
      over = over_same (omega (arith, c.loop-k-test.false)) c.loop-k.invariant;
    }

pub loop-k-init : goal.loop-k-init
loop-k-init c = over_none _ _ _

pub overflow_mul-k : goal.overflow_mul-k
overflow_mul-k c = let d = div-mul-le_self c.args.e 4 in let s = c.requires.few_lines in omega arith

pub overflow_mul-fours : goal.overflow_mul-fours
overflow_mul-fours c = let d = div-mul-le_self c.args.e 4 in
    let s = c.requires.few_lines in omega arith

pub returns : goal.returns
returns c = c.rest_low.ensures
