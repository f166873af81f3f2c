use mathlib.Core.Path.{refl, ap}
use native.Mathlib.Omega.{arith}
use lib.ListN.{length}
use Rattle.clean.specs.declared.Written.TheVariants as written
use Rattle.clean.specs.rule.Written.{clean_written, out_after}
use Rattle.clean.specs.Law.{too_large, too_short, fits, stored}
use Rattle.clean.proofs.write_clean.Goals as goal

pub measure-n-requires : goal.measure-n-requires
measure-n-requires c = record {
  classes = c.classes-classes.ensures;
  tens = c.powers-powers.ensures;
}

pub returns-then-n-gt1048576 : goal.returns-then-n-gt1048576
unfolding clean_written out_after
returns-then-n-gt1048576 c =
    let e = too_large _ (length c.args.out.now) _
    c.measure-n.ensures c.if-n-gt1048576.true in record {
      value = rw e;
      out_after = rw e;
    }

pub returns-then-out-n : goal.returns-then-out-n
unfolding clean_written out_after
returns-then-out-n c =
    let e = too_short _ (length c.args.out.now) _
    c.measure-n.ensures c.if-n-gt1048576.false c.if-out-n.true in record {
      value = rw e;
      out_after = rw e;
    }

pub overflow_add-n : goal.overflow_add-n
overflow_add-n c = omega (arith, c.if-n-gt1048576.false)

pub send_clean-requires : goal.send_clean-requires
send_clean-requires c = record {
  classes = c.classes-classes.ensures;
  tens = c.powers-powers.ensures;
}

pub shape_of-out : goal.shape_of-out
shape_of-out c = c.send_clean.ensures.room

pub returns : goal.returns
unfolding clean_written out_after
returns c =
    let e = fits _
    (length c.args.out.now) _ c.measure-n.ensures
    c.if-n-gt1048576.false
    c.if-out-n.false in record {
      value = rw e.0 (ap written.Done e.1);
      out_after = rw e.0
          (stored c.send_clean.ensures refl e.1 c.if-out-n.false);
    }
