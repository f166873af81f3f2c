use mathlib.Core.Path.{ap}
use Prim.Native.Nat.{◌*◌}
use lib.ListN.{length}
use Rattle.fronts.specs.Front.{whole_text}
use Rattle.clean.specs.declared.Written.TheVariants as written
use Rattle.clean.specs.rule.Written.{clean_written, out_after}
use Rattle.clean.specs.Law.{ample_stored}
use Rattle.clean.proofs.write_once.Goals as goal

pub returns : goal.returns
unfolding clean_written out_after
returns c =
    let d = c.args.d.now in
    let e = ample_stored (whole_text d) {m = 3 * length d} c.send_clean-n.ensures c.requires.d_len_bound c.requires.d_bound.0
    c.requires.d_bound.1 in record {
      value = rw e.0 (ap written.Done e.1);
      out_after = rw e.0 e.2;
    }
