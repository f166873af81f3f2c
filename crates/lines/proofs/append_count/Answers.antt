-- `lines::append_count` meets its contract: as many digits as the number has.
use Prim.Native.Nat.{◌+◌, ◌≤◌}
use native.Mathlib.Omega.{arith}
use lib.ListN.{length}
use Rattle.ascii.specs.Tens.{digits_few}
use Rattle.lines.specs.Appended.{count_laid}
use Rattle.lines.proofs.append_count.Goals as goal

pub put_digits-requires : goal.put_digits-requires
put_digits-requires c =
    let p = c.requires in
    let f = digits_few c.args.n in
    let e = c.digit_count-w.ensures in record {
      tens = p.tens;
      n_bound = (p.n_bound.0, omega arith, omega arith);
    }

pub overflow_add-result : goal.overflow_add-result
overflow_add-result c =
    omega (arith, digits_few c.args.n, c.digit_count-w.ensures, c.requires.n_bound.1)

pub returns : goal.returns
returns c =
    let a = c.args in
    let room : a.at + c.digit_count-w.result ≤ length a.out.now =
    omega (
      arith,
      digits_few a.n,
      c.digit_count-w.ensures,
      c.requires.n_bound.1,
    ) in
    count_laid a.out.now a.at a.n _ room c.digit_count-w.ensures c.put_digits.ensures
