-- `files::pass_sound` meets its contract: one way behind the other.
use native.Mathlib.Omega.{arith}
use Rattle.files.specs.Passed.{passed_on}
use Rattle.files.proofs.pass_sound.Goals as goal

pub pass_batches-ran-requires : goal.pass_batches-ran-requires
pass_batches-ran-requires c = record {
  tested = c.requires.tested;
  ending = (c.requires.ending.0, c.requires.ending.1, c.requires.ending.2, omega arith, omega arith);
  scratch_len_bound = c.requires.scratch_len_bound;
}

pub pass_each-requires-2 : goal.pass_each-requires-2
pass_each-requires-2 c =
    let b = c.pass_batches-ran in
    let m = b.ensures.more in record {
      tested = c.requires.tested;
      ending = (c.requires.ending.0, omega arith, b.ensures.fewer);
      scratch_len_bound = rw b.auto.scratch c.requires.scratch_len_bound;
    }

pub returns : goal.returns
returns c = passed_on c.pass_batches-ran.ensures c.pass_each-2.ensures
