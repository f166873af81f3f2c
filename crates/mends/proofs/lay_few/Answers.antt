use mathlib.Core.Path.{◌≡◌, refl, sym, ap, ◌∙◌}
use Prim.Native.Nat.{suc, ◌+◌, ◌-◌}
use native.Mathlib.Omega.{arith}
use lib.ListN.{length-set}
use lib.Seq.{sets}
use Rattle.cuts.specs.Records.{part}
use Rattle.mends.specs.Sizes.{length_plain}
use Rattle.mends.specs.Mend.{part_length, plain_next, plain_over}
use Rattle.mends.proofs.lay_few.Goals as goal

pub loop-j-init : goal.loop-j-init
loop-j-init c = let e : c.args.at + (c.args.from - c.args.from) ≡ c.args.at = omega arith in (rw e, refl)

pub loop-j-preserved : goal.loop-j-preserved
loop-j-preserved c =
    let l = c.loop-j in
    let a = c.args in
    let o = a.at + (l.j - a.from) in
    let n = plain_next a.d.now l.j a.stop (omega arith) c.requires.1 in
    let e : a.at + (l.j + 1 - a.from) ≡ suc o = omega arith in (
      l.invariant.0 ∙ ap (sets l.out o) n ∙ rw (c.plain.ensures, e),
      simp length-set l.invariant.1,
    )

pub returns : goal.returns
returns c =
    let l = c.loop-j in
    let a = c.args in
    let z = plain_over a.d.now l.j a.stop (omega arith) in
    record {
      stored = sym (l.invariant.0 ∙ ap (sets l.out (a.at + (l.j - a.from))) z);
      next = rw (
        length_plain (part a.d.now a.from a.stop),
        part_length a.d.now a.from a.stop c.requires.1,
      );
    }

pub shape_of-out : goal.shape_of-out
shape_of-out c = c.loop-j.invariant.1
