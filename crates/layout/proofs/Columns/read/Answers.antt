use Prim.Native.Nat.{◌+◌, ◌<◌, ◌^◌}
use native.Mathlib.Omega.{arith}
use Rattle.layout.specs.rule.Layout.{columns_at}
use mir.Facts.{to_z-of_z}
use borrow.Author.Rules.{sfits_of}
use Rattle.layout.proofs.Columns.read.Goals as goal

pub returns : goal.returns
unfolding columns_at
returns c =
    rw (
      to_z-of_z (sfits_of c.from-1.given),
      to_z-of_z (sfits_of c.to-1.given),
      c.count_at.ensures,
      c.count_at-2.ensures,
      c.count_at-3.ensures,
      c.count_at-4.ensures,
    ) (rw (
      c.count_at-5.ensures,
      c.count_at-6.ensures,
      c.count_at-7.ensures,
      c.count_at-8.ensures,
      c.count_at-9.ensures,
      c.count_at-10.ensures,
    ) (rw (
      c.count_at-11.ensures,
      c.count_at-12.ensures,
      c.count_at-13.ensures,
      c.count_at-14.ensures,
      c.count_at-15.ensures,
      c.count_at-16.ensures,
    ) (rw (
      c.count_at-17.ensures,
      c.count_at-18.ensures,
    ))))
