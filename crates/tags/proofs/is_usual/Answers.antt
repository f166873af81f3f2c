use mathlib.Core.Path.{refl, sym, ◌∙◌}
use native.Mathlib.Omega.{arith}
use Prim.Native.Nat.{◌+◌}
use lib.Dec.{eqb}
use lib.ListN.{length, get_or}
use borrow.Author.Tests.{eqb-true}
use Rattle.below.specs.Below.{and_left, and_right, holds_not}
use Rattle.tags.proofs.is_usual.Goals as goal

pub returns : goal.returns
returns c e =
    let a = c.args in
    let d = a.d.now in
    let n = length a.w.now in
    let t = c.is_name_there.ensures c.if-not-is_name_there.false in
    let p = eqb (get_or d (a.at + 1 + n) 0) 61 in
    record {
      within = omega arith;
      space = c.if-d-at-ne32.false;
      starts = sym c.starts_name.ensures
          ∙ c.if-not-starts_name.false;
      there = t.0;
      name = t.1;
      equals = eqb-true _ _ (and_left p _ e);
      quote = eqb-true _ _ (and_right p _ e);
    }

pub returns-then-left-lt4 : goal.returns-then-left-lt4
returns-then-left-lt4 c e = absurd (holds_not e refl)

pub returns-then-left-n : goal.returns-then-left-n
returns-then-left-n c e = absurd (holds_not e refl)

pub returns-then-d-at-ne32 : goal.returns-then-d-at-ne32
returns-then-d-at-ne32 c e = absurd (holds_not e refl)

pub returns-then-not-starts_name : goal.returns-then-not-starts_name
returns-then-not-starts_name c e = absurd (holds_not e refl)

pub returns-then-not-is_name_there : goal.returns-then-not-is_name_there
returns-then-not-is_name_there c e = absurd (holds_not e refl)
