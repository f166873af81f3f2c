-- `strides::differ_many` meets its contract: numbers between a least and a most have places below the most.
use mathlib.Core.Path.{◌≡◌, sym, ◌∙◌}
use mir.Syntax.{w64}
use mir.Val.{to_z, of_z}
use borrow.Author.Rules.{rules}
use native.Mathlib.Omega.{arith}
use Rattle.below.specs.Below.{and_left, and_right}
use Rattle.strides.specs.Hull.{counts_within}
use Rattle.strides.proofs.differ_many.Goals as goal
use Rattle.strides.proofs.differ_many.Goals.{After-struct_told-2-1}

least_back : (c : After-struct_told-2-1) → to_z w64 (of_z w64 c.args.h.least) ≡ c.args.h.least
least_back c = search rules

most_back : (c : After-struct_told-2-1) → to_z w64 (of_z w64 c.args.h.most) ≡ c.args.h.most
most_back c = search rules

pub differ_below-requires : goal.differ_below-requires
differ_below-requires c =
    let b = c.before.before.before in
    let l = c.not_above in
    let m = c.not_above-2 in (
      omega arith,
      b.requires.0,
      counts_within _ _ 1023 b.args.h b.requires.1
          (rw (least_back b) at (sym l.ensures ∙ and_left l.result m.result c.if-not_above.true))
          (rw (most_back b) at (sym m.ensures ∙ and_right l.result m.result c.if-not_above.true)),
    )

pub differ_below-requires-then-not_above-2 : goal.differ_below-requires-then-not_above-2
differ_below-requires-then-not_above-2 c =
    let b = c.before.before.before.before.before.before in
    let l = c.not_above-3 in
    let m = c.not_above-4 in (
      omega arith,
      b.requires.0,
      counts_within _ _ 16383 b.args.h b.requires.1
          (rw (least_back b) at (sym l.ensures ∙ and_left l.result m.result c.if-not_above-2.true))
          (rw (most_back b) at (sym m.ensures ∙ and_right l.result m.result c.if-not_above-2.true)),
    )
