use mathlib.Core.Path.{refl, sym}
use Prim.Native.Nat.{◌*◌}
use native.Mathlib.Omega.{arith}
use lib.Seq.{length-take-le}
use Rattle.layout.specs.rule.Layout.{row_size}
use Rattle.laying.specs.Code.{header_by}
use borrow.Author.Rules.{rules}
use Rattle.laying.proofs.Matched.{short_differs, parts_match}
use Rattle.laying.proofs.matches.Goals as goal

pub returns-then-t-base : goal.returns-then-t-base
returns-then-t-base c =
    let a = c.args in
    short_differs a.mark a.y a.rows.now a.lines.now (omega arith) (omega arith) a.t.now _ c.base.ensures
    c.if-t-base.true

pub put_header-requires : goal.put_header-requires
unfolding header_by
put_header-requires c = rw c.header_by.ensures (search rules)

pub slice_bounds-same_at-end-2 : goal.slice_bounds-same_at-end-2
slice_bounds-same_at-end-2 c = sym (length-take-le _
    c.args.rows.now (omega arith))

pub same_at-b-requires : goal.same_at-b-requires
same_at-b-requires c =
    let args = c.args in
    rw (length-take-le (row_size * args.y.rows) args.rows.now (omega arith)) (omega (
      arith,
      c.if-t-base.false,
      c.base.ensures,
    ))

pub slice_bounds-same_at-end-3 : goal.slice_bounds-same_at-end-3
slice_bounds-same_at-end-3 c = sym (length-take-le _
    c.args.lines.now
    (omega arith))

pub same_at-c-requires : goal.same_at-c-requires
same_at-c-requires c =
    let args = c.args in
    rw (
      length-take-le (4 * args.y.lines) args.lines.now (omega arith),
      c.base-2.ensures,
    ) (omega (
      arith,
      c.if-t-base.false,
      c.base.ensures,
    ))

pub returns : goal.returns
returns c =
    let a = c.args in
    parts_match a.mark a.y a.rows.now a.lines.now (omega arith) (omega arith) a.t.now _ _ _ _ _ _ _
    c.put_header.ensures refl
    c.header_by.ensures
    c.base-2.ensures c.same_at-a.ensures
    c.same_at-b.ensures c.same_at-c.ensures
