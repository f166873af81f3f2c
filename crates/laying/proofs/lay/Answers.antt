use mathlib.Core.Path.{sym, ◌∙◌}
use Prim.Native.Nat.{◌*◌}
use native.Mathlib.Omega.{arith}
use lib.Seq.{length-take-le}
use Rattle.layout.specs.rule.Layout.{row_size, line_size}
use Rattle.laying.specs.Code.{header_by}
use borrow.Author.Rules.{rules}
use Rattle.laying.proofs.Overs.{laid_over}
use Rattle.laying.proofs.lay.Goals as goal

pub put_header-requires : goal.put_header-requires
unfolding header_by
put_header-requires c = rw c.header_by.ensures (search rules)

pub slice_bounds-paste-end : goal.slice_bounds-paste-end
slice_bounds-paste-end c = sym (length-take-le _ c.args.rows.now (omega arith))

pub paste-requires : goal.paste-requires
paste-requires c =
    let args = c.args in
    rw (length-take-le (row_size * args.y.rows) args.rows.now (omega arith)) (omega (arith, c.put_header.auto))

pub slice_bounds-paste-end-2 : goal.slice_bounds-paste-end-2
slice_bounds-paste-end-2 c = sym (length-take-le _
    c.args.lines.now
    (omega arith))

pub paste-requires-2 : goal.paste-requires-2
paste-requires-2 c =
    let args = c.args in
    rw (
      length-take-le (line_size * args.y.lines) args.lines.now (omega arith),
      c.base.ensures,
    ) (omega (
      arith,
      c.put_header.auto,
      c.paste.auto,
    ))

pub returns : goal.returns
returns c =
    let a = c.args in
    c.paste-2.ensures ∙ rw (
      c.paste.ensures,
      c.put_header.ensures,
      c.base.ensures,
      c.header_by.ensures,
    ) (laid_over a.mark a.y a.rows.now a.lines.now (omega arith) a.table.now (omega arith))
