-- `listing::list_row` meets its contract: the line of what was read.
use mathlib.Core.Path.{sym, ◌∙◌}
use native.Mathlib.Omega.{arith}
use Rattle.lines.specs.Appended.{as_text, nothing_more}
use Rattle.listing.specs.RowLaws.{ident_few, row_stands, row_ready, row_none, row_listable, row_line}
use Rattle.listing.proofs.list_row.Goals as goal

pub read-row-requires : goal.read-row-requires
read-row-requires c = let p = c.requires in row_stands p.ready.tested p.n_bound.1

pub read_row-a-requires : goal.read_row-a-requires
read_row-a-requires c = let p = c.requires in
    row_ready p.ready.tested p.n_bound.1 c.read-row.ensures c.args.bytes.now p.n_bound.2

pub returns-then-is_illegal : goal.returns-then-is_illegal
returns-then-is_illegal c =
    let p = c.requires in
    as_text (nothing_more _ _ (omega (arith, p.n_bound.3)))
    (sym (row_none p.ready.tested p.n_bound.1 c.read-row.ensures _ p.n_bound.2
    c.read_row-a.ensures _ (sym c.is_illegal.ensures ∙ c.if-is_illegal.true)))

pub append_line-requires : goal.append_line-requires
append_line-requires c =
    let p = c.requires in
    let e = c.read-row.ensures in record {
      tens = p.ready.tens;
      n_bound = (p.n_bound.0, rw e (ident_few p.ready.tested p.n_bound.1));
      listable = (
        row_listable p.ready.tested p.n_bound.1 e _ p.n_bound.2 c.read_row-a.ensures p.ready.list
            (sym c.is_illegal.ensures ∙ c.if-is_illegal.false),
        p.n_bound.3,
      );
    }

pub returns : goal.returns
returns c =
    let p = c.requires in
    let e = c.read-row.ensures in
    as_text c.append_line.ensures (row_line p.ready.tested p.n_bound.1 e _ p.n_bound.2 c.read_row-a.ensures
    _ p.ready.list (sym c.is_illegal.ensures ∙ c.if-is_illegal.false))
