-- `csv_fields::next_field` meets its contract.
use mathlib.Core.Path.{sym, ◌∙◌}
use Prim.Native.Nat.{◌+◌}
use native.Mathlib.Omega.{arith}
use Rattle.csv_fields.specs.Page.{ahead_more, quote_at_lem, not_quote, cut_as}
use Rattle.csv_fields.proofs.Page.{fresh_quote, fresh_bare}
use Rattle.csv_fields.proofs.next_field.Goals as goal

pub quoted_field-requires : goal.quoted_field-requires
quoted_field-requires c = let q = quote_at_lem c.args.d.now c.args.at
    (sym c.is_quote.ensures ∙ c.if-is_quote.true) in omega (arith, q.0)

pub returns-then-is_quote : goal.returns-then-is_quote
returns-then-is_quote c = let q = quote_at_lem c.args.d.now c.args.at
    (sym c.is_quote.ensures
    ∙ c.if-is_quote.true) in (
      cut_as c.args.d.now
          (fresh_quote c.args.d.now c.args.at q.0 q.1)
          c.quoted_field.result c.quoted_field.ensures.0,
      ahead_more c.args.at (c.args.at + 1) (omega arith)
          c.quoted_field.result c.quoted_field.ensures.1,
    )

pub returns : goal.returns
returns c = (
  cut_as c.args.d.now
      (fresh_bare c.args.d.now c.args.at
      (not_quote c.args.d.now c.args.at
      (sym c.is_quote.ensures ∙ c.if-is_quote.false))) c.bare_field.result c.bare_field.ensures.0,
  c.bare_field.ensures.1,
)
