-- `commas::send_field` meets its contract.
use mathlib.Core.Path.{sym, ◌∙◌}
use Rattle.commas.specs.Csv.{field_quoted, field_plain}
use Rattle.sink.specs.Sent.{sent_as, then}
use Rattle.commas.proofs.send_field.Goals as goal

pub returns-then-not-needs_quotes : goal.returns-then-not-needs_quotes
returns-then-not-needs_quotes c = sent_as c.send_bytes.ensures
    (field_plain _ (sym c.needs_quotes.ensures
    ∙ c.if-not-needs_quotes.true))

pub returns : goal.returns
returns c = sent_as (then c.send_byte-end.ensures
    (then c.send_inside-end.ensures c.send_byte.ensures))
    (field_quoted _
    (sym c.needs_quotes.ensures
    ∙ c.if-not-needs_quotes.false))
