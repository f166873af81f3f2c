-- `name_line::send_plain` meets its contract.
use mathlib.Core.Path.{sym, ◌∙◌}
use Rattle.commas.specs.Csv.{field_quoted, field_plain, doubled_plain}
use Rattle.sink.specs.Sent.{sent_as, then}
use Rattle.name_line.proofs.send_plain.Goals as goal

pub returns-then-not-needs_quotes : goal.returns-then-not-needs_quotes
returns-then-not-needs_quotes c =
    let q = sym c.needs_quotes.ensures
    ∙ c.if-not-needs_quotes.true in
    sent_as c.send_signs.ensures (doubled_plain _ q ∙ field_plain _ q)

pub returns : goal.returns
returns c =
    sent_as (then c.send_byte-end.ensures (then c.send_signs-end.ensures c.send_byte.ensures))
    (field_quoted _ (sym c.needs_quotes.ensures
    ∙ c.if-not-needs_quotes.false))
