-- `csv_fields::bare_field` meets its contract.
use Rattle.csv_fields.proofs.bare_field.Goals as goal

pub returns : goal.returns
returns c = (c.ended_field.ensures.0, c.ended_field.ensures.1)
