-- `csv_fields::field_of` meets its contract.
use Rattle.csv_fields.specs.Page.{cut_of}
use Rattle.csv_fields.proofs.field_of.Goals as goal

pub returns-in-Comma : goal.returns-in-Comma
unfolding cut_of
returns-in-Comma c = rw c.in-Comma.is

pub returns-in-Last : goal.returns-in-Last
unfolding cut_of
returns-in-Last c = rw c.in-Last.is

pub returns-in-Torn : goal.returns-in-Torn
unfolding cut_of
returns-in-Torn c = rw c.in-Torn.is
