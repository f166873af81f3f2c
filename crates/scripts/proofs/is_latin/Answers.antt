-- `scripts::is_latin` meets its contract.
use mathlib.Core.Path.{sym, ap, ◌∙◌}
use Rattle.scripts.specs.rule.Script.{latin_by, latin_of}
use Rattle.scripts.proofs.is_latin.Goals as goal

pub returns-in-Read : goal.returns-in-Read
unfolding latin_of
returns-in-Read c = sym (ap latin_by (sym c.read_declaration.ensures ∙ c.in-Read.is))

pub returns-in-Fault : goal.returns-in-Fault
unfolding latin_of
returns-in-Fault c = sym (ap latin_by (sym c.read_declaration.ensures ∙ c.in-Fault.is))
