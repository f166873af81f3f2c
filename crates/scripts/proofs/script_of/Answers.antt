-- `scripts::script_of` meets its contract.
use Rattle.scripts.proofs.script_of.Goals as goal

pub returns : goal.returns
returns c = rw (c.is_xml-xml.ensures, c.is_latin-latin.ensures)
