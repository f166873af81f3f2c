-- `marks::onward` meets its contract.
use Rattle.marks.proofs.Strings.{string_past}
use Rattle.marks.proofs.onward.Goals as goal

pub returns-in-Plain : goal.returns-in-Plain
returns-in-Plain c = (c.skip_pair.ensures.on, rw c.in-Plain.is (string_past _ _ _ c.skip_pair.ensures))
