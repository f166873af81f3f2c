use lib.ListN.{length-set}
use Rattle.values.proofs.leave_mark.Goals as goal

pub returns : goal.returns
returns c = rw c.slot_of-slot.ensures.0

pub shape_of-marks : goal.shape_of-marks
shape_of-marks c = simp length-set
