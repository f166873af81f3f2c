use native.Mathlib.Omega.{arith}
use Rattle.utf.proofs.Plain.{plain_is}
use Rattle.utf.proofs.is_plain.Goals as goal

pub returns : goal.returns
returns c = plain_is c.args.latin c.args.b (omega arith)
