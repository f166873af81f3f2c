use native.Mathlib.Omega.{arith}
use mathlib.Core.Path.{◌∙◌, sym}
use Rattle.utf.proofs.Strides.{stride_plain}
use Rattle.utf.proofs.stride.Goals as goal

pub returns-then-all_plain : goal.returns-then-all_plain
returns-then-all_plain c = stride_plain c.args.latin c.args.d.now
    c.args.at (omega arith) (sym c.all_plain.ensures ∙ c.if-all_plain.true)

pub returns : goal.returns
returns c = c.walk.ensures
