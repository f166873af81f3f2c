use mathlib.Core.Path.{sym, ◌∙◌}
use native.Mathlib.Omega.{arith}
use Rattle.contents.proofs.Passing.{passes_none}
use Rattle.contents.proofs.Walking.{passes_refer}
use Rattle.contents.proofs.pass_reference.Goals as goal

pub returns-in-Some : goal.returns-in-Some
returns-in-Some c =
    passes_refer c.args.d.now c.args.at _ _ c.requires.0 c.requires.1
    (sym c.reference.ensures ∙ c.in-Some.is)

pub returns-in-None : goal.returns-in-None
returns-in-None c = passes_none _ _ (omega arith)
