-- `record_values::flag` meets its contract.
use mathlib.Core.Path.{◌≡◌, refl, ◌∙◌}
use mathlib.Core.Bool.{Bool, true, false}
use borrow.Author.Rules.{sfits_of}
use lib.IntN.{pos}
use mir.Facts.{to_z-of_z}
use mir.Syntax.{w64}
use mir.Val.{bool_byte}
use Rattle.record_values.specs.rule.Record.{flag_of}
use Rattle.record_values.proofs.flag.Goals as goal

by_cases : (b : Bool) → pos (bool_byte b) ≡ flag_of b
unfolding flag_of
by_cases true = refl
by_cases false = refl

pub returns : goal.returns
returns c = to_z-of_z {w = w64} (sfits_of c.from.type_inv) ∙ c.from.ensures ∙ by_cases c.args.b
