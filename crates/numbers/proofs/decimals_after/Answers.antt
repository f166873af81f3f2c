-- `numbers::decimals_after` meets its contract: the digits after the whole part, or wrong.
use mathlib.Core.Path.{sym, ap, ◌∙◌}
use native.Mathlib.Omega.{arith}
use borrow.Author.Rules.{sfits_of}
use mir.Facts.{to_z-of_z}
use Rattle.fields.specs.rule.Number.{says}
use Rattle.numbers.specs.Numeral.{said_of, decimals_read}
use Rattle.numbers.proofs.Laws.{value_room, value_only, value_is, wrong_only}
use mir.Syntax.{w64}
use Rattle.numbers.proofs.decimals_after.Goals as goal

pub signed-requires : goal.signed-requires
signed-requires c = omega (
  arith,
  value_room _ _ _ (sym c.digits_after.ensures ∙ c.in-Some.is),
  c.requires,
)

pub returns-in-Some : goal.returns-in-Some
unfolding said_of decimals_read
returns-in-Some c =
    let e = sym c.digits_after.ensures ∙ c.in-Some.is in
    ap says (to_z-of_z {w = w64} (sfits_of c.signed.type_inv) ∙ c.signed.ensures) ∙ rw (value_only _ _ _ e, value_is _ _ _ e)

pub returns-in-None : goal.returns-in-None
unfolding said_of decimals_read
returns-in-None c = rw (wrong_only _ _ (sym c.digits_after.ensures ∙ c.in-None.is))
