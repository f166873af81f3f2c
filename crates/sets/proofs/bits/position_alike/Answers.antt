-- `sets::bits::position_alike` meets its contract: bytes that are all alike are so at each category.
use mathlib.Core.Path.{refl, sym, ◌∙◌}
use Rattle.below.specs.Below.{holds_not}
use Rattle.sets.proofs.AlikeLaws.{spaces_alike, bits_alike, any_alike}
use Rattle.sets.proofs.SetLaws.{bits_missing, bits_fine, legal_not}
use Rattle.sets.proofs.bits.position_alike.Goals as goal

pub returns-then-lines-w : goal.returns-then-lines-w
returns-then-lines-w c e ok = holds_not e refl

pub returns-then-run_is : goal.returns-then-run_is
returns-then-run_is c e ok = bits_fine _ _ (bits_alike _ ∙ any_alike 48 49 _ _ _ ok (sym c.run_is.ensures ∙ c.if-run_is.true))

pub returns : goal.returns
returns c e ok = legal_not _ _ (bits_missing _ _ (spaces_alike _ ∙ any_alike 32 32 _ _ _ ok (sym c.run_is-2.ensures ∙ e)))

pub run_is-requires : goal.run_is-requires
run_is-requires c = c.requires.inside

pub run_is-requires-2 : goal.run_is-requires-2
run_is-requires-2 c = c.requires.inside
