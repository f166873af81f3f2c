-- `zarfolin::text_cells` meets its contract, case by case.
use mathlib.Core.Path.{sym}
use borrow.Author.Rules.{sfits_of}
use mir.Facts.{to_z-of_z}
use Rattle.texts.specs.rule.Decode as texts
use Rattle.zarfolin.specs.rule.Texts.{text_cells}
use Rattle.zarfolin.proofs.text_cells.Goals as goal

pub returns-in-Signs : goal.returns-in-Signs
unfolding text_cells texts.decode_said
returns-in-Signs c = rw (
  c.in-Signs.is,
  c.with_one.ensures,
  to_z-of_z (sfits_of c.cell.type_inv),
  c.cell.ensures,
)

pub returns-in-NotText : goal.returns-in-NotText
unfolding text_cells texts.decode_said
returns-in-NotText c = rw (c.in-NotText.is, sym c.bare.ensures)

pub returns-in-ShortList : goal.returns-in-ShortList
unfolding text_cells texts.decode_said
returns-in-ShortList c = rw (c.in-ShortList.is, sym c.bare-in-ShortList.ensures)
