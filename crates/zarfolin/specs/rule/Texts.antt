-- A text of a definition decoded, at the face: "answers the count, each sign a number, 256 for a break" (document 02, C-17): the number,
-- the count of signs, 0, 0; on a refusal zeros behind the number.
use Rattle.std.specs.Prelude.{List, ℕ, ℤ, pos}
use Rattle.texts.specs.declared.Decoded.{Decoded}
use Rattle.texts.specs.rule.Decode.{DecodeOutcome, signs, refused, decode_said}
use Rattle.decoding.specs.rule.Both.{BothDecoded}
use Rattle.zarfolin.specs.declared.Told.{Told}
use Rattle.zarfolin.specs.rule.Face.{four, told_alone, Telling}
use Rattle.record_values.specs.rule.Record.{cell_of}

unfoldable pub text_cells : DecodeOutcome → Told
text_cells (signs n) = four 0 (cell_of n) (pos 0) (pos 0)
text_cells (refused k) = told_alone k

-- THE PROMISE of decoding a text: that of the call, and its outcome told in four numbers
pub record TextTold (d : List ℕ) (place long : ℕ) (list list' answer : List ℤ) (r : ℕ) : Type 0 where
  pub outcome : Decoded
  pub promise : BothDecoded d place long list list' outcome
  pub tells : Telling (text_cells (decode_said outcome)) answer r
