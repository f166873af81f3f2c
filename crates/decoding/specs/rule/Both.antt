-- "`zarfolin_decode_text` serves both kinds: in XML any stretch of the definition that is content as of a label, else 3; the encoding is
-- the
-- declaration's where that is not refused, else UTF-8." A 1.1 definition's texts as C-17 has them.
use Rattle.std.specs.Prelude.{◌≡◌, cond, List, ℕ, ℤ, length}
use Rattle.signs.specs.declared.Sign.{Sign}
use Rattle.texts.specs.declared.Decoded.{Decoded}
use Rattle.texts.specs.rule.Decode.{DecodeOutcome, decode_said, decoded_as, signs_at, signs_after}
use Rattle.stretches.specs.rule.Stretch.{stretch_as, stretch_signs}
use Rattle.prologs.specs.rule.Told.{is_xml}
use Rattle.scripts.specs.rule.Script.{latin_of}

-- the outcome for a list with room for n: 3 before 25
unfoldable pub both_as : List ℕ → ℕ → ℕ → ℕ → DecodeOutcome
both_as d place long n = cond (is_xml d) (stretch_as (latin_of d) d place long n) (decoded_as d place long n)

-- the signs that it says
unfoldable pub both_signs : List ℕ → ℕ → ℕ → List Sign
both_signs d place long = cond (is_xml d) (stretch_signs (latin_of d) d place long) (signs_at d place long)

-- THE PROMISE of the call
pub record BothDecoded (d : List ℕ) (place long : ℕ) (list list' : List ℤ) (r : Decoded) : Type 0 where
  pub says : decode_said r ≡ both_as d place long (length list)
  pub leaves : list' ≡ signs_after (both_as d place long (length list)) (both_signs d place long) list
