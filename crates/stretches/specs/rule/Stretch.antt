-- "`zarfolin_decode_text` serves both kinds: in XML any stretch of the definition that is content as of a label (characters, references,
-- comments, br, whole `<text>` elements, no unknown attribute), else 3"; 25 where the list is shorter than the text; the list is then kept,
-- and beyond the count always. The encoding is handed in.
use Rattle.std.specs.Prelude.{◌≡◌, Bool, cond, ◌&&◌, List, ℕ, ◌+◌, leb, ℤ, length}
use Rattle.signs.specs.declared.Sign.{Sign}
use Rattle.texts.specs.rule.Decode.{cut_off, DecodeOutcome, refused, decode_said, decode_fitting, signs_after}
use Rattle.texts.specs.declared.Decoded.{Decoded}
use Rattle.contents.specs.rule.Content.{begun, signs_from, is_text}

-- a stretch lies in the definition, and is a text
unfoldable pub stretch_text : Bool → List ℕ → ℕ → ℕ → Bool
stretch_text latin d place long = leb (place + long) (length d) && is_text latin (cut_off d place long) place

-- the signs that it says
unfoldable pub stretch_signs : Bool → List ℕ → ℕ → ℕ → List Sign
stretch_signs latin d place long = signs_from latin (cut_off d place long) (begun place)

-- the outcome for a list with room for n: 3 before 25
unfoldable pub stretch_as : Bool → List ℕ → ℕ → ℕ → ℕ → DecodeOutcome
stretch_as latin d place long n = cond (stretch_text latin d place long) (decode_fitting n (stretch_signs latin d place long)) (refused 3)

-- THE PROMISE of the call
pub record StretchDecoded (latin : Bool) (d : List ℕ) (place long : ℕ) (list list' : List ℤ) (r : Decoded) : Type 0 where
  pub says : decode_said r ≡ stretch_as latin d place long (length list)
  pub leaves : list' ≡ signs_after (stretch_as latin d place long (length list)) (stretch_signs latin d place long) list
