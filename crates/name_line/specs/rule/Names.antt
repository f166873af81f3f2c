-- The first line of an export (document 02, C-16): "one line of decoded names". A 1.1 definition's names are their bytes as decoded, and a
-- break (C-17) is one LF, 10. "XML names: the decoded characters in UTF-8, whatever the file's encoding."
use Rattle.std.specs.Prelude.{Bool, cond, List, map, ℕ, ℤ}
use Rattle.layout.specs.rule.Layout.{row_base, columns_at}
use Rattle.signs.specs.declared.Sign.{Sign}
use Rattle.signs.specs.declared.Sign.TheVariants.{Byte, Break}
use Rattle.scan.specs.rule.Text.{text}
use Rattle.marks.specs.declared.Inside.TheVariants.{Plain}
use Rattle.marks.specs.rule.Spelling.{decode_of}
use Rattle.prologs.specs.rule.Told.{is_xml}
use Rattle.scripts.specs.rule.Script.{latin_of}
use Rattle.xml_reading.specs.rule.Role.{signs_in}
use Rattle.commas.specs.rule.Csv.{each}

unfoldable pub sign_byte : Sign → ℕ
sign_byte (Byte b) = b
sign_byte Break = 10

-- the name whose text stands at a place of a 1.1 definition, just after its opening quote
unfoldable pub plain_text : List ℕ → ℕ → List ℕ
plain_text d place = map sign_byte (decode_of Plain 0 (text d place))

-- the name whose text is `long` bytes of an XML definition from a place on
unfoldable pub xml_text : Bool → List ℕ → ℕ → ℕ → List ℕ
xml_text latin d place long = map sign_byte (signs_in latin d (record { place = place; length = long }))

unfoldable pub name_text : List ℕ → ℕ → ℕ → List ℕ
name_text d place long = cond (is_xml d) (xml_text (latin_of d) d place long) (plain_text d place)

-- where the name of row i stands, and how many bytes it has there
unfoldable pub place_at : List ℤ → ℕ → ℕ
place_at t i = (columns_at t (row_base i)).name

unfoldable pub long_at : List ℤ → ℕ → ℕ
long_at t i = (columns_at t (row_base i)).name_len

-- THE NAME LINE of n rows
unfoldable pub name_line : List ℕ → List ℤ → ℕ → List (List ℕ)
name_line d t n = each (λ i. name_text d (place_at t i) (long_at t i)) 0 n
