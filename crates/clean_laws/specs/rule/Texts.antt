-- "The same table apart from text places and lengths, and equal decoded texts" (document 02, C-11): which numbers of a table those are, and
-- what the call that decodes makes of them. In a row they are the columns 14 to 17 (place and length of the name, place and length of the
-- label), in a line the last two of its four.
use Rattle.std.specs.Prelude.{Bool, false, cond, List, ◌∷◌, map, ℕ, ◌*◌, ◌-◌, ◌%◌, leb, ltb}
use Rattle.ascii.specs.rule.Class.{within}
use Rattle.layout.specs.rule.Layout.{header_size, row_size, line_size}
use Rattle.signs.specs.declared.Sign.{Sign}
use Rattle.survey.specs.rule.Survey.{KeptText, Variable}
use Rattle.survey.specs.rule.Table.{lines_of}
use Rattle.texts.specs.rule.Decode.{signs_at}

-- ---- place or length of a text: of v rows and the lines behind them, number k; of a table with v rows, number k
unfoldable pub of_text : ℕ → ℕ → Bool
of_text v k = cond (ltb k (row_size * v)) (within 14 17 (k % row_size)) (leb 2 ((k - row_size * v) % line_size))

unfoldable pub text_at : ℕ → ℕ → Bool
text_at v k = cond (ltb k header_size) false (of_text v (k - header_size))

-- ---- the texts of a row and its lines, as `zarfolin_decode_text` gives them (crate `texts`)
abbrev pub decoded_text : List ℕ → KeptText → List Sign
decoded_text d t = signs_at d t.place t.length

unfoldable pub decoded_texts : List ℕ → Variable → List (List Sign)
decoded_texts d v = decoded_text d v.name ∷ decoded_text d v.label ∷ map (λ l. decoded_text d l.text) (lines_of v)
