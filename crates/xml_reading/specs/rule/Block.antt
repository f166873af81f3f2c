-- "values(range value* | value+)"; `<range from to/>`, `<value code>text</value>`: judged as 1.1's ranges and lines are; "SPECIAL is always
-- 0
-- here". "XML blocks alike" for the point's code.
use Rattle.std.specs.Prelude.{Bool, false, cond, not, ◌&&◌, List, [], ◌∷◌, ◌++◌, ℕ, suc}
use Rattle.std.proofs.Math.Option.{none, some}
use Rattle.std.specs.Int.Signed.{lt_z}
use Rattle.layout.specs.rule.Layout.{most_lines}
use Rattle.scan.specs.rule.Loop.{Next, Again, Done}
use Rattle.tags.specs.rule.Tag.{tag_of}
use Rattle.pairs.specs.rule.Stand.{bare_of}
use Rattle.tokens.specs.rule.Gap.{fault}
use Rattle.survey.specs.rule.Survey.{Amount, Range, Line, Block}
use Rattle.survey.specs.rule.Width.{scaled}
use Rattle.reading.specs.rule.Result.{Reader, ◌>>=◌, ◌>>◌, give, repeat}
use Rattle.reading.specs.rule.Least.{Charge, ◌when◌, judged}
use Rattle.reading.specs.rule.Values.{form_is, large, unlike_amounts, line_charges, with_line, range_from, unlisted}
use Rattle.xml_reading.specs.rule.Word.{VALUES, RANGE, VALUE, FROM, TO, CODE}
use Rattle.xml_reading.specs.rule.Open.{Open, start, shut, within_element, either_element, due, unknown_at, on_tag, nothing}
use Rattle.xml_reading.specs.rule.Open.{enter}
use Rattle.xml_reading.specs.rule.Element.{amount_in, body}

-- the mode of a text that may hold breaks: where the file has languages, texts in other languages too
abbrev pub rich : Bool → ℕ
rich languages = cond languages 2 1

-- "In a range both values are judged together: 6 at each of wrong form; if both have form, unlike decimals and reversed are 6 at the
-- second": 1.1's charges (`range_charges`), but that the second value of a pair may stand first here, so that a form counts with it.
unfoldable pub pair_charges : Bool → Amount → Amount → List Charge
pair_charges quantity a b =
    let both = form_is quantity a && form_is quantity b in
    fault 6 a.place when not (form_is quantity a)
    ∷ fault 6 b.place when not (form_is quantity b)
    ∷ fault 6 b.place when (both && unlike_amounts a b)
    ∷ fault 6 b.place when (both && lt_z (scaled b) (scaled a))
    ∷ fault 8 a.place when large quantity a
    ∷ fault 8 b.place when large quantity b
    ∷ []

module _ (bad : Bool) (d : List ℕ) where
  unfoldable pub range : Bool → ℕ → Reader Range
  range quantity p e =
      on_tag bad d (tag_of bad d p e FROM TO [] 2 2 0 2) λ h empty q.
      let a = amount_in d h.a h.ae in
      let b = amount_in d h.b h.be in
      do
        l ← nothing bad d RANGE empty
        judged (pair_charges quantity a b ++ unknown_at h.unknown ∷ l) (range_from a b)

  -- a line of a block in which those of b stand before it, and `before` lines before the block
  unfoldable pub line : Bool → Bool → ℕ → Block → ℕ → Reader Line
  line languages quantity before b p e =
      on_tag bad d (tag_of bad d p e CODE [] [] 2 0 0 1) λ h empty q.
      let a = amount_in d h.a h.ae in
      do
        t ← body bad d VALUE (rich languages) empty
        judged (line_charges quantity before b a ++ unknown_at h.unknown ∷ t.charges)
            (record { value = a; text = t.text; special = false })

  module _ (languages quantity : Bool) (before : ℕ) where
    -- a line more
    abbrev pub lined : Block → ℕ → Reader Block
    lined b p = line languages quantity before b p >>= λ l. give (with_line b l)

    -- another line, or the end
    abbrev pub on_open : Block → Open → Reader (Next Block Block)
    on_open b (start p) = due bad d VALUE (start p) (λ p. lined b p >>= λ c. give (Again c))
    on_open b (shut p) = give (Done b)

    unfoldable pub another_line : Block → Reader (Next Block Block)
    another_line b = within_element bad d VALUES >>= on_open b

    -- a range, or the first line
    unfoldable pub first : Reader Block
    first = do
      o ← within_element bad d VALUES
      either_element bad d RANGE o (λ p. range quantity p >>= λ r. give (unlisted (some r))) (due bad d VALUE o (lined (unlisted none)))

    -- "4,096 value lines in all": the 4,097th is refused
    unfoldable pub values : ℕ → Reader Block
    values p e =
        on_tag bad d (bare_of bad d p e) λ h empty q.
        do
          enter bad d (unknown_at h.unknown ∷ []) empty q
          b ← first
          repeat (suc most_lines) another_line b
