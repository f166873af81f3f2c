-- A definition that is read, by the reading call's own outcome, and the texts of its heading, decoded.
use Rattle.std.specs.Prelude.{◌≡◌, List, [], ◌∷◌, ℕ, ◌≤◌, ◌<◌, length}
use Rattle.std.proofs.Math.Option.{Option, none, some}
use Rattle.signs.specs.declared.Sign.{Sign}
use Rattle.scan.specs.rule.Text.{text}
use Rattle.marks.specs.declared.Inside.TheVariants.{Plain}
use Rattle.marks.specs.rule.Spelling.{decode_of}
use Rattle.survey.specs.rule.Survey.{KeptText, Heading, Survey}
use Rattle.survey.specs.rule.Table.{table_of}
use Rattle.reading.specs.rule.Result.{Is}
use Rattle.reading.specs.rule.Whole.{survey_of}
use Rattle.definition.specs.rule.Definition.{Built, Refusal, sss_outcome}

-- ---- the heading's texts, decoded. A sign is a byte or a break
abbrev pub text_signs : List ℕ → KeptText → List Sign
text_signs d t = decode_of Plain 0 (text d t.place)

abbrev pub perhaps_signs : List ℕ → Option KeptText → Option (List Sign)
perhaps_signs d none = none
perhaps_signs d (some t) = some (text_signs d t)

-- DATE, TIME, ORIGIN, USER, TITLE
unfoldable pub head_texts : List ℕ → Heading → List (Option (List Sign))
head_texts d h =
    perhaps_signs d h.date ∷ perhaps_signs d h.time ∷ perhaps_signs d h.origin ∷ perhaps_signs d h.user
    ∷ perhaps_signs d h.title ∷ []

-- ---- d is read as s: it is refused by none of 1 to 9. With room for its table that is built, and else 10 is answered
pub record Reads (d : List ℕ) (s : Survey) : Type 0 where
  pub end : ℕ
  pub says : survey_of d ≡ Is s end
  pub built : (n : ℕ) → length (table_of s.variables) ≤ n → sss_outcome d n ≡ Built s.variables
  pub no_room : (n : ℕ) → n < length (table_of s.variables) → sss_outcome d n ≡ Refusal 10 0
