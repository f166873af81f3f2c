-- THE CODE'S BOOKS: the answers of the rule's readers (`xml_reading`) as the code holds them.
use Rattle.std.specs.Prelude.{Bool, false, cond, not, ◌&&◌, List, [], ◌∷◌, ℕ, ◌≤◌, eqb, length, Ok, Err}
use Rattle.tags.specs.declared.Held.{Held}
use Rattle.tokens.specs.rule.Gap.{fault, OrFault}
use Rattle.prologs.specs.rule.Told.{tail_from}
use Rattle.elements.specs.declared.Due.{Due}
use Rattle.elements.specs.declared.Due.TheVariants as due
use Rattle.reading.specs.rule.Result.{Result, Is, Not, Reader, ◌>>=◌, ◌>>◌, give}
use Rattle.reading.specs.rule.Least.{◌when◌}
use Rattle.xml_reading.specs.rule.Word.{SSS, SURVEY, NAME, VERSION, RECORD}
use Rattle.xml_reading.specs.rule.Open.{Open, within_element, over, unknown_at, entered, enter}
use Rattle.xml_reading.specs.rule.Open as rule-open
use Rattle.xml_reading.specs.rule.Element.{text}
use Rattle.xml_reading.specs.rule.Sheet.{manner, perhaps_element, heading, survey, titles, record_tag, cleared}
use Rattle.xml_reading.specs.rule.Variable as rule
use Rattle.prefaces.specs.declared.Manner.{Manner}
use Rattle.prefaces.specs.declared.Prefaced.{Prefaced}
use Rattle.prefaces.specs.declared.Prefaced.TheVariants as prefaced

-- what the preface says, both ways
abbrev pub manner_of : rule.Manner → Manner
manner_of m = record { old = m.old; languages = m.languages; standard = m.standard; latin = m.latin }

abbrev pub rule_of : Manner → rule.Manner
rule_of m = record { old = m.old; languages = m.languages; standard = m.standard; latin = m.latin }

abbrev pub prefaced_of : Result rule.Manner → Prefaced
prefaced_of (Is m n) = prefaced.Is (manner_of m) n
prefaced_of (Not f) = prefaced.Not f

-- nothing is told but where reading stands
abbrev pub reading_of : Result Unit → OrFault ℕ
reading_of (Is u n) = Ok n
reading_of (Not f) = Err f

-- ---- places: not beyond the end
abbrev pub Begun : List ℕ → Due → Type 0
Begun d (due.At p e) = e ≤ length d
Begun d (due.Not f) = Unit

abbrev pub Ends : List ℕ → Prefaced → Type 0
Ends d (prefaced.Is m n) = n ≤ length d
Ends d (prefaced.Not f) = Unit

abbrev pub Inside : List ℕ → OrFault ℕ → Type 0
Inside d (Ok n) = n ≤ length d
Inside d (Err f) = Unit

-- ---- parts of the rule's readers, each as its function of the code has it
-- what the rule says of tags that were read, once more, without the file
unfoldable pub mannered_of : Held → Bool → Bool → Bool → Bool → ℕ → Reader rule.Manner
mannered_of h old new latin empty q =
    entered false []
    (fault 4 h.a when (not old && not new) ∷ unknown_at h.unknown ∷ fault 51 h.third when (old && not (eqb h.c 0)) ∷ [])
    (record { old = old; languages = not (eqb h.c 0); standard = not (eqb h.b 0); latin = latin }) empty q

unfoldable pub entered_of : ℕ → Bool → ℕ → Reader Unit
entered_of unknown empty q = enter false [] (unknown_at unknown ∷ []) empty q

module _ (bad : Bool) (d : List ℕ) where
  -- a text w inside an element `around`, and what stands behind it
  abbrev pub text_then : List ℕ → List ℕ → ℕ → ℕ → Reader Open
  text_then around w k p = text bad d w k p >> within_element bad d around

  -- the survey's name and version, which version 1.1 has not
  unfoldable pub titled_of : Bool → Open → Reader Open
  titled_of old o = cond old (give o) (perhaps_element bad d SURVEY NAME 0 o >>= perhaps_element bad d SURVEY VERSION 0)

  abbrev pub survey_due : Open → Reader Unit
  survey_due o = rule-open.due bad d SURVEY o (survey bad d)

  abbrev pub record_due : rule.Manner → Open → Reader Unit
  record_due m o = rule-open.due bad d RECORD o (record_tag bad d m)

  -- from behind the root's tag, and from behind its name, to behind the record's tag
  unfoldable pub inner_of : rule.Manner → Reader Unit
  inner_of m = do
    o ← heading bad d
    survey_due o
    o ← titles bad d m
    record_due m o

  abbrev pub inner_then : rule.Manner → Reader rule.Manner
  inner_then m = inner_of m >> give m

  unfoldable pub outer_of : Bool → ℕ → Reader rule.Manner
  outer_of latin p = manner bad d latin p >>= inner_then

  -- the end tag of an element w; the end of the file; and the root's end tag before that
  unfoldable pub end_of : List ℕ → Reader Unit
  end_of w = within_element bad d w >>= over bad d

  unfoldable pub cleared_of : Reader Unit
  cleared_of n = cleared bad d (tail_from bad d n) n

  abbrev pub end_then : Reader Unit
  end_then = end_of SSS >> cleared_of
