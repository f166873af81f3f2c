-- `<survey>` and `<sss>`: texts that may be left out, then what is due, as the table says.
use Rattle.std.specs.Prelude.{◌≡◌, Bool, cond, List, [], ◌∷◌, ℕ, suc, ◌+◌}
use Rattle.std.proofs.Math.Path.{refl}
use Rattle.std.proofs.Common.{◌∙◌}
use Rattle.std.proofs.Math.Bool.{true, false}
use Rattle.tags.specs.rule.Tag.{tag_of, is_named}
use Rattle.pairs.specs.rule.Stand.{bare_of}
use Rattle.survey.specs.rule.Survey.{KeptText}
use Rattle.reading.specs.rule.Result.{Result, Is, Not, Reader, ◌>>=◌, ◌>>◌, give, bind}
use Rattle.xml_reading.specs.rule.Word.{SSS, DATE, TIME, ORIGIN, USER, SURVEY, NAME, VERSION, TITLE, RECORD, OPTIONS, LANGUAGES}
use Rattle.xml_reading.specs.rule.Open.{Open, start, shut, within_element, due, over, unknown_at, enter}
use Rattle.xml_reading.specs.rule.Open as stands
use Rattle.xml_reading.specs.rule.Element.{text}
use Rattle.xml_reading.specs.rule.Block.{rich}
use Rattle.xml_reading.specs.rule.Role.{XmlEntry}
use Rattle.xml_reading.specs.rule.Variable.{Manner}
use Rattle.xml_reading.specs.rule.Sheet.{manner, perhaps_element, heading, survey, titles, record_tag, variables}
use Rattle.xml_grammar.specs.Grammar.{Element, Sss, Date, Time, Origin, User, Survey, SurveyName, SurveyVersion, Title, Record}
use Rattle.xml_grammar.specs.Grammar.{Part, once, newly}
use Rattle.xml_grammar.specs.Grammar as grammar
use Rattle.xml_grammar.specs.Reader.{Steps, steps, element}
use Rattle.xml_grammar.specs.Meaning.{State, between, meanings}
use Rattle.xml_grammar.specs.Behind.{map_behind, same_behind, entered_as, on_tag_lem, due_same}
use Rattle.xml_grammar.specs.Surveys.{by, unknown}
use Rattle.xml_grammar.proofs.Leaves.{date_is, time_is, origin_is, user_is, survey_name_is, survey_version_is, title_is}
use Rattle.xml_grammar.proofs.Records.{record_is}

module _ (bad : Bool) (d : List ℕ) (f : ℕ) where
  closing : (r : Result State) → bind r (λ s. give s) ≡ r
  closing (Is t n) = refl
  closing (Not x) = refl

  -- a text that may be left out and says nothing here: the state stays
  perhaps_is : (around w : List ℕ) (k : ℕ) (s : State) (c : ℕ → Reader State) (at : State → Open → Reader State)
      → ((p n : ℕ) → c p n ≡ bind (text bad d w k p n) λ t. give s) → (o : Open) (n : ℕ)
      → stands.either_element bad d w o (λ p. c p >>= λ t. within_element bad d around >>= at t) (at s o) n
      ≡ bind (perhaps_element bad d around w k o n) (at s)
  unfolding perhaps_element
  perhaps_is around w k s c at e (start p) n = by (is_named d (p + 1) n w) where
    read : (r : Result KeptText)
        → bind (bind r λ t. give s) (λ t. within_element bad d around >>= at t) ≡ bind (bind r λ t. within_element bad d around) (at s)
    read (Is t m) = refl
    read (Not x) = refl

    by : (x : Bool) → cond x (bind (c p n) λ t. within_element bad d around >>= at t) (at s (start p) n)
        ≡ bind (cond x (bind (text bad d w k p n) λ t. within_element bad d around) (Is (start p) n)) (at s)
    by true = rw (e p n) (read (text bad d w k p n))
    by false = refl
  perhaps_is around w k s c at e (shut p) n = refl

  -- behind the last part, the end tag of an element
  abbrev pub ended : List ℕ → State → Reader State
  ended w s = within_element bad d w >>= λ o. over bad d o >> give s

  -- ---- survey
  abbrev child : Element → State → ℕ → Reader State
  child = element bad d (meanings d) (suc (suc (suc (suc f))))

  abbrev in_survey : List Part → Steps State
  in_survey l = steps bad d (meanings d) child SURVEY l

  abbrev last : List Part
  last = once Record ∷ []

  abbrev titled : List Part
  titled = grammar.perhaps Title ∷ last

  abbrev versioned : List Part
  versioned = newly SurveyVersion ∷ titled

  module _ (languages standard latin : Bool) where
    abbrev so : Bool → State
    so old = between (by bad d f old languages standard latin) []

    abbrev title_read : Open → Reader Open
    title_read o = perhaps_element bad d SURVEY TITLE (rich languages) o

    title_part : (old : Bool) (o : Open) (n : ℕ) → (in_survey titled).at (so old) o n ≡ bind (title_read o n) ((in_survey last).at (so old))
    unfolding steps
    title_part old o n =
        perhaps_is SURVEY TITLE (rich languages) (so old) (child Title (so old)) (in_survey last).at
        (λ p n. title_is bad d (suc (suc (suc f))) (so old) p n) o n

    version_part : (o : Open) (n : ℕ)
        → (in_survey versioned).at (so false) o n ≡ bind (perhaps_element bad d SURVEY VERSION 0 o n) ((in_survey titled).at (so false))
    unfolding steps
    version_part o n =
        perhaps_is SURVEY VERSION 0 (so false) (child SurveyVersion (so false)) (in_survey titled).at
        (λ p n. survey_version_is bad d (suc (suc (suc f))) (so false) p n) o n

    named_then : (r : Result Open) → bind r ((in_survey versioned).at (so false))
        ≡ bind (bind (bind r (perhaps_element bad d SURVEY VERSION 0)) title_read) ((in_survey last).at (so false))
    named_then (Is o n) =
        version_part o n
        ∙ map_behind (perhaps_element bad d SURVEY VERSION 0 o n) title_read ((in_survey titled).at (so false))
        ((in_survey last).at (so false))
        λ o n.
        title_part false o n
    named_then (Not x) = refl

    titles_part : (old : Bool) (n : ℕ) → (in_survey (newly SurveyName ∷ versioned)).go (so old) n
        ≡ bind (titles bad d (by bad d f old languages standard latin) n) ((in_survey last).at (so old))
    unfolding steps titles
    titles_part true n =
        map_behind (within_element bad d SURVEY n) title_read ((in_survey titled).at (so true)) ((in_survey last).at (so true)) λ o n.
        title_part
        true o
        n
    titles_part false n =
        map_behind (within_element bad d SURVEY n)
        (λ o. (perhaps_element bad d SURVEY NAME 0 o >>= perhaps_element bad d SURVEY VERSION 0) >>= title_read)
        ((in_survey (newly SurveyName ∷ versioned)).at (so false)) ((in_survey last).at (so false)) λ o n.
        perhaps_is SURVEY NAME 0 (so false) (child SurveyName (so false)) (in_survey versioned).at
        (λ p n. survey_name_is bad d (suc (suc (suc f))) (so false) p n) o n
        ∙ named_then (perhaps_element bad d SURVEY NAME 0 o n)

  module _ (m : Manner) where
    abbrev pub recorded : Reader State
    recorded = variables bad d m >>= λ l. ended SURVEY (between m l)

    abbrev pub surveyed : Reader State
    surveyed = titles bad d m >>= λ o. due bad d RECORD o (record_tag bad d m) >> recorded

    record_then : (r : Result Unit) → bind (bind r λ u. variables bad d m >>= λ l. give (between m l)) (ended SURVEY) ≡ bind r λ u. recorded
    record_then (Is u n) = listed (variables bad d m n) where
      listed : (r : Result (List XmlEntry)) → bind (bind r λ l. give (between m l)) (ended SURVEY) ≡ bind r λ l. ended SURVEY (between m l)
      listed (Is l n) = refl
      listed (Not x) = refl
    record_then (Not x) = refl

    record_part : (o : Open) (n : ℕ)
        → (in_survey last).at (between m []) o n ≡ bind (due bad d RECORD o (record_tag bad d m) n) λ u. recorded
    unfolding steps
    record_part o n =
        due_same bad d RECORD o n (child Record (between m [])) (record_tag bad d m) (ended SURVEY) (λ u. recorded) λ p.
        rw (record_is bad d f m p n) (record_then (record_tag bad d m p n))

    pub survey_is : (p e : ℕ) → element bad d (meanings d) (suc (suc (suc (suc (suc f))))) Survey (between m []) p e
        ≡ bind (survey bad d p e) λ u. surveyed
    unfolding element survey
    survey_is p e =
        on_tag_lem bad d (bare_of bad d p e) _ _ (λ u. surveyed) λ h empty q n.
        same_behind (enter bad d (unknown_at h.unknown ∷ []) empty q n) _ _ λ u n.
        closing _
        ∙ (titles_part m.languages m.standard m.latin m.old n
        ∙ same_behind (titles bad d m n) ((in_survey last).at (between m [])) (λ o. due bad d RECORD o (record_tag bad d m) >> recorded)
        λ o n.
        record_part o n)

  -- ---- sss
  abbrev above : Element → State → ℕ → Reader State
  above = element bad d (meanings d) (suc (suc (suc (suc (suc f)))))

  abbrev in_sss : List Part → Steps State
  in_sss l = steps bad d (meanings d) above SSS l

  abbrev surveys : List Part
  surveys = once Survey ∷ []

  abbrev users : List Part
  users = grammar.perhaps User ∷ surveys

  abbrev origins : List Part
  origins = grammar.perhaps Origin ∷ users

  abbrev times : List Part
  times = grammar.perhaps Time ∷ origins

  heading_part : (s : State) (n : ℕ)
      → (in_sss (grammar.perhaps Date ∷ times)).go s n ≡ bind (heading bad d n) ((in_sss surveys).at s)
  unfolding steps heading
  heading_part s n =
      map_behind (within_element bad d SSS n) _ ((in_sss (grammar.perhaps Date ∷ times)).at s) ((in_sss surveys).at s) λ o n.
      perhaps_is SSS DATE 0 s (above Date s) (in_sss times).at (λ p n. date_is bad d (suc (suc (suc (suc f)))) s p n) o n
      ∙ map_behind (perhaps_element bad d SSS DATE 0 o n) _ ((in_sss times).at s) ((in_sss surveys).at s) λ o n.
      perhaps_is SSS TIME 0 s (above Time s) (in_sss origins).at (λ p n. time_is bad d (suc (suc (suc (suc f)))) s p n) o n
      ∙ map_behind (perhaps_element bad d SSS TIME 0 o n) _ ((in_sss origins).at s) ((in_sss surveys).at s) λ o n.
      perhaps_is SSS ORIGIN 0 s (above Origin s) (in_sss users).at (λ p n. origin_is bad d (suc (suc (suc (suc f)))) s p n) o n
      ∙ map_behind (perhaps_element bad d SSS ORIGIN 0 o n) _ ((in_sss users).at s) ((in_sss surveys).at s) λ o n.
      perhaps_is SSS USER 0 s (above User s) (in_sss surveys).at (λ p n. user_is bad d (suc (suc (suc (suc f)))) s p n) o n

  module _ (m : Manner) where
    survey_then : (r : Result Unit) → bind (bind r λ u. surveyed m) (ended SSS) ≡ bind r λ u. surveyed m >>= ended SSS
    survey_then (Is u n) = refl
    survey_then (Not x) = refl

    survey_part : (o : Open) (n : ℕ)
        → (in_sss surveys).at (between m []) o n ≡ bind (due bad d SURVEY o (survey bad d) n) λ u. surveyed m >>= ended SSS
    unfolding steps
    survey_part o n =
        due_same bad d SURVEY o n (above Survey (between m [])) (survey bad d) (ended SSS) (λ u. surveyed m >>= ended SSS) λ p.
        rw (survey_is m p n) (survey_then (survey bad d p n))

    abbrev pub behind_sss : Reader State
    behind_sss = heading bad d >>= λ o. due bad d SURVEY o (survey bad d) >> (surveyed m >>= ended SSS)

    sss_part : (n : ℕ) → bind ((in_sss (grammar.perhaps Date ∷ times)).go (between m []) n) (λ s. give s) ≡ behind_sss n
    sss_part n =
        closing _
        ∙ (heading_part (between m []) n
        ∙ same_behind (heading bad d n) ((in_sss surveys).at (between m []))
        (λ o. due bad d SURVEY o (survey bad d) >> (surveyed m >>= ended SSS))
        λ o n. survey_part o n)

  pub sss_is : (latin : Bool) (p e : ℕ) → element bad d (meanings d) (suc (suc (suc (suc (suc (suc f)))))) Sss (unknown bad d f latin) p e
      ≡ bind (manner bad d latin p e) behind_sss
  unfolding element manner
  sss_is latin p e =
      on_tag_lem bad d (tag_of bad d p e VERSION OPTIONS LANGUAGES 0 6 0 1) _ _ behind_sss λ h empty q n.
      entered_as bad d _ _ _ empty q n _ _ λ n. sss_part _ n
