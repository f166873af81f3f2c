-- THE WHOLE: a definition in XML is read as the table of document 000 (Grammar.antt) says, element by element, and every refusal is the
-- same, number and place. Before `<sss` stand the declaration and the DOCTYPE, behind `</sss>` what may follow: crate `prologs`.
use Rattle.std.specs.Prelude.{◌≡◌, Bool, true, false, cond, List, ℕ, ltb, length, take}
use Rattle.std.proofs.Math.Path.{refl, sym}
use Rattle.utf.specs.rule.Cut.{first_bad}
use Rattle.prologs.specs.rule.Told.{declaration_of}
use Rattle.prologs.specs.declared.Prolog.{Prolog}
use Rattle.prologs.specs.declared.Prolog.TheVariants as prolog
use Rattle.reading.specs.rule.Result.{Result, Is, Not, Reader, ◌>>=◌, ◌>>◌, give, bind}
use Rattle.xml_reading.specs.rule.Word.{SSS, SURVEY, RECORD}
use Rattle.xml_reading.specs.rule.Open.{within_element, due, over}
use Rattle.xml_reading.specs.rule.Role.{XmlEntry}
use Rattle.xml_reading.specs.rule.Variable.{Manner}
use Rattle.xml_reading.specs.rule.Sheet.{XmlSurvey, root, manner, heading, survey, titles, record_tag, preface, variables}
use Rattle.xml_reading.specs.rule.Sheet.{sheet_closed}
use Rattle.xml_reading.specs.rule.Sheet.{sheet}
use Rattle.xml_reading.specs.rule.Whole.{Refusal, sheet_of, declared, xml_outcome}
use Rattle.xml_grammar.specs.Grammar.{Sss}
use Rattle.xml_grammar.specs.Reader.{element}
use Rattle.xml_grammar.specs.Meaning.{State, between, meanings}
use Rattle.xml_grammar.specs.Behind.{map_behind, both_behind, three_behind}
use Rattle.xml_grammar.specs.Surveys.{unknown}
use Rattle.xml_grammar.specs.Whole.{depth, tail, last, sheet_by, sheet_of_by, declared_by, outcome_by}
use Rattle.xml_grammar.proofs.Surveys.{surveyed, ended, behind_sss, sss_is}

module _ (bad : Bool) (d : List ℕ) where
  module _ (latin : Bool) where
    -- the rule, behind each of its parts
    abbrev closed : Manner → List XmlEntry → Reader XmlSurvey
    closed m l = sheet_closed bad d >> give (record { manner = m; entries = l })

    abbrev rest : Manner → Reader XmlSurvey
    rest m = variables bad d m >>= closed m

    abbrev titling : Manner → Reader Manner
    titling m = titles bad d m >>= λ o. due bad d RECORD o (record_tag bad d m) >> give m

    abbrev fronting : Manner → Reader Manner
    fronting m = heading bad d >>= λ o. due bad d SURVEY o (survey bad d) >> titling m

    -- the three end tags
    ends : (m : Manner) (l : List XmlEntry) (n : ℕ)
        → bind (bind (ended bad d 0 SURVEY (between m l) n) (ended bad d 0 SSS)) (last bad d) ≡ closed m l n
    unfolding sheet_closed
    ends m l n =
        three_behind (within_element bad d SURVEY n) (λ o. over bad d o >> give (between m l)) (ended bad d 0 SSS) (last bad d)
        (λ o. over bad d o >> (within_element bad d SSS >>= λ o. over bad d o >> tail bad d)) said λ o n.
        three_behind (over bad d o n) (λ u. give (between m l)) (ended bad d 0 SSS) (last bad d)
        (λ u. within_element bad d SSS >>= λ o. over bad d o >> tail bad d)
        said λ u n.
        both_behind (within_element bad d SSS n) (λ o. over bad d o >> give (between m l)) (λ o. over bad d o >> tail bad d) (last bad d)
        said λ o n.
        both_behind (over bad d o n) (λ u. give (between m l)) (λ u. tail bad d) (last bad d) said λ u n. refl where
          said : Unit {0} → Reader XmlSurvey
          said u = give (record { manner = m; entries = l })

    records : (m : Manner) (n : ℕ)
        → bind (bind (bind (variables bad d m n) λ l. ended bad d 0 SURVEY (between m l)) (ended bad d 0 SSS)) (last bad d) ≡ rest m n
    records m n = by (variables bad d m n) where
      by : (r : Result (List XmlEntry))
          → bind (bind (bind r λ l. ended bad d 0 SURVEY (between m l)) (ended bad d 0 SSS)) (last bad d) ≡ bind r (closed m)
      by (Is l n) = ends m l n
      by (Not x) = refl

    surveys : (m : Manner) (n : ℕ) → bind (bind (surveyed bad d 0 m n) (ended bad d 0 SSS)) (last bad d) ≡ bind (titling m n) rest
    surveys m n =
        three_behind (titles bad d m n) (λ o. due bad d RECORD o (record_tag bad d m) >> recorded) (ended bad d 0 SSS) (last bad d)
        (λ o. due bad d RECORD o (record_tag bad d m) >> give m) rest λ o n.
        three_behind (due bad d RECORD o (record_tag bad d m) n) (λ u. recorded) (ended bad d 0 SSS) (last bad d) (λ u. give m) rest λ u n.
        records m n where
          recorded : Reader State
          recorded = variables bad d m >>= λ l. ended bad d 0 SURVEY (between m l)

    fronts : (m : Manner) (n : ℕ) → bind (behind_sss bad d 0 m n) (last bad d) ≡ bind (fronting m n) rest
    fronts m n =
        both_behind (heading bad d n) (λ o. due bad d SURVEY o (survey bad d) >> (surveyed bad d 0 m >>= ended bad d 0 SSS))
        (λ o. due bad d SURVEY o (survey bad d) >> titling m) (last bad d) rest λ o n.
        both_behind (due bad d SURVEY o (survey bad d) n) (λ u. surveyed bad d 0 m >>= ended bad d 0 SSS) (λ u. titling m) (last bad d) rest
        λ u n.
        surveys m n

    rooted : (p n : ℕ)
        → bind (element bad d (meanings d) (depth bad d) Sss (unknown bad d 0 latin) p n) (last bad d)
        ≡ bind (bind (manner bad d latin p n) fronting) rest
    rooted p n =
        rw (sss_is bad d 0 latin p n) (both_behind (manner bad d latin p n) (behind_sss bad d 0) fronting (last bad d) rest λ m n. fronts m
        n)

    -- ---- the sheet, from behind the declaration on
    pub sheet_is : (n : ℕ) → sheet bad d latin n ≡ sheet_by bad d latin n
    unfolding sheet preface
    sheet_is n =
        sym (map_behind (root bad d latin n) (λ p. manner bad d latin p >>= fronting)
        (λ p. element bad d (meanings d) (depth bad d) Sss (unknown bad d 0 latin) p >>= (last bad d)) rest λ p n. rooted p n)

sheet_of_lem : (latin : Bool) (d : List ℕ) (at n : ℕ) → sheet_of latin d at n ≡ sheet_of_by latin d at n
unfolding sheet_of
sheet_of_lem latin d at n =
    rw (sheet_is (ltb (first_bad latin d at) (length d)) (take (first_bad latin d at) d) latin at)

-- A DEFINITION IN XML SAYS WHAT THE TABLE SAYS, and is refused as the table says
pub outcome_is : (d : List ℕ) (n : ℕ) → xml_outcome d n ≡ outcome_by d n
unfolding xml_outcome
outcome_is d n = sized (ltb 1048576 (length d)) where
  on : (p : Prolog) → declared d n p ≡ declared_by d n p
  on (prolog.Read latin at) = sheet_of_lem latin d at n
  on (prolog.Fault number p) = refl

  sized : (x : Bool) → cond x (Refusal 1 0) (declared d n (declaration_of d)) ≡ cond x (Refusal 1 0) (declared_by d n (declaration_of d))
  sized true = refl
  sized false = on (declaration_of d)
