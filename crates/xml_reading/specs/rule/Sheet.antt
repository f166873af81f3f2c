-- "sss(date?, time?, origin?, user?, survey(name?, version?, title?, record(variable+)))." "Version 1.1 has no survey name, version, ..
-- href,
-- languages: each 51." "4 in XML a version not 1.1 or 1.2." "Before `<sss`: another start tag 51, a processing instruction 51", anything
-- else 50. "Behind `</sss>` only white space and comments, else 50 there (51 for a processing instruction)."
use Rattle.std.specs.Prelude.{Bool, cond, not, ◌&&◌, List, [], ◌∷◌, ◌++◌, ℕ, suc, ◌+◌, ◌-◌, eqb, drop, take}
use Rattle.layout.specs.rule.Layout.{most_rows}
use Rattle.scan.specs.rule.Loop.{Next, Again, Done}
use Rattle.markup.specs.rule.Bytes.{stands}
use Rattle.markup.specs.declared.Skip.{Skip}
use Rattle.markup.specs.declared.Skip.TheVariants as skip
use Rattle.spans.specs.rule.Heard.{heard}
use Rattle.spans.specs.rule.Says.{heard_word}
use Rattle.tags.specs.rule.Tag.{tag_of, is_named}
use Rattle.pairs.specs.rule.Stand.{stand_at, shut_of, bare_of}
use Rattle.pairs.specs.declared.Stand.{Stand}
use Rattle.pairs.specs.declared.Stand.TheVariants as stand
use Rattle.prologs.specs.rule.Told.{head_of, tail_from}
use Rattle.prologs.specs.declared.Prolog.{Prolog}
use Rattle.prologs.specs.declared.Prolog.TheVariants as prolog
use Rattle.prologs.specs.declared.Tail.{Tail}
use Rattle.prologs.specs.declared.Tail.TheVariants as tail
use Rattle.tokens.specs.rule.Gap.{fault}
use Rattle.reading.specs.rule.Result.{Result, Is, Not, Reader, ◌>>=◌, ◌>>◌, give, repeat}
use Rattle.reading.specs.rule.Least.{◌when◌}
use Rattle.xml_reading.specs.rule.Word.{SSS, VERSION, OPTIONS, LANGUAGES, DATE, TIME, ORIGIN, USER, SURVEY, NAME, TITLE, RECORD}
use Rattle.xml_reading.specs.rule.Word.{IDENT, HREF, VARIABLE, ONE-ONE, ONE-TWO}
use Rattle.xml_reading.specs.rule.Open.{Open, start, shut, within_element, misplaced, either_element, due, over, unknown_at, on_tag}
use Rattle.xml_reading.specs.rule.Open.{entered, enter}
use Rattle.xml_reading.specs.rule.Element.{text}
use Rattle.xml_reading.specs.rule.Block.{rich}
use Rattle.xml_reading.specs.rule.Role.{XmlEntry}
use Rattle.xml_reading.specs.rule.Variable.{Manner, variable}

pub record XmlSurvey : Type 0 where
  pub manner : Manner
  pub entries : List XmlEntry

-- the stretch of d from v to e is the word w
unfoldable pub says_word : List ℕ → ℕ → ℕ → List ℕ → Bool
says_word d v e w = heard_word w (heard (take (e - v) (drop v d)) 0)

module _ (bad : Bool) (d : List ℕ) where
  -- ---- the root
  abbrev pub no_root : Skip → Result ℕ
  no_root (skip.Past n) = Not (fault 50 n)
  no_root (skip.Broken p) = Not (fault 50 p)

  abbrev pub rooted : Stand → Result ℕ
  rooted (stand.Start p e) = cond (is_named d (p + 1) e SSS) (Is p e) (misplaced bad d p e)
  rooted (stand.Close p e) = no_root (shut_of bad d p e [])
  rooted (stand.Foreign p) = Not (fault (cond (stands (60 ∷ 63 ∷ []) (drop p d)) 51 50) p)
  rooted (stand.Text p) = Not (fault 50 p)
  rooted (stand.Broken p) = Not (fault 50 p)

  abbrev pub headed : Prolog → Result ℕ
  headed (prolog.Read latin n) = rooted (stand_at bad d n)
  headed (prolog.Fault number p) = Not (fault number p)

  -- from behind the declaration to behind the root's name: where its < stands
  unfoldable pub root : Bool → Reader ℕ
  root latin n = headed (head_of bad latin d n)

  -- `<sss version [options] [languages]>`
  unfoldable pub manner : Bool → ℕ → Reader Manner
  manner latin p e =
      on_tag bad d (tag_of bad d p e VERSION OPTIONS LANGUAGES 0 6 0 1) λ h empty q.
      let old = says_word d h.a h.ae ONE-ONE in
      let new = says_word d h.a h.ae ONE-TWO in
      entered bad d
      (fault 4 h.a when (not old && not new) ∷ unknown_at h.unknown ∷ fault 51 h.third when (old && not (eqb h.c 0)) ∷ [])
      (record { old = old; languages = not (eqb h.c 0); standard = not (eqb h.b 0); latin = latin }) empty q

  -- ---- texts that may be left out, inside an element `around`; what stands behind
  unfoldable pub perhaps_element : List ℕ → List ℕ → ℕ → Open → Reader Open
  perhaps_element around w k o = either_element bad d w o (λ p. text bad d w k p >> within_element bad d around) (give o)

  unfoldable pub heading : Reader Open
  heading = do
    o ← within_element bad d SSS
    o ← perhaps_element SSS DATE 0 o
    o ← perhaps_element SSS TIME 0 o
    o ← perhaps_element SSS ORIGIN 0 o
    perhaps_element SSS USER 0 o

  -- `<survey>` or `<record ..>`: a start tag with these charges
  unfoldable pub survey : ℕ → Reader Unit
  survey p e =
      on_tag bad d (bare_of bad d p e) λ h empty q.
      enter bad d (unknown_at h.unknown ∷ []) empty q

  unfoldable pub titles : Manner → Reader Open
  titles m = do
    o ← within_element bad d SURVEY
    o ← cond m.old (give o) (perhaps_element SURVEY NAME 0 o >>= perhaps_element SURVEY VERSION 0)
    perhaps_element SURVEY TITLE (rich m.languages) o

  -- `<record ident [href]>`
  unfoldable pub record_tag : Manner → ℕ → Reader Unit
  record_tag m p e =
      on_tag bad d (tag_of bad d p e IDENT (cond m.old [] HREF) [] 3 0 0 1) λ h empty q.
      enter bad d (unknown_at h.unknown ∷ []) empty q

  -- from behind the declaration to behind `<record ..>`
  unfoldable pub preface : Bool → Reader Manner
  preface latin = do
    p ← root latin
    m ← manner latin p
    o ← heading
    due bad d SURVEY o survey
    o ← titles m
    due bad d RECORD o (record_tag m)
    give m

  -- ---- "variable+"
  abbrev pub on_open : Manner → List XmlEntry → Open → Reader (Next (List XmlEntry) (List XmlEntry))
  on_open m l (start p) = due bad d VARIABLE (start p) (λ p. variable bad d m l p >>= λ v. give (Again (l ++ v ∷ [])))
  on_open m l (shut p) = give (Done l)

  unfoldable pub another_element : Manner → List XmlEntry → Reader (Next (List XmlEntry) (List XmlEntry))
  another_element m l = within_element bad d RECORD >>= on_open m l

  -- "512 variables": the 513th is refused
  unfoldable pub variables : Manner → Reader (List XmlEntry)
  variables m = do
    o ← within_element bad d RECORD
    v ← due bad d VARIABLE o (variable bad d m [])
    repeat (suc most_rows) (another_element m) (v ∷ [])

  -- ---- `</survey>`, `</sss>`, and what follows
  abbrev pub cleared : Tail → ℕ → Result Unit
  cleared tail.Clean n = Is tt n
  cleared (tail.Foul number p) n = Not (fault number p)

  unfoldable pub sheet_closed : Reader Unit
  sheet_closed = do
    o ← within_element bad d SURVEY
    over bad d o
    o ← within_element bad d SSS
    over bad d o
    λ n. cleared (tail_from bad d n) n

  unfoldable pub sheet : Bool → Reader XmlSurvey
  sheet latin = do
    m ← preface latin
    l ← variables m
    sheet_closed
    give (record { manner = m; entries = l })
