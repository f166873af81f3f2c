-- A variable of the rule step by step: what is still to be read behind its start tag, its name, its label, its position, its filter, its
-- values.
use Rattle.std.specs.Prelude.{◌≡◌, refl, Bool, List, ℕ}
use Rattle.survey.specs.rule.Survey.{KeptText, Content}
use Rattle.survey.specs.rule.Table.{lines_all}
use Rattle.reading.specs.rule.Result.{Is, Reader, bind}
use Rattle.reading.specs.rule.Statement.{Position}
use Rattle.reading.specs.rule.Variable.{variable_of, held}
use Rattle.xml_reading.specs.rule.Word.{VARIABLE, NAME, LABEL, POSITION}
use Rattle.xml_reading.specs.rule.Open.{within_element, due}
use Rattle.xml_reading.specs.rule.Element.{text, position}
use Rattle.xml_reading.specs.rule.Block.{rich}
use Rattle.xml_reading.specs.rule.Role.{XmlEntry, Title, variables_of, title, naming}
use Rattle.xml_reading.specs.rule.Variable.{Manner, Then, filtered, content, variable}

module _ (bad : Bool) (d : List ℕ) (m : Manner) (l : List XmlEntry) (t : Title) where
  module _ (name label : KeptText) (p : Position) where
    -- width, once its end tag is read
    unfoldable pub after_content : ℕ → Content → Reader XmlEntry
    after_content f c n = bind (held (variable_of t.ident name label p c) n) λ v k. Is
        (record { variable = v; usage = t.usage; filter = f }) k

    unfoldable pub after_filter : Then ℕ → Reader XmlEntry
    after_filter x n = bind (content bad d m p (lines_all (variables_of l)) t.type x.behind n) (after_content x.it)

    unfoldable pub after_position : Reader XmlEntry
    after_position n = bind (within_element bad d VARIABLE n) λ o k. bind (filtered bad d m l name t.usage o k) after_filter

  unfoldable pub after_label : KeptText → KeptText → Reader XmlEntry
  after_label name label n = bind (within_element bad d VARIABLE n) λ o k. bind (due bad d POSITION o (position bad d) k)
      (after_position name label)

  unfoldable pub after_name : KeptText → Reader XmlEntry
  after_name name n = bind (within_element bad d VARIABLE n) λ o k. bind (due bad d LABEL o (text bad d LABEL (rich m.languages)) k)
      (after_label name)

  unfoldable pub after_title : Reader XmlEntry
  after_title n = bind (within_element bad d VARIABLE n) λ o k. bind (due bad d NAME o (naming bad d m.latin m.standard l) k) after_name

pub variable_is : (bad : Bool) (d : List ℕ) (m : Manner) (l : List XmlEntry) (q e : ℕ)
    → variable bad d m l q e ≡ bind (title bad d m.old l q e) (after_title bad d m l)
unfolding variable after_title after_name after_label after_position after_filter after_content
variable_is bad d m l q e = refl
