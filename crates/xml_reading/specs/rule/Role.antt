-- The start tag of a variable, its use and its filter. "At most one serial, a character or quantity, and one weight, a quantity; neither
-- may
-- have a filter": "a second serial or weight, or a wrong type: 52 at the use value's first byte". "Filter: of the variables up to and with
-- its
-- own, exactly one has the decoded text as its name, and that is an earlier logical; else, and on a serial or weight, 52 at the text's
-- place. A later variable with the name of a logical that has served as a filter is 52 at its name's text. Names compare by decoded
-- characters, with standardnames case aside."
use Rattle.std.specs.Prelude.{Bool, true, false, cond, not, ◌&&◌, ◌||◌, List, [], ◌∷◌, ◌++◌, map, ℕ, zero, suc, ◌+◌, ◌-◌, eqb, ltb}
use Rattle.std.specs.Prelude.{take, drop}
use Rattle.signs.specs.declared.Sign.{Sign}
use Rattle.signs.specs.declared.Sign.TheVariants.{Byte, Break}
use Rattle.names.specs.rule.Standard.{agree}
use Rattle.spans.specs.rule.Heard.{heard}
use Rattle.forms.specs.rule.Form.{form_kind, use_of}
use Rattle.tags.specs.rule.Tag.{tag_of}
use Rattle.contents.specs.rule.Content.{begun, signs_from}
use Rattle.tokens.specs.rule.Gap.{fault}
use Rattle.survey.specs.rule.Survey.{Figure, KeptText, Variable}
use Rattle.survey.specs.rule.Width.{some_of}
use Rattle.survey.specs.rule.Table.{type_of}
use Rattle.reading.specs.rule.Result.{Reader, ◌>>=◌}
use Rattle.reading.specs.rule.Least.{◌when◌, judged}
use Rattle.reading.specs.rule.Variable.{ident_charges}
use Rattle.xml_reading.specs.rule.Word.{IDENT, TYPE, USE, NAME, FILTER}
use Rattle.xml_reading.specs.rule.Open.{unknown_at, on_tag, entered}
use Rattle.xml_reading.specs.rule.Element.{figure_of, text}

-- a variable as 1.1 has them, its use (0 none, 1 serial, 2 weight) and its filter (the row of a logical, plus one; 0 none)
pub record XmlEntry : Type 0 where
  pub variable : Variable
  pub usage : ℕ
  pub filter : ℕ

abbrev pub variables_of : List XmlEntry → List Variable
variables_of l = map (λ v. v.variable) l

-- ---- the start tag: ident, type (1 to 5) and use
pub record Title : Type 0 where
  pub ident : Figure
  pub type : ℕ
  pub usage : ℕ

-- what a stretch of d says as a type, and as a use (place 0 is none)
unfoldable pub type_at : List ℕ → ℕ → ℕ → ℕ
type_at d v e = form_kind (heard (take (e - v) (drop v d)) 0)

unfoldable pub use_at : List ℕ → ℕ → ℕ → ℕ
use_at d v e = cond (eqb v 0) 0 (use_of (heard (take (e - v) (drop v d)) 0))

-- a serial is a character or a quantity, a weight a quantity
unfoldable pub may_serve : ℕ → ℕ → Bool
may_serve usage type = eqb type 3 || (eqb usage 1 && eqb type 4)

-- 52 at the use's value, where there is one
unfoldable pub use_wrong : List XmlEntry → ℕ → ℕ → Bool
use_wrong earlier usage type = ltb 0 usage && (not (may_serve usage type) || some_of (λ v. eqb v.usage usage) earlier)

-- ---- names
-- what a text of d says
unfoldable pub signs_in : Bool → List ℕ → KeptText → List Sign
signs_in latin d t = signs_from latin (take (t.place + t.length) d) (begun t.place)

abbrev pub same_sign : Sign → Sign → Bool
same_sign (Byte b) (Byte c) = eqb b c
same_sign (Byte b) Break = false
same_sign Break (Byte c) = false
same_sign Break Break = true

unfoldable pub same_signs : List Sign → List Sign → Bool
same_signs [] [] = true
same_signs [] (y ∷ t) = false
same_signs (x ∷ s) [] = false
same_signs (x ∷ s) (y ∷ t) = same_sign x y && same_signs s t

unfoldable pub alike : Bool → List Sign → List Sign → Bool
alike standard s t = cond standard (agree s t) (same_signs s t)

-- the texts s and t of d are one name
unfoldable pub same_name : Bool → Bool → List ℕ → KeptText → KeptText → Bool
same_name latin standard d s t = alike standard (signs_in latin d s) (signs_in latin d t)

-- ---- filters
-- the name of row i; none beyond them
unfoldable pub is_name_of : (KeptText → Bool) → List XmlEntry → ℕ → Bool
is_name_of f [] i = false
is_name_of f (v ∷ l) zero = f v.variable.name
is_name_of f (v ∷ l) (suc i) = is_name_of f l i

-- the text t is the name of a row that has served as a filter
unfoldable pub has_served : Bool → Bool → List ℕ → List XmlEntry → KeptText → Bool
has_served latin standard d earlier t =
    some_of (λ v. ltb 0 v.filter && is_name_of (same_name latin standard d t) earlier (v.filter - 1)) earlier

-- how many of the names the text t is
unfoldable pub count_named : (KeptText → Bool) → List XmlEntry → ℕ
count_named f [] = 0
count_named f (v ∷ l) = cond (f v.variable.name) (1 + count_named f l) (count_named f l)

-- the row, plus one, of the first logical from row i on whose name it is; 0 where there is none
unfoldable pub filter_from : (KeptText → Bool) → ℕ → List XmlEntry → ℕ
filter_from f i [] = 0
filter_from f i (v ∷ l) = cond (f v.variable.name && eqb (type_of v.variable.content) 5) (i + 1) (filter_from f (i + 1) l)

-- the filter that the text t names for a variable whose own name is `name`: 0 where the rule is broken
unfoldable pub filter_of : Bool → Bool → List ℕ → List XmlEntry → KeptText → ℕ → KeptText → ℕ
filter_of latin standard d earlier name usage t =
    let f = same_name latin standard d t in
    cond (eqb usage 0 && (not (f name) && eqb (count_named f earlier) 1)) (filter_from f 0 earlier) 0

module _ (bad : Bool) (d : List ℕ) where
  -- `<variable ident type [use]>`; version 1.1 (`old`) has no use
  unfoldable pub title : Bool → List XmlEntry → ℕ → Reader Title
  title old earlier p e =
      on_tag bad d (tag_of bad d p e IDENT TYPE (cond old [] USE) 1 4 (cond old 0 5) 2) λ h empty q.
      let x = figure_of d h.a h.ae in
      let t = type_at d h.b h.be in
      let u = use_at d h.c h.ce in
      entered bad d
      (ident_charges (variables_of earlier) x ++ unknown_at h.unknown ∷ fault 52 h.c when use_wrong earlier u t ∷ [])
      (record { ident = x; type = t; usage = u }) empty q

  module _ (latin standard : Bool) (earlier : List XmlEntry) where
    -- `<name>`
    unfoldable pub naming : ℕ → Reader KeptText
    naming p = do
      t ← text bad d NAME 0 p
      judged (fault 52 t.place when has_served latin standard d earlier t ∷ []) t

    -- `<filter>`, of a variable of this name and use
    unfoldable pub filter : KeptText → ℕ → ℕ → Reader ℕ
    filter name usage p = do
      t ← text bad d FILTER 0 p
      judged (fault 52 t.place when eqb (filter_of latin standard d earlier name usage t) 0 ∷ [])
          (filter_of latin standard d earlier name usage t)
