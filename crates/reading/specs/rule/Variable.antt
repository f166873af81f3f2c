-- "A variable: `VARIABLE` id, NAME, LABEL, TYPE, POSITION a [TO b], then by type. SINGLE and QUANTITY: VALUES. MULTIPLE: optional `SPREAD`
-- n [`OF` w], then VALUES. CHARACTER: SIZE. LOGICAL: nothing. Then `END VARIABLE`." Its width is judged after that.
use Rattle.std.specs.Prelude.{true, false, not, List, [], ◌∷◌, ℕ, ◌+◌, ◌-◌, eqb, ltb, leb, length}
use Rattle.std.proofs.Math.Option.{none, some, get_or}
use Rattle.layout.specs.rule.Layout.{most_rows}
use Rattle.tokens.specs.rule.Gap.{fault}
use Rattle.statements.specs.rule.Words.{VARIABLE, NAME, LABEL, TYPE, SINGLE, MULTIPLE, QUANTITY, CHARACTER, LOGICAL, SPREAD, END}
use Rattle.survey.specs.rule.Survey.{Figure, KeptText, Content, single, multiple, quantity, character, logical, Variable}
use Rattle.survey.specs.rule.Width.{some_of}
use Rattle.survey.specs.rule.Table.{holds, lines_all}
use Rattle.reading.specs.rule.Result.{Reader, ◌>>=◌, give, due, ◌>>◌}
use Rattle.reading.specs.rule.Least.{Charge, ◌when◌, judged}
use Rattle.reading.specs.rule.Token.{gap, either, word, number}
use Rattle.reading.specs.rule.Statement.{notes, statement, phrase, Position, position, spread, size}
use Rattle.reading.specs.rule.Values.{values}

-- "5 ident 0, over four digits, or repeated"; "8 .. the ident of a 513th variable"
unfoldable pub ident_charges : List Variable → Figure → List Charge
ident_charges earlier n =
    fault 5 n.place when eqb n.value 0
    ∷ fault 5 n.place when ltb 4 n.digits
    ∷ fault 5 n.place when some_of (λ v. eqb v.ident.value n.value) earlier
    ∷ fault 8 n.place when leb most_rows (length earlier)
    ∷ []

-- TYPE and one of five words
pub data Sort : Type 0 where
  Single : Sort
  Multiple : Sort
  Quantity : Sort
  Character : Sort
  Logical : Sort

abbrev pub room : Position → ℕ
room p = (get_or p.finish p.start).value + 1 - p.start.value

abbrev pub variable_of : Figure → KeptText → KeptText → Position → Content → Variable
variable_of n name label p c = record { ident = n; name = name; label = label; start = p.start; finish = p.finish; content = c }

-- "7 .. or position too narrow .. the first POSITION number when too narrow"
abbrev pub held : Variable → Reader Variable
held v = judged (fault 7 v.start.place when not (holds v) ∷ []) v

module _ (d : List ℕ) where
  unfoldable pub ident : List Variable → Reader Figure
  ident earlier = do
    statement d VARIABLE
    n ← number d
    judged (ident_charges earlier n) n

  unfoldable pub type : Reader Sort
  type = do
    statement d TYPE
    gap d
    either d SINGLE (give Single)
        (either d MULTIPLE (give Multiple)
        (either d QUANTITY (give Quantity)
        (either d CHARACTER (give Character)
        (either d LOGICAL (give Logical)
        due))))

  -- by type; `before` lines stand before those of the variable
  abbrev pub content : Position → ℕ → Sort → Reader Content
  content p before Single = values d false before >>= λ b. give (single b)
  content p before Multiple = do
    notes d
    s ← either d SPREAD (spread d (room p) >>= λ s. give (some s)) (give none)
    b ← values d false before
    give (multiple s b)
  content p before Quantity = values d true before >>= λ b. give (quantity b)
  content p before Character = size d >>= λ n. give (character n)
  content p before Logical = give logical

  unfoldable pub variable : List Variable → Reader Variable
  variable earlier = do
    n ← ident earlier
    name ← phrase d NAME
    label ← phrase d LABEL
    t ← type
    p ← position d
    c ← content p (lines_all earlier) t
    statement d END
    word d VARIABLE
    held (variable_of n name label p c)
