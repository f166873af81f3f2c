-- What the call answers: one outcome, and for a text of a table that was read from the definition that text's decoding, never 3.
use Rattle.std.specs.Prelude.{◌≡◌, refl, true, cond, List, ℕ, ◌+◌, eqb, ℤ, length}
use Rattle.std.proofs.Common.{◌∙◌, sym}
use Rattle.std.proofs.Math.Path.{ap}
use Rattle.scan.specs.rule.Text.{text}
use Rattle.marks.specs.declared.Inside.TheVariants.{Plain}
use Rattle.marks.specs.declared.Skip.TheVariants.{Past}
use Rattle.marks.specs.rule.Marks.{string_of}
use Rattle.marks.specs.rule.Spelling.{decode_of}
use Rattle.values.specs.declared.Said.{Said}
use Rattle.survey.specs.rule.Survey.{KeptText, Line, Variable}
use Rattle.survey.specs.rule.Table.{lines_of, variable_columns}
use Rattle.layout.specs.declared.Columns.{Columns}
use Rattle.measures.specs.Width.{plain_columns, widened, full_columns}
use Rattle.measures.specs.Survey.{columns_in}
use Rattle.measures.specs.Survey as kept
use Rattle.bridge.specs.Blocks.{SameLines, nothing, same}
use Rattle.bridge.specs.Blocks as blocks
use Rattle.bridge.specs.Entries.{SameVariable}
use Rattle.definition.specs.Books as books
use Rattle.definition.specs.rule.Definition as definition
use Rattle.definition.specs.rule.Definition.{Built, sss_outcome}
use Rattle.definition.proofs.Bridge.{Sames, SameOutcome, outcome_same}
use Rattle.definition.proofs.Bridge as bridge
use Rattle.texts.specs.declared.Decoded.{Decoded}
use Rattle.texts.specs.declared.Decoded.TheVariants as decoded
use Rattle.texts.specs.rule.Decode.{inside_text, signs_at, DecodeOutcome, signs, refused, decode_said, decode_fitting}
use Rattle.texts.specs.rule.Decode.{decoded_as}
use Rattle.texts.specs.rule.Decode.{TextDecoded}
use Rattle.text_laws.specs.Cut.{none, Says, string_says}
use Rattle.text_laws.specs.Stand.{Each, nil, more, LineStands, VariableStands, built_stands}

-- ---- NO TWO OUTCOMES
-- the answer that says an outcome
abbrev unsaid : DecodeOutcome → Decoded
unsaid (signs n) = decoded.Signs n
unsaid (refused k) = cond (eqb k 3) decoded.NotText decoded.ShortList

said_back : (r : Decoded) → unsaid (decode_said r) ≡ r
unfolding decode_said
said_back (decoded.Signs n) = refl
said_back decoded.NotText = refl
said_back decoded.ShortList = refl

pub text_settled : (d : List ℕ) (place long : ℕ) (list l₁ l₂ : List ℤ) (r₁ r₂ : Decoded)
    → TextDecoded d place long list l₁ r₁ → TextDecoded d place long list l₂ r₂ → (r₁ ≡ r₂) × (l₁ ≡ l₂)
text_settled d place long list l₁ l₂ r₁ r₂ a b =
    (sym (said_back r₁) ∙ ap unsaid (a.says ∙ sym b.says) ∙ said_back r₂, a.leaves ∙ sym b.leaves)

-- ---- THE TEXTS OF A TABLE
-- the call decodes the text q of the definition d: whatever the list, its answer is that of the text's signs, and 3 is none
pub record Decodes (d : List ℕ) (q : KeptText) : Type 0 where
  pub inside : inside_text d q.place q.length ≡ true
  pub decodes : signs_at d q.place q.length ≡ decode_of Plain 0 (text d q.place)
  pub answers : {list list' : List ℤ} {r : Decoded} → TextDecoded d q.place q.length list list' r
      → decode_said r ≡ decode_fitting (length list) (decode_of Plain 0 (text d q.place))

pub decodes_of : (d : List ℕ) (q : KeptText) → Says d q.place q.length → Decodes d q
unfolding decoded_as
decodes_of d q s = record {
  inside = s.inside;
  decodes = s.says;
  answers = λ {list} t. t.says ∙ rw (s.inside, s.says);
}

-- name, label and the texts of its lines
pub record VariableDecodes (d : List ℕ) (v : Variable) : Type 0 where
  pub name : Decodes d v.name
  pub label : Decodes d v.label
  pub lines : Each (λ (s : Line). Decodes d s.text) (lines_of v)

module _ (d : List ℕ) where
  -- a text that stands at an equal place, with an equal length
  stands_as : {p n p' n' : ℕ} → p ≡ p' → n ≡ n' → string_of Plain (text d p) ≡ Past (p + n + 1)
      → string_of Plain (text d p') ≡ Past (p' + n' + 1)
  stands_as e f k = rw (← e, ← f) k

  lines_decode : {l : List Said} {m : List Line} → SameLines d l m → Each (LineStands d) l → Each (λ (s : Line). Decodes d s.text) m
  lines_decode nothing nil = nil
  lines_decode (blocks.more (same {t = t} e c) r) (more k h) = more (decodes_of d t (string_says d _ _ k)) (lines_decode r h)

  -- what the code's books have of a variable is what the rule has of it
  variable_decodes : {v : kept.Variable} {w : Variable} → SameVariable d v w → VariableStands d v → VariableDecodes d w
  unfolding columns_in full_columns widened plain_columns variable_columns
  variable_decodes {v} {w} h s =
      let c = h.columns 0 in
      let e : v.head.name.length ≡ w.name.length = ap (λ (x : Columns). x.name_len) c in
      let f : v.head.label.place ≡ w.label.place = ap (λ (x : Columns). x.label) c in
      let g : v.head.label.length ≡ w.label.length = ap (λ (x : Columns). x.label_len) c in
      record {
        name = decodes_of d w.name (string_says d _ _ (stands_as h.name e s.name_stands));
        label = decodes_of d w.label (string_says d _ _ (stands_as f g s.label_stands));
        lines = lines_decode h.lines s.lines_stand;
      }

  variables_decode : {k : List kept.Variable} {m : List Variable} → Sames d k m → Each (VariableStands d) k → Each (VariableDecodes d) m
  variables_decode bridge.none nil = nil
  variables_decode (bridge.more h r) (more s k) = more (variable_decodes h s) (variables_decode r k)

-- every text of every variable that was read
pub texts_decode : (d : List ℕ) (n : ℕ) (l : List Variable) → sss_outcome d n ≡ Built l → Each (VariableDecodes d) l
texts_decode d n l e = by refl (outcome_same d n) e where
  by : {o : books.Outcome} {q : definition.SssOutcome} → books.outcome_in d n ≡ o → SameOutcome d o q → q ≡ Built l
      → Each (VariableDecodes d) l
  by i (bridge.built {l = k} {m = m} s) e = let j : m ≡ l = cc in rw (← j) (variables_decode d s (built_stands d n k i))
  by i bridge.refused e = none cc
