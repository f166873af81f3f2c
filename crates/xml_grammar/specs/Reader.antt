-- THE READER THAT KNOWS NOTHING BUT THE TABLE (Grammar.antt) and what each element says (`Meaning`). A state is handed from element to
-- element. Where the grammar is left, `due`, `over` and `within_element` of crate `xml_reading` have the number: 51 for a start tag that
-- may
-- not
-- stand there, 2 for an end tag or text, 50 where XML is broken. Above it: Meaning.antt, and that the rule is this reader.
use Rattle.std.specs.Prelude.{Bool, cond, List, [], ◌∷◌, ◌++◌, ℕ, zero, suc, ◌+◌, ◌-◌, take, drop}
use Rattle.scan.specs.rule.Loop.{Next, Again, Done}
use Rattle.spans.specs.rule.Heard.{heard}
use Rattle.forms.specs.rule.Form.{fits_of}
use Rattle.tags.specs.declared.Held.{Held}
use Rattle.tags.specs.declared.Tag.{Tag}
use Rattle.tags.specs.rule.Tag.{tag_of}
use Rattle.tokens.specs.rule.Gap.{fault}
use Rattle.survey.specs.rule.Survey.{KeptText}
use Rattle.reading.specs.rule.Result.{Not, Reader, ◌>>=◌, ◌>>◌, give, repeat, bind}
use Rattle.reading.specs.rule.Least.{Charge, judged}
use Rattle.reading.specs.rule.Variable.{Sort}
use Rattle.xml_reading.specs.rule.Open.{Open, within_element, due, over, unknown_at, on_tag, enter}
use Rattle.xml_reading.specs.rule.Open as stands
use Rattle.xml_reading.specs.rule.Element.{Body, body}
use Rattle.xml_reading.specs.rule.Block.{rich}
use Rattle.xml_grammar.specs.Grammar.{Element, Form, anything, digits, signed, letter, type, usage, option}
use Rattle.xml_grammar.specs.Grammar.{Attribute, required, implied, later, Part, once, perhaps, newly, either, any}
use Rattle.xml_grammar.specs.Grammar.{Holds, nothing, plain, number, texts, parts, typed, rule_of, typed_of}

-- ---- attributes: the numbers that crate `forms` has for forms; version 1.1 (`old`) doesn't know what came later
abbrev pub number_of : Form → ℕ
number_of anything = 0
number_of digits = 1
number_of signed = 2
number_of letter = 3
number_of type = 4
number_of usage = 5
number_of option = 6

abbrev pub name_in : Bool → Attribute → List ℕ
name_in old (required w f) = w
name_in old (implied w f) = w
name_in old (later w f) = cond old [] w

abbrev pub form_in : Bool → Attribute → ℕ
form_in old (required w f) = number_of f
form_in old (implied w f) = number_of f
form_in old (later w f) = cond old 0 (number_of f)

-- how many are required: they stand first
abbrev pub needed_by : Attribute → ℕ
needed_by (required w f) = 1
needed_by (implied w f) = 0
needed_by (later w f) = 0

-- what an element says, in a state S that is handed from element to element
pub record Meaning (S : Type 0) : Type 0 where
  -- what is charged once it was read, by its attributes and its text: before and behind attributes that aren't known
  pub charges : S → Held → KeptText → List Charge
  pub also : S → Held → KeptText → List Charge
  -- the state behind it, or behind its start tag where it holds others; and behind its end tag then
  pub said : S → Held → KeptText → Reader S
  pub closed : S → Reader S

pub record Meanings (S : Type 0) : Type 0 where
  -- what the file said of its version and of languages, and the variable of its type
  pub old : S → Bool
  pub languages : S → Bool
  pub sort : S → Sort
  -- one more than there may be of an element: the one too many is charged
  pub turns : Element → ℕ
  pub of : Element → Meaning S

-- how parts are read on: behind what was read, and where it is known what stands there
pub record Steps (S : Type 0) : Type 0 where
  pub go : S → Reader S
  pub at : S → Open → Reader S

abbrev pub no_text : KeptText
no_text = record { place = 0; length = 0 }

module _ (bad : Bool) (d : List ℕ) where
  -- a start tag with these attributes, three at most
  abbrev pub tag_by : Bool → List Attribute → ℕ → ℕ → Tag
  tag_by old [] p e = tag_of bad d p e [] [] [] 0 0 0 0
  tag_by old (x ∷ []) p e = tag_of bad d p e (name_in old x) [] [] (form_in old x) 0 0 (needed_by x)
  tag_by old (x ∷ y ∷ []) p e =
      tag_of bad d p e (name_in old x) (name_in old y) [] (form_in old x) (form_in old y) 0 (needed_by x + needed_by y)
  tag_by old (x ∷ y ∷ z ∷ l) p e =
      tag_of bad d p e (name_in old x) (name_in old y) (name_in old z) (form_in old x) (form_in old y) (form_in old z)
      (needed_by x + needed_by y + needed_by z)

  module _ {S : Type 0} (M : Meanings S) where
    -- ---- parts, inside an element whose word is `around`, by the reader of the elements in it
    module _ (child : Element → S → ℕ → Reader S) (around : List ℕ) where
      -- where it is looked first
      abbrev pub looking : (S → Open → Reader S) → Steps S
      looking f = record { go = λ s. within_element bad d around >>= f s; at = f }

      -- x: it stands there, or "2 .. 51" (`due`)
      abbrev pub step_once : Element → Steps S → S → Open → Reader S
      step_once x r s o = due bad d (rule_of x).word o (child x s) >>= r.go

      -- x?: it stands there, or what follows does
      abbrev pub step_perhaps : Element → Steps S → S → Open → Reader S
      step_perhaps x r s o = stands.either_element bad d (rule_of x).word o (λ p. child x s p >>= r.go) (r.at s o)

      -- (x | y)
      abbrev pub step_either : Element → Element → Steps S → S → Open → Reader S
      step_either x y r s o =
          stands.either_element bad d (rule_of x).word o (child x s) (due bad d (rule_of y).word o (child y s)) >>= r.go

      -- x*
      abbrev pub round : Element → S → Reader (Next S (S × Open))
      round x s =
          within_element bad d around >>= λ o.
          stands.either_element bad d (rule_of x).word o (λ p. child x s p >>= λ s. give (Again s)) (give (Done (s, o)))

      abbrev pub rounds : Element → Steps S → S → Reader S
      rounds x r s = repeat (M.turns x) (round x) s >>= λ t. r.at t.0 t.1

      abbrev pub step : Part → Steps S → Steps S
      step (once x) r = looking (step_once x r)
      step (perhaps x) r = looking (step_perhaps x r)
      step (newly x) r = looking λ s o. cond (M.old s) (r.at s o) (step_perhaps x r s o)
      step (either x y) r = looking (step_either x y r)
      step (any x) r =
          record {
            go = rounds x r;
            at = λ s o. stands.either_element bad d (rule_of x).word o (λ p. child x s p >>= rounds x r) (r.at s o);
          }

      -- behind the last part stands the end tag
      unfoldable pub steps : List Part → Steps S
      steps [] = looking λ s o. over bad d o >> give s
      steps (x ∷ l) = step x (steps l)

    -- ---- an element, behind its start tag
    module _ (x : Element) (s : S) (h : Held) where
      -- judged once read
      abbrev pub judging : KeptText → List Charge → Reader S
      judging t l =
          judged ((M.of x).charges s h t ++ unknown_at h.unknown ∷ ((M.of x).also s h t ++ l)) (tt {0}) >> (M.of x).said s h t

      abbrev pub reading : ℕ → Bool → Reader S
      reading mode empty = body bad d (rule_of x).word mode empty >>= λ b. judging b.text b.charges

      -- digits alone, or "2 at the text's place"
      abbrev pub counting : Body → Reader S
      counting b n =
          let v = b.text.place in
          let e = v + b.text.length in
          cond b.whole
          (cond (fits_of 1 (heard (take (e - v) (drop v d)) 0)) (judging b.text b.charges n) (Not (fault 2 v)))
          (bind (judged (unknown_at h.unknown ∷ b.charges) (tt {0}) n) λ u. (M.of x).said s h b.text)

      -- its start tag is a statement; then its parts up to its end tag
      abbrev pub entering : (Element → S → ℕ → Reader S) → (S → List Part) → Bool → ℕ → Reader S
      entering child l empty q = do
        enter bad d ((M.of x).charges s h no_text ++ unknown_at h.unknown ∷ (M.of x).also s h no_text) empty q
        s ← (M.of x).said s h no_text
        s ← (steps child (rule_of x).word (l s)).go s
        (M.of x).closed s

      abbrev pub holding : (Element → S → ℕ → Reader S) → Holds → Bool → ℕ → Reader S
      holding child nothing empty q = stands.nothing bad d (rule_of x).word empty >>= judging no_text
      holding child plain empty q = reading 0 empty
      holding child number empty q = body bad d (rule_of x).word 0 empty >>= counting
      holding child texts empty q = reading (rich (M.languages s)) empty
      holding child (parts l) empty q = entering child (λ s. l) empty q
      holding child (typed l) empty q = entering child (λ s. l ++ typed_of (M.sort s)) empty q

    -- ---- an element from behind the word of its start tag on, whose < stands at p; elements stand in each other so many deep at most
    unfoldable pub element : ℕ → Element → S → ℕ → Reader S
    element zero x s p e = Not (fault 0 0)
    element (suc f) x s p e =
        on_tag bad d (tag_by (M.old s) (rule_of x).attributes p e) λ h empty q. holding x s h (element f) (rule_of x).holds empty q
