-- The words that an attribute may have are those of the table: single, multiple .. for a type, serial and weight for a use, standardnames.
use Rattle.std.specs.Prelude.{◌≡◌, refl, Bool, true, false, cond, ◌||◌, List, [], ◌∷◌, ℕ, ltb}
use Rattle.spans.specs.rule.Heard.{Heard}
use Rattle.spans.specs.rule.Says.{heard_word}
use Rattle.forms.specs.rule.Form.{form_kind, use_of, fits_of}
use Rattle.forms.specs.rule.Form as form
use Rattle.xml_grammar.specs.Grammar.{type, usage, option, words_of}
use Rattle.xml_grammar.specs.Reader.{number_of}

-- one of these words
unfoldable pub is_one_of : List (List ℕ) → Heard → Bool
is_one_of [] h = false
is_one_of (w ∷ l) h = heard_word w h || is_one_of l h

pub type_words : (h : Heard) → fits_of (number_of type) h ≡ is_one_of (words_of type) h
unfolding fits_of form_kind is_one_of
type_words h = by (heard_word form.single h) (heard_word form.multiple h) (heard_word form.quantity h) (heard_word form.character h)
    (heard_word form.logical h)
  where
    by : (a b c d e : Bool) → ltb 0 (cond a 1 (cond b 2 (cond c 3 (cond d 4 (cond e 5 0))))) ≡ a || (b || (c || (d || (e || false))))
    by true b c d e = refl
    by false true c d e = refl
    by false false true d e = refl
    by false false false true e = refl
    by false false false false true = refl
    by false false false false false = refl

pub use_words : (h : Heard) → fits_of (number_of usage) h ≡ is_one_of (words_of usage) h
unfolding fits_of use_of is_one_of
use_words h = by (heard_word form.serial h) (heard_word form.weight h) where
  by : (a b : Bool) → ltb 0 (cond a 1 (cond b 2 0)) ≡ a || (b || false)
  by true b = refl
  by false true = refl
  by false false = refl

pub option_words : (h : Heard) → fits_of (number_of option) h ≡ is_one_of (words_of option) h
unfolding fits_of is_one_of
option_words h = by (heard_word form.standardnames h) where
  by : (a : Bool) → a ≡ a || false
  by true = refl
  by false = refl
