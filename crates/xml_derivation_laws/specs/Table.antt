-- What holds of the table, line by line, by computation: its words are names; where a part may be left out, what may stand there instead
-- has
-- another name; elements that hold others stand above those; what may come any number of times is counted by the charges.
use Rattle.std.specs.Prelude.{◌≡◌, refl, Bool, true, not, ◌&&◌, List, [], ◌∷◌, ◌++◌, ℕ, ◌-◌, ◌<◌, leb, ltb}
use Rattle.std.proofs.Common.{arith}
use Rattle.below.specs.Below.{and_left, and_right}
use Rattle.markup.specs.rule.Bytes.{of_kind, is_name, starts_name, is_digit}
use Rattle.markup.specs.rule.Grammar.{Each, no_more, each}
use Rattle.pairs.specs.rule.Grammar.{Name, name}
use Rattle.spans.specs.rule.Says.{each_char, same_of}
use Rattle.bridge.specs.Lowest.{never}
use Rattle.reading.specs.rule.Variable.{Sort, Single, Multiple, Quantity, Character, Logical}
use Rattle.xml_grammar.specs.Grammar.{Element, Part, once, perhaps, newly, either, any, Holds, nothing, plain, number, texts, parts, typed}
use Rattle.xml_grammar.specs.Grammar.{rule_of, typed_of, Sss, Date, Time, Origin, User, Survey, SurveyName, SurveyVersion, Title, Record}
use Rattle.xml_grammar.specs.Grammar.{Variable, Label, Position, Filter, Spread, Size, Values, Range, Value}
use Rattle.xml_grammar.specs.Grammar as table
use Rattle.xml_grammar.specs.Meaning.{turns_of}
use Rattle.xml_derivations.specs.Derivation.{Parts}
use Rattle.xml_derivations.specs.Derivation as derivation

-- ---- words
each_of : (f : ℕ → Bool) (s : List ℕ) → each_char f s ≡ true → Each f s
unfolding each_char
each_of f [] e = no_more
each_of f (b ∷ s) e = each (and_left (f b) (each_char f s) e) (each_of f s (and_right (f b) (each_char f s) e))

pub word_name : (x : Element) → Name (rule_of x).word
unfolding starts_name of_kind is_name is_digit each_char
word_name Sss = name refl (each_of (of_kind 1) _ refl)
word_name Date = name refl (each_of (of_kind 1) _ refl)
word_name Time = name refl (each_of (of_kind 1) _ refl)
word_name Origin = name refl (each_of (of_kind 1) _ refl)
word_name User = name refl (each_of (of_kind 1) _ refl)
word_name Survey = name refl (each_of (of_kind 1) _ refl)
word_name SurveyName = name refl (each_of (of_kind 1) _ refl)
word_name SurveyVersion = name refl (each_of (of_kind 1) _ refl)
word_name Title = name refl (each_of (of_kind 1) _ refl)
word_name Record = name refl (each_of (of_kind 1) _ refl)
word_name Variable = name refl (each_of (of_kind 1) _ refl)
word_name table.Name = name refl (each_of (of_kind 1) _ refl)
word_name Label = name refl (each_of (of_kind 1) _ refl)
word_name Position = name refl (each_of (of_kind 1) _ refl)
word_name Filter = name refl (each_of (of_kind 1) _ refl)
word_name Spread = name refl (each_of (of_kind 1) _ refl)
word_name Size = name refl (each_of (of_kind 1) _ refl)
word_name Values = name refl (each_of (of_kind 1) _ refl)
word_name Range = name refl (each_of (of_kind 1) _ refl)
word_name Value = name refl (each_of (of_kind 1) _ refl)

-- ---- how many stand in each other
abbrev pub height : Element → ℕ
height Sss = 6
height Date = 1
height Time = 1
height Origin = 1
height User = 1
height Survey = 5
height SurveyName = 1
height SurveyVersion = 1
height Title = 1
height Record = 4
height Variable = 3
height table.Name = 1
height Label = 1
height Position = 1
height Filter = 1
height Spread = 1
height Size = 1
height Values = 2
height Range = 1
height Value = 1

pub some_height : (x : Element) → 0 < height x
some_height Sss = omega arith
some_height Date = omega arith
some_height Time = omega arith
some_height Origin = omega arith
some_height User = omega arith
some_height Survey = omega arith
some_height SurveyName = omega arith
some_height SurveyVersion = omega arith
some_height Title = omega arith
some_height Record = omega arith
some_height Variable = omega arith
some_height table.Name = omega arith
some_height Label = omega arith
some_height Position = omega arith
some_height Filter = omega arith
some_height Spread = omega arith
some_height Size = omega arith
some_height Values = omega arith
some_height Range = omega arith
some_height Value = omega arith

-- ---- which elements may stand first in parts
abbrev pub firsts : List Part → List Element
firsts [] = []
firsts (once x ∷ l) = x ∷ []
firsts (perhaps x ∷ l) = x ∷ firsts l
firsts (newly x ∷ l) = x ∷ firsts l
firsts (either x y ∷ l) = x ∷ y ∷ []
firsts (any x ∷ l) = x ∷ firsts l

-- none of them has the word w
unfoldable pub none : List ℕ → List Element → Bool
none w [] = true
none w (x ∷ l) = not (same_of w (rule_of x).word) && none w l

-- parts of elements no higher than k, told apart by their names
unfoldable pub fit_of : List ℕ → ℕ → List Part → Bool
fit_of d k [] = true
fit_of d k (once x ∷ l) = leb (height x) k && fit_of d k l
fit_of d k (perhaps x ∷ l) = leb (height x) k && (none (rule_of x).word (firsts l) && fit_of d k l)
fit_of d k (newly x ∷ l) = leb (height x) k && (none (rule_of x).word (firsts l) && fit_of d k l)
fit_of d k (either x y ∷ l) = leb (height x) k && (leb (height y) k && (none (rule_of x).word (y ∷ []) && fit_of d k l))
fit_of d k (any x ∷ l) = leb (height x) k && (none (rule_of x).word (firsts l) && (ltb 0 (turns_of d x) && fit_of d k l))

abbrev pub parts_of : Sort → Holds → List Part
parts_of k nothing = []
parts_of k plain = []
parts_of k number = []
parts_of k texts = []
parts_of k (parts l) = l
parts_of k (typed l) = l ++ typed_of k

fits : (d : List ℕ) (x : Element) (k : Sort) → fit_of d (height x - 1) (parts_of k (rule_of x).holds) ≡ true
unfolding fit_of none same_of
fits d Sss k = refl
fits d Date k = refl
fits d Time k = refl
fits d Origin k = refl
fits d User k = refl
fits d Survey k = refl
fits d SurveyName k = refl
fits d SurveyVersion k = refl
fits d Title k = refl
fits d Record k = refl
fits d Variable Single = refl
fits d Variable Multiple = refl
fits d Variable Quantity = refl
fits d Variable Character = refl
fits d Variable Logical = refl
fits d table.Name k = refl
fits d Label k = refl
fits d Position k = refl
fits d Filter k = refl
fits d Spread k = refl
fits d Size k = refl
fits d Values k = refl
fits d Range k = refl
fits d Value k = refl

parts_are : {k : Sort} {r : Holds} {l : List Part} → Parts k r l → l ≡ parts_of k r
parts_are derivation.parts = refl
parts_are derivation.typed = refl

pub rule_fits : (d : List ℕ) (x : Element) {k : Sort} {r : Holds} {l : List Part} → (rule_of x).holds ≡ r → Parts k r l
    → fit_of d (height x - 1) l ≡ true
rule_fits d x {k} e p = rw (parts_are p, ← e) (fits d x k)

-- an element that holds parts by its variable's type is the variable
pub typed_height : (x : Element) {l : List Part} → (rule_of x).holds ≡ typed l → height x ≡ 3
typed_height Sss e = never cc
typed_height Date e = never cc
typed_height Time e = never cc
typed_height Origin e = never cc
typed_height User e = never cc
typed_height Survey e = never cc
typed_height SurveyName e = never cc
typed_height SurveyVersion e = never cc
typed_height Title e = never cc
typed_height Record e = never cc
typed_height Variable e = refl
typed_height table.Name e = never cc
typed_height Label e = never cc
typed_height Position e = never cc
typed_height Filter e = never cc
typed_height Spread e = never cc
typed_height Size e = never cc
typed_height Values e = never cc
typed_height Range e = never cc
typed_height Value e = never cc
