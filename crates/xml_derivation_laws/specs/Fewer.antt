-- TURNS SUFFICE: a line more, or a variable more, with nothing charged in it, leaves one fewer of the 4,096 or 512.
use Rattle.std.specs.Prelude.{◌≡◌, refl, Bool, true, false, ◌&&◌, List, [], ◌∷◌, ◌++◌, ℕ, ◌+◌, ◌-◌, ◌<◌, ◌≤◌, leb, ltb, length}
use Rattle.std.proofs.Common.{ap, ◌∙◌, arith, length-append, leb-true, leb-false}
use Rattle.below.specs.Below.{and_left, and_right}
use Rattle.layout.specs.rule.Layout.{most_rows, most_lines}
use Rattle.tags.specs.declared.Held.{Held}
use Rattle.survey.specs.rule.Survey.{KeptText}
use Rattle.reading.specs.rule.Least.{Charge}
use Rattle.reading.specs.rule.Values.{line_charges}
use Rattle.reading.specs.rule.Variable.{ident_charges, Sort}
use Rattle.bridge.specs.Lowest.{never}
use Rattle.xml_bridge.specs.Table.{entries_count}
use Rattle.grammar.specs.Faults.{Clean}
use Rattle.grammar_laws.specs.Views.{clean_left}
use Rattle.xml_reading.specs.rule.Role.{variables_of}
use Rattle.xml_grammar.specs.Grammar.{Element, Part, Holds, nothing, plain, number, texts, parts, typed, rule_of}
use Rattle.xml_grammar.specs.Grammar.{Sss, Date, Time, Origin, User, Survey, SurveyName, SurveyVersion, Title, Record}
use Rattle.xml_grammar.specs.Grammar.{Variable, Name, Label, Position, Filter, Spread, Size, Values, Range, Value}
use Rattle.xml_grammar.specs.Grammar as table
use Rattle.xml_grammar.specs.Meaning.{State, says_of, variable_in, lines_before, figure_a, amount_a, turns_of, is_quantity}
use Rattle.xml_grammar.specs.Reader.{no_text}
use Rattle.xml_derivations.specs.Derivation.{Comes, Passes, Parts, Thing, the, inside, Says, closed, closing_of, charges_of}
use Rattle.xml_derivations.specs.Derivation as derivation
use Rattle.xml_derivation_laws.specs.Charges.{clean_first}
use Rattle.xml_derivation_laws.specs.Table.{height, firsts, none, fit_of, rule_fits, typed_height}

-- how many lines, or variables, there may be yet
abbrev pub left : Holds → State → ℕ
left nothing s = 0
left plain s = 0
left number s = 0
left texts s = most_lines - (lines_before s + length s.block.lines)
left (parts l) s = 0
left (typed l) s = most_rows - length s.entries

-- ---- inside a variable no variable is said
says_keeps : (d : List ℕ) (x : Element) (s : State) (h : Held) (t : KeptText) → height x ≤ 2 → (says_of d x s h t).entries ≡ s.entries
says_keeps d Sss s h t e = absurd (omega arith)
says_keeps d Date s h t e = refl
says_keeps d Time s h t e = refl
says_keeps d Origin s h t e = refl
says_keeps d User s h t e = refl
says_keeps d Survey s h t e = refl
says_keeps d SurveyName s h t e = refl
says_keeps d SurveyVersion s h t e = refl
says_keeps d Title s h t e = refl
says_keeps d Record s h t e = refl
says_keeps d Variable s h t e = absurd (omega arith)
says_keeps d Name s h t e = refl
says_keeps d Label s h t e = refl
says_keeps d Position s h t e = refl
says_keeps d Filter s h t e = refl
says_keeps d Spread s h t e = refl
says_keeps d Size s h t e = refl
says_keeps d Values s h t e = refl
says_keeps d Range s h t e = refl
says_keeps d Value s h t e = refl

abbrev Keep : List ℕ → Thing → State → State → Type 0
Keep d (the x) s t = height x ≤ 2 → t.entries ≡ s.entries
Keep d (inside w l) s t = (k : ℕ) → k ≤ 2 → fit_of d k l ≡ true → t.entries ≡ s.entries

-- what comes next is no higher, and what is due behind it fits too
pub record Fits (d : List ℕ) (k : ℕ) (x : Element) (l : List Part) : Type 0 where
  pub low : height x ≤ k
  pub rest : fit_of d k l ≡ true

pub comes_fits : (d : List ℕ) (k : ℕ) {old : Bool} {q : Part} {x : Element} {b : List Part} (l : List Part) → Comes old q x b
    → fit_of d k (q ∷ l) ≡ true → Fits d k x (b ++ l)
unfolding fit_of
comes_fits d k l (derivation.Comes.once {x}) e =
    record {
      low = leb-true (height x) k (and_left (leb (height x) k) (fit_of d k l) e);
      rest = and_right (leb (height x) k) (fit_of d k l)
          e;
    }
comes_fits d k l (derivation.Comes.perhaps {x}) e =
    let a = leb (height x) k in
    let b = none (rule_of x).word (firsts l) in
    record {
      low = leb-true (height x) k (and_left a (b && fit_of d k l) e);
      rest = and_right b (fit_of d k l) (and_right a (b && fit_of d k l) e);
    }
comes_fits d k l (derivation.Comes.newly {x} o) e =
    let a = leb (height x) k in
    let b = none (rule_of x).word (firsts l) in
    record {
      low = leb-true (height x) k (and_left a (b && fit_of d k l) e);
      rest = and_right b (fit_of d k l) (and_right a (b && fit_of d k l) e);
    }
comes_fits d k l (derivation.Comes.left {x} {y}) e =
    let a = leb (height x) k in
    let b = leb (height y) k in
    let c = none (rule_of x).word (y ∷ []) in
    record {
      low = leb-true (height x) k (and_left a (b && (c && fit_of d k l)) e);
      rest = and_right c (fit_of d k l) (and_right b (c && fit_of d k l) (and_right a (b && (c && fit_of d k l)) e));
    }
comes_fits d k l (derivation.Comes.right {x} {y}) e =
    let a = leb (height x) k in
    let b = leb (height y) k in
    let c = none (rule_of x).word (y ∷ []) in
    let f = and_right a (b && (c && fit_of d k l)) e in
    record {
      low = leb-true (height y) k (and_left b (c && fit_of d k l) f);
      rest = and_right c (fit_of d k l)
          (and_right b (c && fit_of d k l) f);
    }
comes_fits d k l (derivation.Comes.any {x}) e =
    let a = leb (height x) k in
    record {
      low = leb-true (height x) k (and_left a (none (rule_of x).word (firsts l) && (ltb 0 (turns_of d x) && fit_of d k l)) e);
      rest = e;
    }

-- where a part is left out, what stands there has another name
pub passes_fits : (d : List ℕ) (k : ℕ) {q : Part} (l : List Part) → Passes q → fit_of d k (q ∷ l) ≡ true → fit_of d k l ≡ true
unfolding fit_of
passes_fits d k l (derivation.Passes.perhaps {x}) e =
    let a = leb (height x) k in
    let b = none (rule_of x).word (firsts l) in
    and_right b (fit_of d k l) (and_right a (b && fit_of d k l) e)
passes_fits d k l (derivation.Passes.newly {x}) e =
    let a = leb (height x) k in
    let b = none (rule_of x).word (firsts l) in
    and_right b (fit_of d k l) (and_right a (b && fit_of d k l) e)
passes_fits d k l (derivation.Passes.any {x}) e =
    let a = leb (height x) k in
    let b = none (rule_of x).word (firsts l) in
    let c = ltb 0 (turns_of d x) in
    and_right c (fit_of d k l) (and_right b (c && fit_of d k l) (and_right a (b && (c && fit_of d k l)) e))

keeps : {d : List ℕ} {x : Thing} {s t : State} {n m : ℕ} {c : List Charge} → Says d x s n c t m → Keep d x s t
keeps {d} {s = s} (derivation.empty {x} {h = h} i a b) = says_keeps d x s h no_text
keeps {d} {s = s} (derivation.text {x} {h = h} {t = y} i o a b) = says_keeps d x s h y
keeps {d} {s = s} (derivation.digits {x} {h = h} {t = y} i a b f) = says_keeps d x s h y
keeps {d} {s = s} (derivation.holding {x} {t = u} {h = h} i o a y) = λ e. by (keeps y) i o e where
  by : {r : Holds} {l : List Part} → Keep d (inside (rule_of x).word l) (says_of d x s h no_text) u → (rule_of x).holds ≡ r
      → Parts (says_of d x s h no_text).sort r l → height x ≤ 2 → (closed r u).entries ≡ s.entries
  by k i derivation.Parts.parts e =
      k (height x - 1) (omega arith) (rule_fits d x {k = (says_of d x s h no_text).sort} i derivation.Parts.parts)
      ∙ says_keeps d x s h no_text e
  by k i derivation.Parts.typed e = let j = typed_height x i in absurd (omega arith)
keeps (derivation.end g e) = λ k h f. refl
keeps {d} (derivation.next {l = l} o g y z) = λ k h f.
    let b = comes_fits d k l o f in
    let j = b.low in
    keeps z k h b.rest ∙ keeps y (omega arith)
keeps {d} (derivation.pass {l = l} o y) = λ k h f. keeps y k h (passes_fits d k l o f)

-- ---- one fewer
variable_few : (d : List ℕ) (s : State) (h : Held) → Clean (charges_of d Variable s h no_text) → length s.entries < most_rows
unfolding ident_charges
variable_few d s h c =
    let v = variables_of s.entries in
    let a = clean_left (ident_charges v (figure_a d h)) _ c in
    let b = (clean_first _ _ _ a).1 in
    let e = (clean_first _ _ _ b).1 in
    let f = (clean_first _ _ _ e).1 in
    let g = (clean_first _ _ _ f).0 in
    omega (arith, leb-false most_rows (length v) g, entries_count s.entries)

value_few : (d : List ℕ) (s : State) (h : Held) (t : KeptText) → Clean (charges_of d Value s h t)
    → lines_before s + length s.block.lines < most_lines
unfolding line_charges
value_few d s h t c =
    let a = clean_left (line_charges (is_quantity s.sort) (lines_before s) s.block (amount_a d h)) _ c in
    let b = (clean_first _ _ _ a).1 in
    let e = (clean_first _ _ _ b).1 in
    let f = (clean_first _ _ _ e).1 in
    let g = (clean_first _ _ _ f).1 in
    let i = (clean_first _ _ _ g).0 in
    leb-false most_lines (lines_before s + length s.block.lines) i

value_fewer : {d : List ℕ} {s t : State} {n m : ℕ} {c : List Charge} → Says d (the Value) s n c t m → Clean c
    → left texts t < left texts s
value_fewer (derivation.empty i a b) c = never cc
value_fewer {d} {s} (derivation.text {h = h} {t = y} i o a b) c =
    omega (arith, value_few d s h y c, length-append s.block.lines (record { value = amount_a d h; text = y; special = false } ∷ []))
value_fewer (derivation.digits i a b f) c = never cc
value_fewer (derivation.holding i o a y) c = absurd (by i o) where
  by : {k : Sort} {r : Holds} {l : List Part} → table.texts ≡ r → Parts k r l → ⊥
  by i derivation.Parts.parts = never cc
  by i derivation.Parts.typed = never cc

variable_fewer : {d : List ℕ} {s t : State} {n m : ℕ} {c : List Charge} (l : List Part) → Says d (the Variable) s n c t m → Clean c
    → left (typed l) t < left (typed l) s
variable_fewer l (derivation.empty i a b) c = never cc
variable_fewer l (derivation.text i o a b) c = absurd (by i o) where
  by : {r : Holds} {mode : ℕ} {languages : Bool} → (rule_of Variable).holds ≡ r → derivation.Texts languages r mode → ⊥
  by i derivation.Texts.characters = never cc
  by i derivation.Texts.rich = never cc
variable_fewer l (derivation.digits i a b f) c = never cc
variable_fewer {d} {s} l (derivation.holding {t = u} {h = h} {c = b} {r = r} i o a y) c =
    by i o (keeps y) (variable_few d s h (clean_left (charges_of d Variable s h no_text) (b ++ closing_of r u) c)) where
      by : {r : Holds} {k : List Part} → (rule_of Variable).holds ≡ r → Parts (says_of d Variable s h no_text).sort r k
          → Keep d (inside (rule_of Variable).word k) (says_of d Variable s h no_text) u → length s.entries < most_rows
          → left (typed l) (closed r u) < left (typed l) s
      by i derivation.Parts.parts k f = never cc
      by i derivation.Parts.typed k f =
          let e = k 2 (omega arith) (rule_fits d Variable {k = (says_of d Variable s h no_text).sort} i derivation.Parts.typed) in
          let g = ap length e in
          omega (arith, length-append u.entries (record { variable = variable_in u; usage = u.usage; filter = u.filter } ∷ []))

-- a line, or a variable
pub fewer : (d : List ℕ) (x : Element) {s t : State} {n m : ℕ} {c : List Charge} → ltb 0 (turns_of d x) ≡ true → Says d (the x) s n c t m
    → Clean c → left (rule_of x).holds t < left (rule_of x).holds s
fewer d Sss e y c = never cc
fewer d Date e y c = never cc
fewer d Time e y c = never cc
fewer d Origin e y c = never cc
fewer d User e y c = never cc
fewer d Survey e y c = never cc
fewer d SurveyName e y c = never cc
fewer d SurveyVersion e y c = never cc
fewer d Title e y c = never cc
fewer d Record e y c = never cc
fewer d Variable e y c = variable_fewer [] y c
fewer d Name e y c = never cc
fewer d Label e y c = never cc
fewer d Position e y c = never cc
fewer d Filter e y c = never cc
fewer d Spread e y c = never cc
fewer d Size e y c = never cc
fewer d Values e y c = never cc
fewer d Range e y c = never cc
fewer d Value e y c = value_fewer y c

-- and there are no more of them to come than turns
pub turns_suffice : (d : List ℕ) (x : Element) (s : State) → ltb 0 (turns_of d x) ≡ true → left (rule_of x).holds s < turns_of d x
turns_suffice d Sss s e = never cc
turns_suffice d Date s e = never cc
turns_suffice d Time s e = never cc
turns_suffice d Origin s e = never cc
turns_suffice d User s e = never cc
turns_suffice d Survey s e = never cc
turns_suffice d SurveyName s e = never cc
turns_suffice d SurveyVersion s e = never cc
turns_suffice d Title s e = never cc
turns_suffice d Record s e = never cc
turns_suffice d Variable s e = omega arith
turns_suffice d Name s e = never cc
turns_suffice d Label s e = never cc
turns_suffice d Position s e = never cc
turns_suffice d Filter s e = never cc
turns_suffice d Spread s e = never cc
turns_suffice d Size s e = never cc
turns_suffice d Values s e = never cc
turns_suffice d Range s e = never cc
turns_suffice d Value s e = omega arith
