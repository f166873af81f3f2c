-- Charges that are judged, and what each element says and is charged with, as the reader of the table has it.
use Rattle.std.specs.Prelude.{◌≡◌, Bool, true, false, not, List, [], ◌∷◌, ℕ, eqb}
use Rattle.std.proofs.Math.Path.{refl, sym}
use Rattle.std.proofs.Common.{◌∙◌, eqb-true}
use Rattle.tags.specs.declared.Held.{Held}
use Rattle.tokens.specs.declared.Fault.{Fault}
use Rattle.tokens.specs.rule.Gap.{fault}
use Rattle.survey.specs.rule.Survey.{KeptText}
use Rattle.reading.specs.rule.Result.{Result, Is}
use Rattle.reading.specs.rule.Least.{Charge, ◌when◌, named, least, judged}
use Rattle.bridge.specs.Lowest.{never}
use Rattle.grammar.specs.Faults.{Clean, width_faults}
use Rattle.grammar.specs.Refusal.{Lowest}
use Rattle.grammar_laws.specs.Views.{View, reads, halts, judge}
use Rattle.xml_reading.specs.rule.Open.{unknown_at}
use Rattle.xml_grammar.specs.Grammar.{Element, Sss, Date, Time, Origin, User, Survey, SurveyName, SurveyVersion, Title, Record}
use Rattle.xml_grammar.specs.Grammar.{Variable, Name, Label, Position, Filter, Spread, Size, Values, Range, Value, rule_of}
use Rattle.xml_grammar.specs.Meaning.{State, says_of, behind_of, variable_in, with_entry, meaning_of}
use Rattle.xml_grammar.specs.Behind.{judged_map}
use Rattle.xml_derivations.specs.Derivation.{closed, closing_of}

-- ---- judged with nothing at fault
pub record Judged {A : Type 0} (l : List Charge) (a b : A) (n m : ℕ) : Type 0 where
  pub clean : Clean l
  pub same : a ≡ b
  pub place : n ≡ m

pub judged_read : {A : Type 0} (l : List Charge) (a : A) (n : ℕ) {b : A} {m : ℕ} → judged l a n ≡ Is b m → Judged l a b n m
judged_read {A} l a n {b} {m} e = by (judge {Q = λ x k. (a ≡ x) × (n ≡ k) × Clean l} l a n (λ c. (refl, refl, c))) e where
  by : {r : Result A} → View (λ x k. (a ≡ x) × (n ≡ k) × Clean l) (Lowest l) r → r ≡ Is b m → Judged l a b n m
  by (reads {a = x} {m = k} p) e =
      let i : x ≡ b = cc in
      let j : k ≡ m = cc in
      record { clean = p.2; same = p.0 ∙ i; place = p.1 ∙ j }
  by (halts s) e = never cc

-- the first charge isn't named
pub clean_first : (f : Fault) (q : Bool) (l : List Charge) → Clean (f when q ∷ l) → (q ≡ false) × Clean l
unfolding named
clean_first f true l c = never cc
clean_first f false l c = (refl, c)

-- no attribute stands there that isn't known
pub known : (p : ℕ) (l : List Charge) → Clean (unknown_at p ∷ l) → (p ≡ 0) × Clean l
known p l c = let t = clean_first (fault 51 p) (not (eqb p 0)) l c in (by (eqb p 0) refl t.0, t.1) where
  by : (q : Bool) → eqb p 0 ≡ q → not q ≡ false → p ≡ 0
  by true e c = eqb-true p 0 e
  by false e c = never cc

pub none_unknown : (l : List Charge) → Clean l → Clean (unknown_at 0 ∷ l)
unfolding named
none_unknown l c = c

pub clean_none : Clean []
unfolding named
clean_none = refl

-- ---- what an element says, and what is charged behind all else in it
module _ (d : List ℕ) where
  pub said_is : (x : Element) (s : State) (h : Held) (t : KeptText) (n : ℕ)
      → (meaning_of d x).said s h t n ≡ judged (behind_of d x s t) (says_of d x s h t) n
  unfolding judged named least
  said_is Sss s h t n = refl
  said_is Date s h t n = refl
  said_is Time s h t n = refl
  said_is Origin s h t n = refl
  said_is User s h t n = refl
  said_is Survey s h t n = refl
  said_is SurveyName s h t n = refl
  said_is SurveyVersion s h t n = refl
  said_is Title s h t n = refl
  said_is Record s h t n = refl
  said_is Variable s h t n = refl
  said_is Name s h t n = refl
  said_is Label s h t n = refl
  said_is Position s h t n = refl
  said_is Filter s h t n = refl
  said_is Spread s h t n = refl
  said_is Size s h t n = refl
  said_is Values s h t n = refl
  said_is Range s h t n = refl
  said_is Value s h t n = refl

  -- behind its end tag
  pub closed_is : (x : Element) (s : State) (n : ℕ)
      → (meaning_of d x).closed s n ≡ judged (closing_of (rule_of x).holds s) (closed (rule_of x).holds s) n
  unfolding judged named least
  closed_is Sss s n = refl
  closed_is Date s n = refl
  closed_is Time s n = refl
  closed_is Origin s n = refl
  closed_is User s n = refl
  closed_is Survey s n = refl
  closed_is SurveyName s n = refl
  closed_is SurveyVersion s n = refl
  closed_is Title s n = refl
  closed_is Record s n = refl
  closed_is Variable s n = sym (judged_map (width_faults (variable_in s)) (variable_in s) (with_entry s) n)
  closed_is Name s n = refl
  closed_is Label s n = refl
  closed_is Position s n = refl
  closed_is Filter s n = refl
  closed_is Spread s n = refl
  closed_is Size s n = refl
  closed_is Values s n = refl
  closed_is Range s n = refl
  closed_is Value s n = refl
