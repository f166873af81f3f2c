-- NO FILE IS OF BOTH KINDS: "An XML definition is read as 1.1, so 2": where it begins, for no 1.1 definition begins with `<` or a byte
-- order mark. So
-- whatever the reader of 1.1 accepts is read by it, and every law of accepted 1.1 definitions is one of the call for both kinds.
use Rattle.std.specs.Prelude.{◌≡◌, refl, Bool, true, false, cond, ◌&&◌, ◌||◌, ◌⊎◌, List, [], ◌∷◌, ℕ, ◌≤◌, eqb, ltb, length, drop}
use Rattle.std.proofs.Common.{sym, ap, ◌∙◌, inl, inr, ⊎_elim, arith, eqb-true, le-ltb}
use Rattle.below.specs.Below.{and_left, either_true, holds_not}
use Rattle.ascii.specs.rule.Class.{class_of, upper_of}
use Rattle.scan.specs.rule.Text.{kept, text, place_of}
use Rattle.scan.specs.rule.Word.{word_of, word_at}
use Rattle.tokens.specs.rule.Gap.{fault}
use Rattle.markup.specs.rule.Bytes.{stands}
use Rattle.survey.specs.rule.Survey.{Variable, Survey}
use Rattle.reading.specs.rule.Result.{Result, Is, Not}
use Rattle.reading.specs.rule.Opening.{opening}
use Rattle.reading.specs.rule.Whole.{front, survey, survey_of}
use Rattle.prologs.specs.rule.Form.{XML, SSS}
use Rattle.prologs.specs.rule.Told.{start_behind_mark, is_xml}
use Rattle.definition.specs.rule.Definition.{Built, Refusal, sss_outcome}

-- a file in XML begins with < or EF
begins_so : (b : ℕ) (r : List ℕ) → is_xml (b ∷ r) ≡ true → (b ≡ 60) ⊎ (b ≡ 239)
unfolding is_xml start_behind_mark stands
begins_so b r = by (stands (239 ∷ 187 ∷ 191 ∷ []) (b ∷ r)) refl where
  angle : stands XML (b ∷ r) ≡ true → b ≡ 60
  angle h = eqb-true b 60 (and_left (eqb b 60) (stands (63 ∷ 120 ∷ 109 ∷ 108 ∷ []) r) h)

  bare : stands SSS (b ∷ r) ≡ true → b ≡ 60
  bare h = eqb-true b 60 (and_left (eqb b 60) (stands (115 ∷ 115 ∷ 115 ∷ []) r) h)

  by : (m : Bool) → stands (239 ∷ 187 ∷ 191 ∷ []) (b ∷ r) ≡ m
      → (stands XML (drop (cond m 3 0) (b ∷ r)) || stands SSS (drop (cond m 3 0) (b ∷ r))) ≡ true → (b ≡ 60) ⊎ (b ≡ 239)
  by true e h = inr (eqb-true b 239 (and_left (eqb b 239) (stands (187 ∷ 191 ∷ []) r) e))
  by false e h = inl (⊎_elim angle bare (either_true (stands XML (b ∷ r)) (stands SSS (b ∷ r)) h))

-- where SSS is due
angle_refused : (r : List ℕ) → survey_of (60 ∷ r) ≡ Not (fault 2 0)
unfolding survey_of survey front opening text kept place_of word_at word_of class_of upper_of
angle_refused r = refl

mark_refused : (r : List ℕ) → survey_of (239 ∷ r) ≡ Not (fault 2 0)
unfolding survey_of survey front opening text kept place_of word_at word_of class_of upper_of
mark_refused r = refl

xml_refused : (d : List ℕ) → is_xml d ≡ true → survey_of d ≡ Not (fault 2 0)
unfolding is_xml start_behind_mark stands
xml_refused [] h = holds_not h refl
xml_refused (b ∷ r) h = ⊎_elim (λ e. rw e (angle_refused r)) (λ e. rw e (mark_refused r)) (begins_so b r h)

-- the reader of 1.1 refuses it
pub xml_as_sss : (d : List ℕ) (n : ℕ) → is_xml d ≡ true → length d ≤ 1048576 → sss_outcome d n ≡ Refusal 2 0
unfolding sss_outcome
xml_as_sss d n h l = rw (le-ltb 1048576 (length d) l, xml_refused d h)

-- what it accepts is not XML
pub built_plain : (d : List ℕ) (n : ℕ) (l : List Variable) → sss_outcome d n ≡ Built l → is_xml d ≡ false
unfolding sss_outcome
built_plain d n l e = by (is_xml d) refl where
  none : {A : Type 0} → ◌≡◌ {A = ℕ} 0 1 → A
  none z = absurd (omega arith)

  long : (m : Bool) → is_xml d ≡ true → cond m (Refusal 1 0) (Refusal 2 0) ≡ Built l → true ≡ false
  long true h q = none cc
  long false h q = none cc

  by : (x : Bool) → is_xml d ≡ x → x ≡ false
  by false h = refl
  by true h = long (ltb 1048576 (length d)) h (rw (xml_refused d h) at e)
