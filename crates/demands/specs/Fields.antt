-- FURTHER FINAL THEOREMS about fields and texts, each restated with its name in the crate that proves it: the requests that brought no call
-- of their own (C-12, C-13, C-17, C-18), and all rows of a record at once.
use Rattle.std.specs.Prelude.{◌≡◌, ◌↔◌, true, List, [], ◌∷◌, ◌++◌, ℕ, suc, ◌+◌, ◌*◌, ◌/◌, ◌%◌, ◌≤◌, ◌<◌, ℤ, length, take, drop}
use Rattle.layout.specs.declared.Format.{Format}
use Rattle.layout.specs.declared.Row.{Row}
use Rattle.layout.specs.rule.Row.{row_at}
use Rattle.fields.specs.rule.Number.{padded, says, quantity_of}
use Rattle.fields.specs.rule.Row.{places_of, reading_of}
use Rattle.numbers.specs.rule.Format.{FormatFacts}
use Rattle.sets.specs.rule.Sets.{is_illegal}
use Rattle.sound.specs.rule.Sound.{well_formed}
use Rattle.sound.specs.rule.Rows.{rows_of}
use Rattle.survey.specs.rule.Survey.{Amount}
use Rattle.survey.specs.rule.Width.{point_in}
use Rattle.faults.specs.declared.Fault.TheVariants.{Stray, Point}
use Rattle.faults.specs.rule.Fault.{fault_of}
use Rattle.faults.specs.Joined.{some_fault}
use Rattle.records.specs.rule.Value.{reading_at}
use Rattle.record_values.specs.rule.Record.{members_of}
use Rattle.record_values.specs.Record.{start_of}
use Rattle.scan.specs.rule.Text.{text}
use Rattle.texts.specs.rule.Decode.{cut_off, inside_text, signs_at}
use Rattle.definition.specs.rule.Definition.{sss_outcome}
use Rattle.digits.specs.Right as right
use Rattle.share_laws.specs.Code as code
use Rattle.read_laws.specs.Shares as shares
use Rattle.text_laws.specs.Breaks as breaks
use Rattle.text_laws.specs.Same as same
use Rattle.fault_laws.specs.Placed as placed
use Rattle.fault_laws.specs.Refused as refused
use Rattle.zarfolin.specs.rule.Face.{ValueTold}
use Rattle.zarfolin.specs.rule.Whole.{WholeTold}
use Rattle.zarfolin.specs.Settled as face
use Rattle.zarfolin.specs.Whole as whole

-- ---- C-12: "last digit first"
-- a number's last digit is what ten leaves of it, and the digits before it are those of the rest
pub last_digit_first : (k n : ℕ) → padded (suc k) n ≡ padded k (n / 10) ++ (48 + n % 10) ∷ []
last_digit_first = right.padded_right

-- ---- C-13: "a block in which every number is written with no digit before the point gets point code 2"
pub point_code_two : (x : Amount) (l : List Amount)
    → (point_in (x ∷ l) ≡ 2 → code.Every code.IsBare (x ∷ l)) × (code.Every code.IsBare (x ∷ l) → point_in (x ∷ l) ≡ 2)
point_code_two = code.code_two_exactly

-- "the whole part may then be empty in the data": spaces, a minus or none, digits or none, the point, the decimals, and nothing else
pub share_said : (f : Format) → FormatFacts f → f.point ≡ 2 → (s : List ℕ) (z : ℤ)
    → (quantity_of f s ≡ says z → shares.ShareForm f.decimals s z) × (shares.ShareForm f.decimals s z → quantity_of f s ≡ says z)
share_said = shares.share_exactly

-- ---- C-17: "answer {NL} as a break of its own kind, beside the bytes"
-- sign k of what the call decodes is a break exactly when the piece of the text that says it is {NL}
pub break_said : (d : List ℕ) (place long k : ℕ) → inside_text d place long ≡ true
    → (breaks.break_at (signs_at d place long) k ≡ true) ↔ breaks.LineAt (text (cut_off d place long ++ 34 ∷ []) place) k
break_said = breaks.text_break_exactly

-- every definition is read or refused as before, with the same number and place
pub break_refuses_nothing : (d : List ℕ) (n : ℕ) → same.outcome_flat d n ≡ sss_outcome d n
break_refuses_nothing = same.same_refusals

-- ---- C-18: "The leftmost fault counts, with its place"
module _ (t : List ℤ) (v : ℕ) (r : Row) (bytes : List ℕ) (p : ℕ) where
  pub stray_counts : fault_of t v r bytes ≡ Stray p → placed.LeftmostBy r.kind r.width bytes (places_of t v r) (Stray p)
  stray_counts = placed.stray_leftmost t v r bytes p

  pub point_counts : fault_of t v r bytes ≡ Point p → placed.LeftmostBy r.kind r.width bytes (places_of t v r) (Point p)
  point_counts = placed.point_leftmost t v r bytes p

-- "A record is refused in the same cases as before"
pub refused_in_same_cases : (t : List ℤ) → well_formed t ≡ true → (i : ℕ) → i < rows_of t → (bytes : List ℕ)
    → is_illegal (reading_of t (rows_of t) (row_at t i) bytes) ≡ some_fault (fault_of t (rows_of t) (row_at t i) bytes)
refused_in_same_cases = refused.refused_as_before

-- ---- zarfolin_read_record: one outcome, and row by row what zarfolin_read_value answers
pub one_whole_told : {t : List ℤ} {bytes : List ℕ} {out out₁ out₂ list list₁ list₂ a₁ a₂ : List ℤ} {r₁ r₂ : ℕ}
    → WholeTold t bytes out out₁ list list₁ a₁ r₁ → WholeTold t bytes out out₂ list list₂ a₂ r₂
    → ((r₁ ≡ r₂) × (a₁ ≡ a₂)) × ((out₁ ≡ out₂) × (list₁ ≡ list₂))
one_whole_told = face.whole_told_one

module _ {t : List ℤ} {bytes : List ℕ} {out out' list list' answer : List ℤ} (p : WholeTold t bytes out out' list list' answer 0)
    {i r : ℕ} {one one' told : List ℤ} (q : ValueTold t i bytes one one' told r) (low : i < rows_of t)
    (room : length (members_of (reading_at t i bytes)) ≤ length one) where
  pub whole_row : whole.Same (start_of t bytes i) (take 4 (drop (4 * i) out')) told
  whole_row = whole.record_row p q low room

  pub whole_members : let n = length (members_of (reading_at t i bytes)) in take n (drop (start_of t bytes i) list') ≡ take n one'
  whole_members = whole.record_members p q low room
