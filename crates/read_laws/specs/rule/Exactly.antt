-- EXACTLY WHEN, for a field of each kind, in the words of document 01's table: the bytes at a row's value places say this exactly when
-- they have this form. The forms stand in Forms, Kinds and Others; what the call answers, in Reading.
use Rattle.std.specs.Prelude.{◌≡◌, true, false, List, [], ◌∷◌, ℕ, ◌≤◌, ◌<◌, ℤ, pos, length, get_or}
use Rattle.layout.specs.declared.Format.{Format}
use Rattle.layout.specs.declared.Spread.TheVariants.{Bits, Fields}
use Rattle.layout.specs.declared.Kind.{Kind}
use Rattle.layout.specs.declared.Kind.TheVariants.{Single, Multiple, Quantity, Character, Logical}
use Rattle.layout.specs.declared.Row.{Row}
use Rattle.fields.specs.rule.Legal.{legal}
use Rattle.fields.specs.rule.Field.{missing, number, members, text, truth, Field, holds, illegal}
use Rattle.fields.specs.rule.Row.{categories}
use Rattle.numbers.specs.rule.Format.{FormatFacts}
use Rattle.read_laws.specs.rule.Forms.{Spaces, CodeForm, QuantityForm}
use Rattle.read_laws.specs.rule.Kinds.{BitForm}
use Rattle.read_laws.specs.rule.Others.{TextForm, Entries, SpreadSet}

-- ---- the words. `s` are the bytes at the value places of a row r, in a table of v rows
-- bytes 32 to 255
abbrev pub AllPlain : List ℕ → Type 0
AllPlain s = (p : ℕ) → p < length s → 32 ≤ get_or s p 0

module _ (t : List ℤ) (v : ℕ) (r : Row) (s : List ℕ) where
  -- ILLEGAL: neither spaces nor the kind's form with a legal number
  pub data Illegal : Kind → Type 0 where
    single : (Spaces s → ⊥) → ((z : ℤ) → CodeForm s z → (z ≡ pos 0 → ⊥) × (legal t v r z ≡ false)) → Illegal Single
    quantity : {f : Format} → (Spaces s → ⊥) → ((z : ℤ) → QuantityForm f s z → legal t v r z ≡ false) → Illegal (Quantity f)
    bitstring : (Spaces s → ⊥) → ((ms : List ℤ) → BitForm (categories t v r) s ms → ⊥) → Illegal (Multiple Bits)
    spread : {n b : ℕ} → (Spaces s → ⊥) → (Entries (legal t v r) r.width n s → ⊥) → Illegal (Multiple (Fields n b))
    character : (Spaces s → ⊥) → (AllPlain s → ⊥) → Illegal Character
    logical : (Spaces s → ⊥) → (s ≡ 49 ∷ [] → ⊥) → (s ≡ 48 ∷ [] → ⊥) → Illegal Logical

  -- what the bytes say
  pub data FieldSays : Kind → Field → Type 0 where
    -- "All value places spaces: missing, for every type"; SINGLE: "zero is missing"
    blank_field : {k : Kind} → Spaces s → FieldSays k (holds missing)
    single_zero : CodeForm s (pos 0) → FieldSays Single (holds missing)
    -- "Otherwise a number must lie in the range or on a line"
    single_number : {z : ℤ} → CodeForm s z → (z ≡ pos 0 → ⊥) → legal t v r z ≡ true → FieldSays Single (holds (number z))
    quantity_number : {f : Format} {z : ℤ} → QuantityForm f s z → legal t v r z ≡ true → FieldSays (Quantity f) (holds (number z))
    -- "Both multiple forms read as a set in rising order, repeats dropped"
    bits_set : {ms : List ℤ} → (Spaces s → ⊥) → BitForm (categories t v r) s ms → FieldSays (Multiple Bits) (holds (members ms))
    spread_set_lem : {n b : ℕ} {ms : List ℤ} → (Spaces s → ⊥) → Entries (legal t v r) r.width n s → SpreadSet r.width n s ms
        → FieldSays (Multiple (Fields n b)) (holds (members ms))
    -- "trailing spaces cut; bytes 32 to 255"; "`0` or `1`"
    character_text : {x : List ℕ} → TextForm s x → AllPlain s → FieldSays Character (holds (text x))
    logical_true : s ≡ 49 ∷ [] → FieldSays Logical (holds (truth true))
    logical_false : s ≡ 48 ∷ [] → FieldSays Logical (holds (truth false))
    no_value : {k : Kind} → Illegal k → FieldSays k illegal

  -- what a row of a well-formed table and the bytes at its value places give
  abbrev pub Given : Kind → Type 0
  Given Single = Unit
  Given (Multiple Bits) = length (categories t v r) ≡ length s
  Given (Multiple (Fields n b)) = Unit
  Given (Quantity f) = FormatFacts f
  Given Character = Unit
  Given Logical = length s ≡ 1
