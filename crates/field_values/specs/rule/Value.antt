-- When a field of a text is a value of its row (document 02, C-23): a field is a value exactly when it is what export writes for a value
-- that
-- the row's write accepts, needless quotes aside, and but for zeros cut from the end of a number's decimals, with the point where none is
-- left: spreadsheets give 12.50 back as `12.5`, 12.00 as `12`. 46 is the point, 48 is 0.
use Rattle.std.specs.Prelude.{◌≡◌, List, [], ◌∷◌, ◌++◌, ℕ, zero, suc, ◌<◌, ℤ}
use Rattle.layout.specs.declared.Row.{Row}
use Rattle.fields.specs.rule.Field.{Value}
use Rattle.fields.specs.rule.Row.{fits, fit_of}
use Rattle.value_fields.specs.rule.Values.{export_value}
use Rattle.widths.specs.rule.Width.{decimals_of}

unfoldable pub zeros : ℕ → List ℕ
zeros zero = []
zeros (suc n) = 48 ∷ zeros n

-- what is left of a text s with k decimals: all of it; or it without some zeros at the end of its decimals; or without all of them, which
-- are zeros, and the point
pub data Left (k : ℕ) (s f : List ℕ) : Type 0 where
  whole : s ≡ f → Left k s f
  cut : (j : ℕ) → j < k → s ≡ f ++ zeros j → Left k s f
  unpointed : 0 < k → s ≡ f ++ (46 ∷ zeros k) → Left k s f

-- THE FIELD f IS THE VALUE x of the row r of a table of v rows
pub record IsValue (t : List ℤ) (v : ℕ) (r : Row) (f : List ℕ) (x : Value) : Type 0 where
  pub accepted : fit_of t v r x ≡ fits
  pub written : Left (decimals_of r.kind) (export_value (decimals_of r.kind) x) f
