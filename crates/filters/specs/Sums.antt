-- THE SUM OF A NAME. Names that are one have one sum (`proofs/Summing.antt`): those whose sums differ need not be compared.
use Rattle.std.specs.Prelude.{◌≡◌, Bool, not, List, [], ◌∷◌, ℕ, ◌+◌, ◌-◌, ◌*◌, ◌%◌, ◌≤◌, ◌<◌, eqb, ℤ, length, get_or}
use Rattle.below.specs.rule.Below.{all_below}
use Rattle.ascii.specs.rule.Class.{upper_of}
use Rattle.layout.specs.rule.Layout.{most_rows}
use Rattle.signs.specs.declared.Sign.{Sign}
use Rattle.signs.specs.declared.Sign.TheVariants.{Byte, Break}
use Rattle.contents.specs.rule.Content.{begun, signs_from}
use Rattle.survey.specs.rule.Survey.{KeptText}
use Rattle.xml_reading.specs.rule.Role.{signs_in}
use Rattle.filters.specs.Code.{column_in, name_in, Lying}
use Rattle.filters.specs.declared.Summed.{Summed}

-- a sign, case aside
abbrev pub folded_of : Sign → ℕ
folded_of (Byte b) = upper_of b
folded_of Break = 256

unfoldable pub sum_with : ℕ → ℕ → ℕ
sum_with a x = (a * 31 + x) % 65536

unfoldable pub sum_from : ℕ → List Sign → ℕ
sum_from a [] = a
sum_from a (x ∷ s) = sum_from (sum_with a (folded_of x)) s

-- that of a text of d
unfoldable pub sum_in : Bool → List ℕ → KeptText → ℕ
sum_in latin d t = sum_from 0 (signs_in latin d t)

-- the bytes from a place on that say themselves were added
pub record Adds (d : List ℕ) (at : ℕ) (r : Summed) : Type 0 where
  pub again : (latin : Bool) → sum_from 0 (signs_from latin d (begun at)) ≡ sum_from r.sum (signs_from latin d (begun r.next))
  pub within : r.next ≤ length d

-- ---- the room: the sums of the rows' names, and bins behind them
unfoldable pub bin_of : ℕ → ℕ
bin_of sum = most_rows + sum % 512

pub record Summing (latin : Bool) (d : List ℕ) (rows : List ℤ) (count : ℕ) (sums : List ℕ) : Type 0 where
  pub room : length sums ≡ 1024
  pub names : (i : ℕ) → i < count → get_or sums i 0 ≡ sum_in latin d (name_in rows i)
  pub served : (i : ℕ) → i < count → (column_in rows i 19 ≡ 0 → ⊥)
      → get_or sums (bin_of (sum_in latin d (name_in rows (column_in rows i 19 - 1)))) 0 ≡ 1

-- none of the n rows from i on has that sum
unfoldable pub all_apart : List ℕ → ℕ → ℕ → ℕ → Bool
all_apart sums sum i n = all_below n (λ k. not (eqb (get_or sums (i + k) 0) sum))

-- none from p on before r has
pub record Apart (sums : List ℕ) (sum count p r : ℕ) : Type 0 where
  pub none : (j : ℕ) → p ≤ j → j < r → get_or sums j 0 ≡ sum → ⊥
  pub on : p ≤ r
  pub within : r ≤ count

-- so many rows may be asked, by their sums too
pub record Known (latin : Bool) (d : List ℕ) (rows : List ℤ) (count : ℕ) (sums : List ℕ) : Type 0 where
  pub lying : Lying (length d) rows count
  pub summing : Summing latin d rows count sums
