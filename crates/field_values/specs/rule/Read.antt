-- The value of a field, found: the one value that can have this field is guessed, then it is asked whether the row's write accepts it and
-- whether export writes it so. That this finds the value of every field that is one (Value.antt), and no other, is `value_exactly`
-- (specs/Exactly.antt). 45 is the minus, 59 the semicolon, 110 `n`.
use Rattle.std.specs.Prelude.{Bool, true, false, cond, ◌&&◌, List, [], ◌∷◌, ℕ, suc, ◌+◌, ◌-◌, ◌*◌, min, eqb, ltb, ℤ, pos, length}
use Rattle.std.specs.Prelude.{take, drop}
use Rattle.cells.specs.rule.Cell.{number_of}
use Rattle.layout.specs.declared.Row.{Row}
use Rattle.layout.specs.declared.Kind.{Kind}
use Rattle.layout.specs.declared.Kind.TheVariants.{Single, Multiple, Quantity, Character, Logical}
use Rattle.fields.specs.rule.Field.{Value, missing, number, members, text, truth, Field, holds, illegal}
use Rattle.fields.specs.rule.Row.{Fit, fits, other_type, not_legal, too_many, fit_of}
use Rattle.value_fields.specs.rule.Values.{export_value}
use Rattle.widths.specs.rule.Width.{decimals_of}
use Rattle.field_values.specs.rule.Value.{zeros}

-- the number that digits say after n, and no more than 10 ^ 15, which no row allows
unfoldable pub capped : ℕ → ℕ
capped n = min n 1000000000000000

unfoldable pub capped_from : ℕ → List ℕ → ℕ
capped_from n [] = n
capped_from n (b ∷ s) = capped_from (capped (n * 10 + (b - 48))) s

-- where the point stands; the length where there is none
unfoldable pub point_at : List ℕ → ℕ
point_at [] = 0
point_at (b ∷ s) = cond (eqb b 46) 0 (suc (point_at s))

abbrev pub before_point : List ℕ → List ℕ
before_point f = take (point_at f) f

abbrev pub behind_point : List ℕ → List ℕ
behind_point f = drop (point_at f + 1) f

-- the size of a number with k decimals, of which some at the end may not be written
unfoldable pub size_guess : ℕ → List ℕ → ℕ
size_guess k f = capped_from (capped_from (capped_from 0 (before_point f)) (behind_point f)) (zeros (k - length (behind_point f)))

unfoldable pub number_guess : ℕ → List ℕ → ℤ
number_guess k [] = pos 0
number_guess k (b ∷ f) = cond (eqb b 45) (number_of true (size_guess k f)) (number_of false (size_guess k (b ∷ f)))

-- codes between semicolons, none above 9,999
unfoldable pub codes_in : ℕ → List ℕ → List ℤ
codes_in n [] = pos (min n 9999) ∷ []
codes_in n (b ∷ f) = cond (eqb b 59) (pos (min n 9999) ∷ codes_in 0 f) (codes_in (capped (n * 10 + (b - 48))) f)

unfoldable pub set_guess : List ℕ → List ℤ
set_guess [] = []
set_guess (b ∷ f) = cond (eqb b 110) [] (codes_in 0 (b ∷ f))

unfoldable pub truth_guess : List ℕ → Bool
truth_guess [] = false
truth_guess (b ∷ f) = eqb b 49

-- the value, by the row's kind
unfoldable pub some_guess : Kind → List ℕ → Value
some_guess Single f = number (number_guess 0 f)
some_guess (Multiple s) f = members (set_guess f)
some_guess (Quantity g) f = number (number_guess g.decimals f)
some_guess Character f = text f
some_guess Logical f = truth (truth_guess f)

unfoldable pub guess_of : Kind → List ℕ → Value
guess_of k [] = missing
guess_of k (b ∷ f) = some_guess k (b ∷ f)

-- whether f is what is left of s
unfoldable pub all_zeros : List ℕ → Bool
all_zeros [] = true
all_zeros (b ∷ s) = eqb b 48 && all_zeros s

unfoldable pub tail_good : ℕ → List ℕ → Bool
tail_good k [] = true
tail_good k (b ∷ s) =
    cond (eqb b 46) (cond (eqb (length s) k) (cond (eqb k 0) false (all_zeros s)) false)
    (cond (ltb (length (b ∷ s)) k) (all_zeros (b ∷ s)) false)

unfoldable pub left_of : ℕ → List ℕ → List ℕ → Bool
left_of k s [] = tail_good k s
left_of k [] (b ∷ f) = false
left_of k (c ∷ s) (b ∷ f) = cond (eqb c b) (left_of k s f) false

unfoldable pub is_fits : Fit → Bool
is_fits fits = true
is_fits other_type = false
is_fits not_legal = false
is_fits too_many = false

-- a guess that is not written so, or that the row does not accept, is none
unfoldable pub tried_as : Bool → Bool → Value → Field
tried_as left accepted x = cond left (cond accepted (holds x) illegal) illegal

-- THE VALUE of a field: `holds` it, or `illegal`
unfoldable pub value_from : List ℤ → ℕ → Row → List ℕ → Field
value_from t v r f =
    tried_as (left_of (decimals_of r.kind) (export_value (decimals_of r.kind) (guess_of r.kind f)) f)
    (is_fits (fit_of t v r (guess_of r.kind f)))
    (guess_of r.kind f)
