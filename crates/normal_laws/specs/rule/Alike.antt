-- "two such records of one length that agree outside the value places", and "all rows read equal"; rows written back in any order.
use Rattle.std.specs.Prelude.{◌≡◌, List, [], ◌∷◌, ℕ, ◌<◌, ℤ, length, get_or}
use Rattle.layout.specs.rule.Row.{row_at}
use Rattle.places.specs.rule.Places.{Out}
use Rattle.sound.specs.rule.Rows.{rows_of}
use Rattle.records.specs.rule.Value.{reading_at}
use Rattle.sharing.specs.rule.Sharing.{places_at}
use Rattle.normal.specs.rule.Normal.{back_of}

-- the place q is in no row's value places
abbrev pub OutAll : List ℤ → ℕ → Type 0
OutAll t q = (i : ℕ) → i < rows_of t → Out q (places_at t (rows_of t) i)

-- the records agree outside the value places
abbrev pub AgreeOutside : List ℤ → List ℕ → List ℕ → Type 0
AgreeOutside t a b = (q : ℕ) → q < length a → OutAll t q → get_or a q 0 ≡ get_or b q 0

-- all rows read equal
abbrev pub ReadAlike : List ℤ → List ℕ → List ℕ → Type 0
ReadAlike t a b = (i : ℕ) → i < rows_of t → reading_at t i a ≡ reading_at t i b

-- the rows of a list written back, each as it reads, in the list's order
unfoldable pub back_all : List ℤ → List ℕ → List ℕ → List ℕ
back_all t [] s = s
back_all t (n ∷ ns) s = back_all t ns (back_of t (rows_of t) (row_at t n) s)

-- the list has every row of the table, once or more, and no other number
pub record EveryRow (t : List ℤ) (ns : List ℕ) : Type 0 where
  pub rows : (i : ℕ) → (Out i ns → ⊥) → i < rows_of t
  pub every : (i : ℕ) → i < rows_of t → Out i ns → ⊥
