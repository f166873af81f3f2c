-- "Reading one row looks at no byte outside its value places": two records that agree there read equal, or have the same fault.
use Rattle.std.specs.Prelude.{◌≡◌, refl, List, [], ◌∷◌, ℕ, ◌≤◌, ℤ, length, get_or}
use Rattle.std.proofs.Common.{ap}
use borrow.Author.Tests.{le-leb}
use Rattle.layout.specs.rule.Row.{row_at}
use Rattle.layout.specs.declared.Row.{Row}
use Rattle.places.specs.rule.Places.{pick}
use Rattle.fields.specs.rule.Row.{places_of, field_of, reading_of}
use Rattle.sound.specs.rule.Rows.{rows_of, length_of}
use Rattle.fault_laws.specs.Alone.{fault_alone}
use Rattle.records.specs.rule.First.{row_fault}
use Rattle.records.specs.rule.Value.{reading_at, read_as, list_as}

-- two records hold the same byte at each of the places
abbrev pub Agree : List ℕ → List ℕ → List ℕ → Type 0
Agree [] a b = Unit
Agree (p ∷ ps) a b = (get_or a p 0 ≡ get_or b p 0) × Agree ps a b

pick_agree : (ps a b : List ℕ) → Agree ps a b → pick a ps ≡ pick b ps
pick_agree [] a b e = refl
pick_agree (p ∷ ps) a b e = rw (e.0, pick_agree ps a b e.1)

-- THE READING of a row is settled by its value places
pub reading_alone : (t : List ℤ) (v : ℕ) (r : Row) (a b : List ℕ) → Agree (places_of t v r) a b → reading_of t v r a ≡ reading_of t v r b
unfolding reading_of
reading_alone t v r a b e = ap (field_of t v r) (pick_agree (places_of t v r) a b e)

-- and so is what the call answers, and the list after it, where both records are long enough
module _ (t : List ℤ) (i : ℕ) (a b : List ℕ) (agree : Agree (places_of t (rows_of t) (row_at t i)) a b)
    (long-a : length_of t ≤ length a) (long-b : length_of t ≤ length b) where
  same_reading : reading_at t i a ≡ reading_at t i b
  same_reading = reading_alone t (rows_of t) (row_at t i) a b agree

  same_fault : row_fault t (rows_of t) a i ≡ row_fault t (rows_of t) b i
  same_fault = fault_alone a b t (rows_of t) (row_at t i) (pick_agree (places_of t (rows_of t) (row_at t i)) a b agree)

  pub read_alone : (n : ℕ) → read_as t i a n ≡ read_as t i b n
  unfolding read_as
  read_alone n = rw (le-leb _ _ long-a, le-leb _ _ long-b, same_reading, same_fault)

  pub list_alone : (list : List ℤ) → list_as t i a list ≡ list_as t i b list
  unfolding list_as
  list_alone list = rw (le-leb _ _ long-a, le-leb _ _ long-b, same_reading)
