-- What follows from rule/Values.antt, and what the code keeps.
use Rattle.std.specs.Prelude.{◌≡◌, refl, List, [], ◌∷◌, ◌++◌, ℕ, zero, suc, ◌+◌, ◌-◌, ◌≤◌, ◌<◌, ℤ}
use Rattle.std.specs.Prelude.{pos, length, set, take, drop}
use Rattle.std.proofs.Common.{sym, add-one, arith, length-take, drop_of_length-le, drop-cons, get_or-take}
use Rattle.std.proofs.Common.{length-take-le}
use Rattle.std.proofs.Math.Path.{ap}
use Rattle.std.proofs.lemmas.List.Edits.{sets}
use Rattle.places.specs.rule.Places.{put, run}
use Rattle.cells.specs.rule.Cell.{cell}
use Rattle.fields.specs.rule.Number.{padded}
use Rattle.fieldlaws.specs.NumberLaws.{length_padded}
use Rattle.sink.specs.rule.Sent.{Sent}
use Rattle.sink.specs.Sent.{bytes_stored, bytes_counted, bytes_lost}
use Rattle.value_fields.specs.rule.Values.{export_number, codes_behind, set_text}

-- ---- digits sent: put at a run of places they are stored one behind the other
pub put_sets : (s l : List ℕ) (at w : ℕ) → length s ≡ w → put l (run at w) s ≡ sets l at s
put_sets [] l at zero e = refl
put_sets [] l at (suc w) e = absurd (omega arith)
put_sets (b ∷ s) l at zero e = absurd (omega arith)
put_sets (b ∷ s) l at (suc w) e = put_sets s (set l at b) (suc at) w (omega arith)

module _ (bound : ℕ) (out : List ℕ) (at w n : ℕ) where
  long : length (padded w n) ≡ w
  long = length_padded w n

  pub digits_lost : (r : ℕ) → bound ≤ at + w → bound ≤ r → Sent bound out at (padded w n) out r
  digits_lost r h g = bytes_lost bound out at (padded w n) r (rw long h) g

  pub digits_counted : length out < at + w → Sent bound out at (padded w n) out (at + w)
  digits_counted h = rw long at (bytes_counted bound out at (padded w n) (rw long h))

  pub digits_stored : {out' : List ℕ} → at + w < bound → out' ≡ put out (run at w) (padded w n)
      → Sent bound out at (padded w n) out' (at + w)
  digits_stored h e = rw (e, put_sets (padded w n) out at w long) (rw long at (bytes_stored bound out at (padded w n) (rw long h)))

-- the codes of a list one by one
module _ (list : List ℤ) (n j : ℕ) (h : j < n) (l : n ≤ length list) where
  next_code : drop j (take n list) ≡ cell list j ∷ drop (j + 1) (take n list)
  next_code =
      let k : j < length (take n list) = rw (length-take-le n list l) h in
      rw (drop-cons (take n list) j (pos 0) k, get_or-take n list j (pos 0) h, add-one j)

  pub codes_next : codes_behind (drop j (take n list)) ≡ (59 ∷ [])
      ++ (export_number 0 (cell list j) ++ codes_behind (drop (j + 1) (take n list)))
  unfolding codes_behind
  codes_next = ap codes_behind next_code

pub codes_first : (list : List ℤ) (n : ℕ) → 0 < n → n ≤ length list
    → export_number 0 (cell list 0) ++ codes_behind (drop 1 (take n list)) ≡ set_text (take n list)
unfolding set_text
codes_first list n h l = sym (ap set_text (next_code list n 0 h l))

pub codes_over : (list : List ℤ) (n j : ℕ) → n ≤ j → codes_behind (drop j (take n list)) ≡ []
unfolding codes_behind
codes_over list n j h =
    let k : length (take n list) ≤ j = omega (arith, length-take n list) in
    ap codes_behind (drop_of_length-le (take n list) k)

pub codes_none : (list : List ℤ) (n : ℕ) → n ≡ 0 → 110 ∷ 111 ∷ 110 ∷ 101 ∷ [] ≡ set_text (take n list)
unfolding set_text
codes_none list n e = rw e

-- a part of a record by its start and its length
pub part_is : (bytes : List ℕ) (p n : ℕ) → take (p + n - p) (drop p bytes) ≡ take n (drop p bytes)
part_is bytes p n = let e : p + n - p ≡ n = omega arith in rw e

pub some_of_lem : (n : ℕ) → (n ≡ 0 → ⊥) → 0 < n
some_of_lem zero z = absurd (z refl)
some_of_lem (suc n) z = omega arith
