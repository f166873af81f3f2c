-- One subfield more: what is left to put gives the whole.
use mathlib.Core.Path.{◌≡◌, refl, sym, ap, ◌∙◌}
use mathlib.Core.List.{List, [], ◌∷◌, ◌++◌}
use Prim.Native.Nat.{ℕ, zero, suc, ◌+◌, ◌-◌, ◌*◌, ◌≤◌}
use native.Mathlib.Nat.{add-zero, zero-add, suc-mul}
use native.Mathlib.Omega.{arith}
use lib.IntN.{ℤ, pos}
use lib.ListN.{length, get_or, drop, length-append}
use lib.Seq.{get_or-drop, drop-drop}
use Rattle.places.specs.rule.Places.{put, run}
use Rattle.places.specs.Laws.{put_append, length_run}
use Rattle.fields.specs.rule.Number.{code_bytes}
use Rattle.fields.specs.rule.Field.{spaces, spread_bytes}
use Rattle.fields.specs.rule.Row.{spread_places}
use Rattle.fieldlaws.specs.NumberLaws.{length_code}
use Rattle.fieldlaws.specs.TextLaws.{length_spaces}

-- the member of the first subfield, or zero, and the others
first : (w n : ℕ) (l : List ℤ) → spread_bytes w (suc n) l ≡ code_bytes w (get_or l 0 (pos 0)) ++ spread_bytes w n (drop 1 l)
unfolding spread_bytes
first w n [] = refl
first w n (m ∷ ms) = refl

spaces_append : (m n : ℕ) → spaces (m + n) ≡ spaces m ++ spaces n
unfolding spaces
spaces_append zero n = rw zero-add
spaces_append (suc m) n =
    let e : suc m + n ≡ suc (m + n) = omega arith in
    rw e (ap (λ (l : List ℕ). 32 ∷ l) (spaces_append m n))

module _ (at b w left j : ℕ) (e : left ≡ suc j) where
  -- what lies in the bytes that are left
  pub inside : (len : ℕ) → at + left * b ≤ len → (at + b ≤ len) × (at + b + j * b ≤ len)
  inside len h = let h' : at + suc j * b ≤ len = rw e at h in (omega (arith, suc-mul j b), omega (arith, suc-mul j b))

  pub member_on : (bytes : List ℕ) (ms : List ℤ) (i : ℕ) (z : ℤ) → z ≡ get_or ms i (pos 0)
      → put (put bytes (run (at + (b - w)) w) (code_bytes w z)) (spread_places (at + b) b w j) (spread_bytes w j (drop (i + 1) ms))
      ≡ put bytes (spread_places at b w left) (spread_bytes w left (drop i ms))
  unfolding spread_places
  member_on bytes ms i z q =
      let m : get_or (drop i ms) 0 (pos 0) ≡ z = get_or-drop i ms 0 (pos 0) ∙ rw add-zero (sym q) in
      let d : drop 1 (drop i ms) ≡ drop (i + 1) ms = drop-drop 1 i ms in
      rw (e, first w j (drop i ms), m, d)
      (put_append (run (at + (b - w)) w) (code_bytes w z) bytes (spread_places (at + b) b w j) (spread_bytes w j (drop (i + 1) ms))
      (length_code w z ∙ sym (length_run (at + (b - w)) w)))

  pub blank_on : (bytes : List ℕ)
      → put (put bytes (run (at + (b - w)) w) (spaces w)) (spread_places (at + b) b w j) (spaces (length (spread_places (at + b) b w j)))
      ≡ put bytes (spread_places at b w left) (spaces (length (spread_places at b w left)))
  unfolding spread_places
  blank_on bytes =
      rw (e, length-append, length_run, spaces_append)
      (put_append (run (at + (b - w)) w) (spaces w) bytes (spread_places (at + b) b w j) (spaces (length (spread_places (at + b) b w j)))
      (length_spaces w ∙ sym (length_run (at + (b - w)) w)))

pub done : (at b w left : ℕ) (bytes vs : List ℕ) → left ≤ 0 → put bytes (spread_places at b w left) vs ≡ bytes
unfolding spread_places
done at b w left bytes vs h = let e : left ≡ 0 = omega arith in rw e
