-- Entries that were put are read back: the presence byte and the eight bytes of each stand at its place, so that every so many of them are
-- a
-- column.
-- Assumes nothing.
use Rattle.std.specs.Prelude.{◌≡◌, List, [], ◌∷◌, ◌++◌, eqb, length, get_or, take, drop}
use Rattle.std.proofs.Math.Path.{refl, ap}
use Rattle.std.proofs.Common.{sym, ◌∙◌, append_assoc, take-append-drop, take_at, get_or-take, get_or-drop, drop-drop}
use Rattle.std.proofs.Math.Bool.{cond}
use Prim.Native.Nat.{ℕ, zero, suc, ◌+◌, ◌*◌, ◌≤◌, ◌<◌}
use native.Mathlib.Omega.{arith}
use Rattle.std.proofs.Math.Seq.{drop-append-add}
use Rattle.std.specs.Float.Ieee.{binary64, of_bits, to_bits}
use Rattle.std.specs.Float.Ieee.Bits.{of_bits-to_bits, to_bits-lt}
use Rattle.places.specs.rule.Places.{run}
use Rattle.places.specs.Laws.{keeps, out_run}
use Rattle.little.specs.rule.Bytes.{little_bytes, put_at, little_number}
use Rattle.little.specs.Bytes.{number_at, bytes_count, bytes_back}
use Rattle.little.specs.Runs.{put_back, length_put_at}
use Rattle.matrix.specs.declared.Entry.{Entry}
use Rattle.matrix.specs.declared.Entry.TheVariants.{Absent, Scaled}
use Rattle.matrix.specs.rule.Entry.{presence_of, float_of, flags_of, value_bytes, present_of}
use Rattle.matrix.specs.Put.{put_entries}
use Rattle.matrix.specs.Entry.{EntryGood, entry_fits, length_flags, length_values}
use Rattle.matrix.specs.Column.{column_in}

-- every step-th of some entries, n of them from the place j on
unfoldable pub picked : List Entry → ℕ → ℕ → ℕ → List Entry
picked es step j zero = []
picked es step j (suc n) = get_or es j Absent ∷ picked es step (j + step) n

-- all of their places are below a length
unfoldable pub InStride : ℕ → ℕ → ℕ → ℕ → Type 0
InStride len step j zero = Unit {0}
InStride len step j (suc n) = (j < len) × InStride len step (j + step) n

unfoldable pub AllGood : List Entry → Type 0
AllGood [] = Unit {0}
AllGood (e ∷ es) = EntryGood e × AllGood es

-- ---- laws
pub good_at : (es : List Entry) (j : ℕ) → AllGood es → EntryGood (get_or es j Absent)
unfolding AllGood EntryGood
good_at [] j g = tt
good_at (e ∷ es) zero g = g.0
good_at (e ∷ es) (suc j) g = good_at es j g.1

pub flag_at : (es : List Entry) (j : ℕ) → get_or (flags_of es) j 0 ≡ presence_of (get_or es j Absent)
unfolding flags_of presence_of
flag_at [] j = refl
flag_at (e ∷ es) zero = refl
flag_at (e ∷ es) (suc j) = flag_at es j

value_at_lem : (es : List Entry) (j : ℕ) (rest : List ℕ) → j < length es
    → take 8 (drop (8 * j) (value_bytes es ++ rest)) ≡ little_bytes 8 (to_bits binary64 (float_of (get_or es j Absent)))
unfolding value_bytes
value_at_lem [] j rest h = absurd (omega arith)
value_at_lem (e ∷ es) zero rest h =
    let b = little_bytes 8 (to_bits binary64 (float_of e)) in
    ap (take 8) (append_assoc b (value_bytes es) rest)
    ∙ take_at b (value_bytes es ++ rest) 8 (bytes_count 8 (to_bits binary64 (float_of e)))
value_at_lem (e ∷ es) (suc j) rest h =
    let b = little_bytes 8 (to_bits binary64 (float_of e)) in
    let d : 8 * suc j ≡ length b + 8 * j = omega (arith, bytes_count 8 (to_bits binary64 (float_of e))) in
    ap (λ (k : ℕ). take 8 (drop k ((b ++ value_bytes es) ++ rest))) d
    ∙ ap (λ (l : List ℕ). take 8 (drop (length b + 8 * j) l)) (append_assoc b (value_bytes es) rest)
    ∙ ap (take 8) (drop-append-add b (value_bytes es ++ rest) (8 * j))
    ∙ value_at_lem es j rest (omega arith)

before_put : (s : List ℕ) (b : ℕ) (xs : List ℕ) (q : ℕ) → q < b → get_or (put_at s b xs) q 0 ≡ get_or s q 0
unfolding put_at
before_put s b xs q l = keeps s (run b (length xs)) xs q (out_run q b (length xs) l)

module _ (r : List ℕ) (fl vl : ℕ) (es : List Entry) (behind : fl + length es ≤ vl) (inside : vl + 8 * length es ≤ length r) where
  abbrev whole : List ℕ
  whole = put_entries r fl vl es

  pub presence_there : (j : ℕ) → j < length es → get_or whole (fl + j) 0 ≡ presence_of (get_or es j Absent)
  presence_there j h =
      let fs = flags_of es in
      let n = length_flags es in
      before_put (put_at r fl fs) vl (value_bytes es) (fl + j) (omega arith)
      ∙ sym (get_or-drop fl (put_at r fl fs) j 0)
      ∙ sym (get_or-take (length fs) (drop fl (put_at r fl fs)) j 0 (omega arith))
      ∙ ap (λ (l : List ℕ). get_or l j 0) (put_back r fl fs (omega arith))
      ∙ flag_at es j

  values_there : drop vl whole ≡ value_bytes es ++ drop (length (value_bytes es)) (drop vl whole)
  values_there =
      let l = length_values es in
      let i : vl + length (value_bytes es) ≤ length (put_at r fl (flags_of es)) = rw (length_put_at r fl (flags_of es)) (omega arith) in
      sym (take-append-drop (length (value_bytes es)) (drop vl whole))
      ∙ ap (λ (x : List ℕ). x ++ drop (length (value_bytes es)) (drop vl whole))
      (put_back (put_at r fl (flags_of es)) vl (value_bytes es) i)

  -- THE EIGHT BYTES of an entry
  pub bytes_there : (j : ℕ) → j < length es → take 8 (drop (vl + 8 * j) whole)
      ≡ little_bytes 8 (to_bits binary64 (float_of (get_or es j Absent)))
  bytes_there j h =
      ap (take 8) (sym (drop-drop (8 * j) vl whole) ∙ ap (drop (8 * j)) values_there)
      ∙ value_at_lem es j (drop (length (value_bytes es)) (drop vl whole)) h

  pub bits_there : (j : ℕ) → j < length es → number_at 8 (vl + 8 * j) whole ≡ to_bits binary64 (float_of (get_or es j Absent))
  unfolding number_at
  bits_there j h =
      ap little_number (bytes_there j h)
      ∙ bytes_back 8 (to_bits binary64 (float_of (get_or es j Absent)))
      (to_bits-lt binary64 (float_of (get_or es j Absent)) (entry_fits (get_or es j Absent)))

  pub float_there : (j : ℕ) → j < length es → of_bits binary64 (number_at 8 (vl + 8 * j) whole) ≡ float_of (get_or es j Absent)
  float_there j h = ap (of_bits binary64) (bits_there j h)
      ∙ of_bits-to_bits binary64 (float_of (get_or es j Absent)) (entry_fits (get_or es j Absent))

  -- a column as it stands is that of the entries
  pub column_is : (step n j : ℕ) → InStride (length es) step j n → column_in whole step (fl + j) (vl + 8 * j) n
      ≡ present_of (picked es step j n)
  unfolding column_in picked present_of InStride presence_of float_of
  column_is step zero j s = refl
  column_is step (suc n) j s =
      let f : fl + j + step ≡ fl + (j + step) = omega arith in
      let v : vl + 8 * j + 8 * step ≡ vl + 8 * (j + step) = omega arith in
      rw (presence_there j s.0, float_there j s.0, f, v, column_is step n (j + step) s.1) (go (get_or es j Absent))
    where
      go : (e : Entry) → cond (eqb (presence_of e) 1) (float_of e ∷ present_of (picked es step (j + step) n))
          (present_of (picked es step (j + step) n))
          ≡ present_of (e ∷ picked es step (j + step) n)
      go Absent = refl
      go (Scaled z p) = refl
