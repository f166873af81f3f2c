-- What follows from rule/Appended.antt, and what the code keeps.
use Rattle.std.specs.Prelude.{◌≡◌, refl, Bool, true, false, cond, List, [], ◌∷◌, ◌++◌, ℕ, ◌+◌, ◌-◌, ◌^◌, ◌≤◌, ◌<◌, length, set, take, drop}
use Rattle.std.specs.Prelude.{ℤ}
use Rattle.std.proofs.Common.{sym, ap, ◌∙◌, add-zero, arith, length-append, length-drop, length-set, take_all, length-take-le}
use Rattle.places.specs.rule.Places.{put, run}
use Rattle.ascii.specs.rule.Tens.{digits_of}
use Rattle.ascii.specs.Tens.{digits_few, digits_least}
use Rattle.cells.specs.rule.Cell.{signed_of}
use Rattle.cells.specs.declared.Signed.{Signed}
use Rattle.fields.specs.rule.Number.{padded}
use Rattle.fieldlaws.specs.NumberLaws.{length_padded}
use Rattle.lines.specs.rule.Text.{numeral, number_text}
use Rattle.places.specs.Laws.{put_run_append, length_put}
use Rattle.lines.specs.rule.Appended.{laid_at, Appended}

-- ---- laws
pub laid_length : (out : List ℕ) (at : ℕ) (s : List ℕ) → length (laid_at out at s) ≡ length out
unfolding laid_at
laid_length out at s = length_put out (run at (length s)) s

pub laid_none : (out : List ℕ) (at : ℕ) → laid_at out at [] ≡ out
unfolding laid_at
laid_none out at = refl

pub laid_more : (out : List ℕ) (at : ℕ) (s u : List ℕ) → laid_at (laid_at out at s) (at + length s) u ≡ laid_at out at (s ++ u)
unfolding laid_at
laid_more out at s u = put_run_append s out at (length u) u ∙ rw (length-append s u)

module _ {out : List ℕ} {at : ℕ} {s out' : List ℕ} {r : ℕ} (a : Appended out at s out' r) where
  pub keeps_room : length out' ≡ length out
  keeps_room = ap length a.leaves ∙ laid_length out at s

  -- text behind text
  pub then : {u out'' : List ℕ} {q : ℕ} → Appended out' r u out'' q → Appended out at (s ++ u) out'' q
  then {u} b = record {
    leaves = b.leaves ∙ rw (a.leaves, a.ends) (laid_more out at s u);
    ends = b.ends ∙ rw (a.ends, length-append s u) (omega arith);
    inside = b.inside;
  }

  pub as_text : {u : List ℕ} → s ≡ u → Appended out at u out' r
  as_text e = rw e at a

pub one_byte_lem : (out : List ℕ) (at b : ℕ) → at < length out → Appended out at (b ∷ []) (set out at b) (at + 1)
unfolding laid_at
one_byte_lem out at b h = record { leaves = refl; ends = refl; inside = rw (length-set out at b) (omega arith) }

pub nothing_more : (out : List ℕ) (at : ℕ) → at ≤ length out → Appended out at [] out at
unfolding laid_at
nothing_more out at h = record { leaves = refl; ends = sym (add-zero at); inside = h }

-- ---- the digits of a count
pub count_laid : (out : List ℕ) (at n w : ℕ) {out' : List ℕ} → at + w ≤ length out → w ≡ digits_of n → out'
    ≡ put out (run at w) (padded w n)
    → Appended out at (numeral n) out' (at + w)
unfolding laid_at numeral
count_laid out at n w h e p = record {
  leaves = p ∙ rw (length_padded (digits_of n) n, e);
  ends = rw (length_padded (digits_of n) n, e);
  inside = rw (p, length_put out (run at w) (padded w n)) h;
}

pub numeral_length : (n : ℕ) → length (numeral n) ≡ digits_of n
unfolding numeral
numeral_length n = length_padded (digits_of n) n

pub numeral_few : (n : ℕ) → length (numeral n) ≤ 16
numeral_few n = omega (arith, numeral_length n, digits_few n)

-- ---- a number by its sign
module _ (z : ℤ) (s : Signed) (e : s ≡ signed_of z) where
  pub number_minus : s.minus ≡ true → 45 ∷ numeral s.size ≡ number_text z
  unfolding number_text
  number_minus m = rw (← e, m)

  pub number_plain : s.minus ≡ false → numeral s.size ≡ number_text z
  unfolding number_text
  number_plain m = rw (← e, m)

minus_length : (b : Bool) (s : List ℕ) (k : ℕ) → length s ≤ k → length (cond b (45 ∷ s) s) ≤ k + 1
minus_length true s k h = omega arith
minus_length false s k h = omega arith

-- a code has four bytes at most
pub code_few : (z : ℤ) → (signed_of z).minus ≡ false → (signed_of z).size < 10 ^ 4 → length (number_text z) ≤ 4
unfolding number_text
code_few z e h = rw e (omega (arith, numeral_length (signed_of z).size, digits_least (signed_of z).size 4 (omega arith) h))

pub number_few : (z : ℤ) → length (number_text z) ≤ 17
unfolding number_text
number_few z = minus_length (signed_of z).minus (numeral (signed_of z).size) 16 (numeral_few (signed_of z).size)

-- ---- in a loop: the text that is left to append, and the whole
pub record Left (out : List ℕ) (at : ℕ) (s : List ℕ) (out₀ : List ℕ) (at₀ : ℕ) (whole : List ℕ) : Type 0 where
  pub leaves : laid_at out at s ≡ laid_at out₀ at₀ whole
  pub ends : at + length s ≡ at₀ + length whole

pub all_left : (out : List ℕ) (at : ℕ) (s : List ℕ) → Left out at s out at s
all_left out at s = record { leaves = refl; ends = refl }

module _ {out : List ℕ} {at : ℕ} {s u out₀ : List ℕ} {at₀ : ℕ} {whole : List ℕ} where
  pub less_left : {out' : List ℕ} {at' : ℕ} → Left out at (s ++ u) out₀ at₀ whole → Appended out at s out' at'
      → Left out' at' u out₀ at₀ whole
  less_left l a = record {
    leaves = rw (a.leaves, a.ends) (laid_more out at s u) ∙ l.leaves;
    ends = rw a.ends (let e = length-append s u in let f = l.ends in omega arith);
  }

pub none_left : {out : List ℕ} {at : ℕ} {out₀ : List ℕ} {at₀ : ℕ} {whole : List ℕ} → at ≤ length out → Left out at [] out₀ at₀ whole
    → Appended out₀ at₀ whole out at
none_left {out} {at} h l = record { leaves = sym (laid_none out at) ∙ l.leaves; ends = sym (add-zero at) ∙ l.ends; inside = h }

pub left_as : {out : List ℕ} {at : ℕ} {s u out₀ : List ℕ} {at₀ : ℕ} {whole : List ℕ} → s ≡ u → Left out at s out₀ at₀ whole
    → Left out at u out₀ at₀ whole
left_as e l = rw e at l

-- ---- bytes copied from a part of a record
pub copied_text : (out : List ℕ) (at : ℕ) (bytes : List ℕ) (p n : ℕ) {out' : List ℕ} → p + n ≤ length bytes → at + n ≤ length out
    → out' ≡ put out (run at n) (take n (take (length bytes - p) (drop p bytes))) → Appended out at (take n (drop p bytes)) out' (at + n)
unfolding laid_at
copied_text out at bytes p n h m e =
    let d : length (drop p bytes) ≡ length bytes - p = length-drop p bytes in
    let q : take (length bytes - p) (drop p bytes) ≡ drop p bytes = take_all (length bytes - p) (drop p bytes) (omega arith) in
    let l : length (take n (drop p bytes)) ≡ n = length-take-le n (drop p bytes) (omega arith) in
    record {
      leaves = e ∙ rw (q, l);
      ends = rw l;
      inside = rw (e, length_put out (run at n) (take n (take (length bytes - p) (drop p bytes)))) m;
    }

-- ---- the room that is left behind a text
module _ {out : List ℕ} {at : ℕ} {s out' : List ℕ} {r : ℕ} (a : Appended out at s out' r) where
  pub room_after : (k m : ℕ) → length s ≤ k → at + (k + m) ≤ length out → r + m ≤ length out'
  room_after k m h l = let e = a.ends in let f = keeps_room a in omega arith

pub room_count : (n : ℕ) {out : List ℕ} {at : ℕ} {out' : List ℕ} {r : ℕ} → Appended out at (numeral n) out' r → (m : ℕ)
    → at + (16 + m) ≤ length out → r + m ≤ length out'
room_count n a m l = room_after a 16 m (numeral_few n) l

pub room_spaced : (n : ℕ) {out : List ℕ} {at : ℕ} {out' : List ℕ} {r : ℕ} → Appended out at (32 ∷ numeral n) out' r → (m : ℕ)
    → at + (17 + m) ≤ length out → r + m ≤ length out'
room_spaced n a m l = let f = numeral_few n in room_after a 17 m (omega arith) l
