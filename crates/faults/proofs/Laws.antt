-- The places that a loop has yet to come to, and what is found there: a step, a find, the end.
-- Assumes nothing.
use mathlib.Core.Path.{◌≡◌, refl, sym, ap, ◌∙◌}
use mathlib.Core.Bool.{Bool, true, false, cond, not, ◌&&◌, ◌||◌}
use mathlib.Core.List.{List, [], ◌∷◌, ◌++◌}
use Prim.Native.Nat.{ℕ, zero, suc, ◌+◌, ◌-◌, ◌≤◌, ◌<◌}
use native.Mathlib.Omega.{arith}
use native.Mathlib.Nat.{add-zero}
use native.Mathlib.Numerals.{add-one}
use lib.Dec.{eqb}
use lib.IntN.{ℤ, pos}
use lib.ListN.{length, get_or, take, drop}
use lib.Seq.{take_at, drop_at}
use Rattle.cells.specs.rule.Cell.{eq_z}
use Rattle.layout.specs.declared.Kind.{Kind}
use Rattle.layout.specs.declared.Row.{Row}
use Rattle.layout.specs.declared.Format.{Format}
use Rattle.places.specs.rule.Places.{pick, run}
use Rattle.places.specs.Laws.{length_run, pick_run}
use Rattle.fields.specs.rule.Number.{all_spaces, blank, says, wrong, code_of}
use Rattle.fields.specs.rule.Legal.{legal}
use Rattle.fields.specs.rule.Row.{bit_places, spread_places, places_by, places_of}
use Rattle.sets.proofs.BitLaws.{rest_of, allowed, passed, no_more}
use Rattle.faults.specs.declared.Fault.{Fault}
use Rattle.faults.specs.declared.Fault.TheVariants.{Sound, Stray, NotLegal}
use Rattle.faults.specs.declared.Test.{Test}
use Rattle.faults.specs.declared.Test.TheVariants.{Space}
use Rattle.faults.specs.rule.Fault.{or_else, may_stand, fault_at, number_from, number_form, passes, first_failing, plain_form}
use Rattle.faults.specs.rule.Fault.{code_format, spread_form, spread_value, value_fault, usable, form_by, value_by}
use Rattle.faults.specs.Joined.{numeral_fault, some_fault, spaces_more}

-- ---- a run
pub run_on : (at w i : ℕ) → i < w → run (at + i) (w - i) ≡ (at + i) ∷ run (at + (i + 1)) (w - (i + 1))
run_on at w i h =
    let e : w - i ≡ suc (w - (i + 1)) = omega arith in
    let m : suc (at + i) ≡ at + (i + 1) = omega arith in
    rw (e, m)

pub run_none : (at w i : ℕ) → w ≤ i → run (at + i) (w - i) ≡ []
run_none at w i h = let e : w - i ≡ 0 = omega arith in rw e

more_run : (r : List ℕ) (at i : ℕ) → pick r (run at (suc i)) ≡ pick r (run at i) ++ (get_or r (at + i) 0 ∷ [])
more_run r at zero = rw (add-zero at)
more_run r at (suc i) =
    let e : suc at + i ≡ at + suc i = omega arith in
    ap (λ (l : List ℕ). get_or r at 0 ∷ l) (more_run r (suc at) i ∙ rw e)

pub pick_more : (r : List ℕ) (at i : ℕ) → pick r (run at (i + 1)) ≡ pick r (run at i) ++ (get_or r (at + i) 0 ∷ [])
pick_more r at i = rw (add-one i) (more_run r at i)

-- ---- the first byte that fails
module _ (x : Test) (r : List ℕ) (at w i : ℕ) where
  pub failing_here : i < w → passes x (get_or r (at + i) 0) ≡ false → first_failing x r (run (at + i) (w - i)) ≡ Stray (at + i)
  unfolding first_failing
  failing_here h e = rw (run_on at w i h, e)

  pub failing_on : i < w → passes x (get_or r (at + i) 0) ≡ true
      → first_failing x r (run (at + i) (w - i)) ≡ first_failing x r (run (at + (i + 1)) (w - (i + 1)))
  unfolding first_failing
  failing_on h e = rw (run_on at w i h, e)

  pub failing_none : w ≤ i → first_failing x r (run (at + i) (w - i)) ≡ Sound
  unfolding first_failing
  failing_none h = rw (run_none at w i h)

pub blank_some : (r ps : List ℕ) → not (some_fault (first_failing Space r ps)) ≡ all_spaces (pick r ps)
unfolding first_failing some_fault all_spaces passes
blank_some r [] = refl
blank_some r (p ∷ ps) = go (eqb (get_or r p 0) 32) (blank_some r ps)
  where
    go : (c : Bool) → not (some_fault (first_failing Space r ps)) ≡ all_spaces (pick r ps)
        → not (some_fault (cond c (first_failing Space r ps) (Stray p))) ≡ (c && all_spaces (pick r ps))
    go true ih = ih
    go false ih = refl

module _ (x : Test) (r ps : List ℕ) where
  pub form_blank : all_spaces (pick r ps) ≡ true → plain_form x r ps ≡ Sound
  unfolding plain_form
  form_blank e = rw e

  pub form_other : all_spaces (pick r ps) ≡ false → plain_form x r ps ≡ first_failing x r ps
  unfolding plain_form
  form_other e = rw e

-- ---- of a bitstring's defined categories, from byte i on
module _ (x : Test) (ok : ℤ → Bool) (r : List ℕ) (at w i : ℕ) where
  abbrev pub bits_from : ℕ → Fault
  bits_from j = first_failing x r (bit_places at (rest_of ok w j))

  place : at + (suc i - 1) ≡ at + i
  place = omega arith

  pub bit_here : i < w → passes x (get_or r (at + i) 0) ≡ false → ok (pos (i + 1)) ≡ true → bits_from i ≡ Stray (at + i)
  unfolding first_failing bit_places
  bit_here h e k = rw (allowed ok w i h k, place, e)

  pub bit_not : i < w → ok (pos (i + 1)) ≡ false → bits_from i ≡ bits_from (i + 1)
  bit_not h k = rw (passed ok w i h k)

  pub bit_on : i < w → passes x (get_or r (at + i) 0) ≡ true → bits_from i ≡ bits_from (i + 1)
  unfolding first_failing bit_places
  bit_on h e = go (ok (pos (i + 1))) refl
    where
      go : (c : Bool) → ok (pos (i + 1)) ≡ c → bits_from i ≡ bits_from (i + 1)
      go true k = rw (allowed ok w i h k, place, e)
      go false k = rw (passed ok w i h k)

  pub bit_none : w ≤ i → bits_from i ≡ Sound
  unfolding first_failing bit_places
  bit_none h = rw (no_more ok w i h)

-- ---- a number
module _ (q : Bool) (f : Format) (r : List ℕ) (at w i : ℕ) where
  abbrev pub number_at : ℕ → Fault
  number_at j = number_from q f r (pick r (run at j)) (run (at + j) (w - j))

  after_run : i < w → length (run (at + (i + 1)) (w - (i + 1))) ≡ w - i - 1
  after_run h = length_run (at + (i + 1)) (w - (i + 1)) ∙ omega arith

  pub number_here_lem : i < w → may_stand q f (pick r (run at i)) (w - i - 1) (get_or r (at + i) 0) ≡ false
      → number_at i ≡ fault_at q f (w - i - 1) (at + i) (get_or r (at + i) 0)
  unfolding number_from
  number_here_lem h e = rw (run_on at w i h, after_run h, e)

  pub number_on_lem : i < w → may_stand q f (pick r (run at i)) (w - i - 1) (get_or r (at + i) 0) ≡ true → number_at i ≡ number_at (i + 1)
  unfolding number_from
  number_on_lem h e = rw (run_on at w i h, after_run h, e, pick_more r at i)

  pub number_none : w ≤ i → number_at i ≡ Sound
  unfolding number_from
  number_none h = rw (run_none at w i h)

-- one byte more is a space or not
pub open_more : (r : List ℕ) (at i : ℕ) → all_spaces (pick r (run at (i + 1)))
    ≡ (all_spaces (pick r (run at i)) && eqb (get_or r (at + i) 0) 32)
open_more r at i = rw (pick_more r at i) (spaces_more (pick r (run at i)) (get_or r (at + i) 0))

pub number_blank : (q : Bool) (f : Format) (r ps : List ℕ) → all_spaces (pick r ps) ≡ true → number_form q f r ps ≡ Sound
unfolding number_form
number_blank q f r ps e = rw e

pub number_other : (q : Bool) (f : Format) (r ps : List ℕ) → all_spaces (pick r ps) ≡ false → number_form q f r ps ≡ number_from q f r [] ps
unfolding number_form
number_other q f r ps e = rw e

-- ---- the subfields that are left, from the place q on, of which one is the first
module _ (r : List ℕ) (q b w k j : ℕ) (one : k ≡ suc j) where
  first_places : take w (spread_places q b w (suc j)) ≡ run (q + (b - w)) w
  unfolding spread_places
  first_places = take_at (run (q + (b - w)) w) (spread_places (q + b) b w j) w (length_run (q + (b - w)) w)

  later_places : drop w (spread_places q b w (suc j)) ≡ spread_places (q + b) b w j
  unfolding spread_places
  later_places = drop_at (run (q + (b - w)) w) (spread_places (q + b) b w j) w (length_run (q + (b - w)) w)

  pub form_step : spread_form w r k (spread_places q b w k)
      ≡ or_else (number_form false code_format r (run (q + (b - w)) w)) (spread_form w r j (spread_places (q + b) b w j))
  unfolding spread_form
  form_step = rw (one, first_places, later_places)

  pub value_step : (ok : ℤ → Bool) → spread_value ok w r k (spread_places q b w k)
      ≡ or_else (value_fault (usable ok) (code_of (pick r (run (q + (b - w)) w)))) (spread_value ok w r j (spread_places (q + b) b w j))
  unfolding spread_value
  value_step ok = rw (one, first_places, later_places)

module _ (r : List ℕ) (q b w k : ℕ) (none : k ≤ 0) where
  pub form_end : spread_form w r k (spread_places q b w k) ≡ Sound
  unfolding spread_form
  form_end = let e : k ≡ 0 = omega arith in rw e

  pub value_end : (ok : ℤ → Bool) → spread_value ok w r k (spread_places q b w k) ≡ Sound
  unfolding spread_value
  value_end ok = let e : k ≡ 0 = omega arith in rw e

-- the bytes lent are those of the places
pub lent : (r : List ℕ) (a w : ℕ) → a + w ≤ length r → take (a + w - a) (drop a r) ≡ pick r (run a w)
lent r a w h = let e : a + w - a ≡ w = omega arith in rw e (sym (pick_run r a w h))

pub lent_last : (r : List ℕ) (e w : ℕ) → w ≤ e → e ≤ length r → take (e - (e - w)) (drop (e - w) r) ≡ pick r (run (e - w) w)
lent_last r e w h g = let x : e - (e - w) ≡ w = omega arith in rw x (sym (pick_run r (e - w) w (omega arith)))

-- ---- a number by what its bytes say
module _ (zero' : Bool) (ok : ℤ → Bool) where
  pub numeral_blank : numeral_fault zero' ok blank ≡ Sound
  unfolding numeral_fault value_fault
  numeral_blank = go zero'
    where
      go : (c : Bool) → numeral_fault c ok blank ≡ Sound
      go true = refl
      go false = refl

  pub numeral_wrong : numeral_fault zero' ok wrong ≡ Sound
  unfolding numeral_fault value_fault
  numeral_wrong = go zero'
    where
      go : (c : Bool) → numeral_fault c ok wrong ≡ Sound
      go true = refl
      go false = refl

  pub numeral_says : (z : ℤ) → numeral_fault zero' ok (says z) ≡ cond ((zero' && eq_z z (pos 0)) || ok z) Sound (NotLegal z)
  unfolding numeral_fault value_fault usable
  numeral_says z = go zero'
    where
      go : (c : Bool) → numeral_fault c ok (says z) ≡ cond ((c && eq_z z (pos 0)) || ok z) Sound (NotLegal z)
      go true = refl
      go false = refl

  pub numeral_legal : (z : ℤ) → ok z ≡ true → numeral_fault zero' ok (says z) ≡ Sound
  numeral_legal z e = numeral_says z ∙ rw e (go (zero' && eq_z z (pos 0)))
    where
      go : (c : Bool) → cond (c || true) Sound (NotLegal z) ≡ Sound
      go true = refl
      go false = refl

-- ---- a row by its kind
module _ (t : List ℤ) (v : ℕ) (r : Row) (record' : List ℕ) (k : Kind) (is : r.kind ≡ k) where
  pub form_as : form_by r.kind r.width record' (places_of t v r) ≡ form_by k r.width record' (places_by k t v r)
  form_as = ap (λ (x : Kind). form_by x r.width record' (places_by x t v r)) is

  pub value_as : value_by r.kind (legal t v r) r.width record' (places_of t v r)
      ≡ value_by k (legal t v r) r.width record' (places_by k t v r)
  value_as = ap (λ (x : Kind). value_by x (legal t v r) r.width record' (places_by x t v r)) is
