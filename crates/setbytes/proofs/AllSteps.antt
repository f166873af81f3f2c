-- A row whose range has every category: their places are one run, and a set is `0` there with `1` for each member.
use mathlib.Core.Path.{◌≡◌, refl, sym, ap, ◌∙◌}
use mathlib.Core.Bool.{true}
use mathlib.Core.List.{List, [], ◌∷◌}
use Prim.Native.Nat.{ℕ, zero, suc, ◌+◌, ◌-◌, ◌≤◌, ◌<◌}
use native.Mathlib.Omega.{arith}
use native.Mathlib.Numerals.{add-one}
use lib.IntN.{ℤ, pos}
use lib.ListN.{length, get_or, set, drop, drop_of_length-le}
use lib.Seq.{drop-cons, set-set}
use Rattle.places.specs.rule.Places.{put, run, Apart}
use Rattle.places.specs.Laws.{length_run, out_run, commute}
use Rattle.fields.specs.rule.Legal.{legal}
use Rattle.fields.specs.rule.Field.{spaces, is_member, bit_bytes}
use Rattle.fieldlaws.specs.RisingLaws.{Rising, none, skip, keep, not_below}
use Rattle.fieldlaws.specs.KeptLaws.{other_member}
use Rattle.cells.specs.rule.Cell.{count_of}
use Rattle.cells.specs.Cell.{same_self}
use Rattle.setbytes.specs.Sets.{with_members}
use Rattle.fields.specs.rule.Row.{defined, bit_places}
use Rattle.layout.specs.declared.Row.{Row}
use Rattle.sets.specs.Full.{has_all, always, all_defined}

all_places : (at c n p : ℕ) → 1 ≤ c → p ≡ at + (c - 1) → bit_places at (defined always c n) ≡ run p n
unfolding defined bit_places
all_places at c zero p l e = refl
all_places at c (suc n) p l e = rw (← e) (ap (λ (ps : List ℕ). p ∷ ps) (all_places at (suc c) n (suc p) (omega arith) (omega arith)))

pub blank_run : (t : List ℤ) (v : ℕ) (r : Row) (w : ℕ) → has_all r w ≡ true → (at : ℕ) (bytes : List ℕ)
    → put bytes (run at w) (spaces w)
    ≡ put bytes (bit_places at (defined (legal t v r) 1 w)) (spaces (length (bit_places at (defined (legal t v r) 1 w))))
blank_run t v r w h at bytes = rw (all_defined t v r w h, all_places at 1 w at (omega arith) (omega arith), length_run)

-- ---- a set, where every place has `0`: `1` at each member's place
away : (at c n : ℕ) → 1 ≤ c → Apart ((at + (c - 1)) ∷ []) (bit_places at (defined always (suc c) n))
away at c n l = rw (all_places at (suc c) n (at + c) (omega arith) (omega arith)) (out_run (at + (c - 1)) (at + c) n (omega arith), tt)

pub members_put : (at : ℕ) {c n : ℕ} {ms : List ℤ} → Rising c n ms → 1 ≤ c → (r : List ℕ)
    → with_members (put r (bit_places at (defined always c n)) (bit_bytes [] (defined always c n))) at ms
    ≡ put r (bit_places at (defined always c n)) (bit_bytes ms (defined always c n))
unfolding with_members bit_places bit_bytes defined is_member count_of
members_put at none l r = refl
members_put at (skip {c = c} {n = n} {ms = ms} s) l r =
    rw (not_below c s (omega arith)) (members_put at s (omega arith) (set r (at + (c - 1)) 48))
members_put at (keep {c = c} {n = n} {ms = ms} s) l r =
    let p : ℕ = at + (c - 1) in
    let ps : List ℕ = bit_places at (defined always (suc c) n) in
    let vs : List ℕ = bit_bytes [] (defined always (suc c) n) in
    let e : set (put (set r p 48) ps vs) p 49 ≡ put (set r p 49) ps vs =
    sym (commute (set r p 48) (p ∷ []) (49 ∷ []) ps vs (away at c n l)) ∙ ap (λ (x : List ℕ). put x ps vs) (set-set r p 48 49) in
    rw (e, same_self (pos c), other_member always c (suc c) n ms (omega arith)) (members_put at s (omega arith) (set r p 49))

-- a member is a category
pub member_low : {c n : ℕ} {ms : List ℤ} → Rising c n ms → (j : ℕ) → j < length ms → c ≤ count_of (get_or ms j (pos 0))
unfolding count_of
member_low none j h = absurd (omega arith)
member_low (skip s) j h = let e = member_low s j h in omega arith
member_low (keep s) zero h = omega arith
member_low (keep s) (suc j) h = let e = member_low s j (omega arith) in omega arith

pub member_high : {c n : ℕ} {ms : List ℤ} → Rising c n ms → (j : ℕ) → j < length ms → count_of (get_or ms j (pos 0)) < c + n
unfolding count_of
member_high none j h = absurd (omega arith)
member_high (skip s) j h = let e = member_high s j h in omega arith
member_high (keep s) zero h = omega arith
member_high (keep s) (suc j) h = let e = member_high s j (omega arith) in omega arith

-- one member more
pub members_next : (r : List ℕ) (at : ℕ) (ms : List ℤ) (j : ℕ) → j < length ms
    → with_members r at (drop j ms) ≡ with_members (set r (at + (count_of (get_or ms j (pos 0)) - 1)) 49) at (drop (j + 1) ms)
unfolding with_members
members_next r at ms j h = rw (drop-cons ms j (pos 0), add-one j)

pub members_done : (r : List ℕ) (at : ℕ) (ms : List ℤ) (j : ℕ) → length ms ≤ j → with_members r at (drop j ms) ≡ r
unfolding with_members
members_done r at ms j h = rw (drop_of_length-le ms h)
