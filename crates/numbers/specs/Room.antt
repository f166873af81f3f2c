-- How large a number a run of digits can say: what it says after n lies below (n + 1) times ten to the count of digits.
use Rattle.std.specs.Prelude.{◌≡◌, true, List, [], ◌∷◌, ℕ, suc, ◌+◌, ◌-◌, ◌*◌, ◌^◌, ◌≤◌, leb, length}
use Rattle.std.proofs.Common.{pow-suc, mul-one, mul_comm, mul_assoc, mul-le-mul_right, le-mul_of_pos_right, le_trans, arith, leb-true}
use Rattle.std.proofs.Math.Nat.{pow-zero, one-le-pow}
use Rattle.below.specs.rule.Below.{◌and◌}
use Rattle.below.specs.Below.{and_both}
use Rattle.ascii.specs.rule.Class.{within}
use Rattle.fields.specs.rule.Number.{digits_only, decimal_from}

-- a digit more, a power less
pub step_room : (v d k m : ℕ) → d ≤ 9 → (v + 1) * 10 ^ suc k ≤ m → (v * 10 + d + 1) * 10 ^ k ≤ m
step_room v d k m h g =
    let e : (v + 1) * 10 ^ suc k ≡ ((v + 1) * 10) * 10 ^ k = rw (pow-suc, mul_comm (10 ^ k) 10, ← mul_assoc) in
    let l : v * 10 + d + 1 ≤ (v + 1) * 10 = omega arith in
    le_trans (mul-le-mul_right (10 ^ k) l) (rw e at g)

-- what has room for digits is itself below the bound
pub room_small : (v k m : ℕ) → (v + 1) * 10 ^ k ≤ m → v + 1 ≤ m
room_small v k m g = le_trans (le-mul_of_pos_right (v + 1) (one-le-pow k 10 (omega arith))) g

pub is_digit_lem : (b : ℕ) → within 48 57 b ≡ true → (48 ≤ b) × (b ≤ 57)
unfolding ◌and◌
is_digit_lem b e = let p = and_both {a = leb 48 b} {b = leb b 57} e in (leb-true 48 b p.0, leb-true b 57 p.1)

pub first_digit : (b : ℕ) (s : List ℕ) → digits_only (b ∷ s) ≡ true → (within 48 57 b ≡ true) × (digits_only s ≡ true)
unfolding digits_only ◌and◌
first_digit b s e = and_both {a = within 48 57 b} {b = digits_only s} e

pub decimal_room : (n : ℕ) (s : List ℕ) → digits_only s ≡ true → decimal_from n s + 1 ≤ (n + 1) * 10 ^ length s
unfolding decimal_from
decimal_room n [] e = rw (pow-zero, mul-one) (omega arith)
decimal_room n (b ∷ s) e =
    let p = first_digit b s e in
    let d = is_digit_lem b p.0 in
    le_trans (decimal_room (n * 10 + (b - 48)) s p.1)
    (step_room n (b - 48) (length s) ((n + 1) * 10 ^ suc (length s)) (omega arith) (omega arith))
