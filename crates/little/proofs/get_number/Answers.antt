use mathlib.Core.Path.{◌≡◌, refl}
use mathlib.Core.List.{List}
use Prim.Native.Nat.{ℕ, suc, ◌+◌, ◌*◌, ◌-◌, ◌^◌, ◌≤◌, ◌<◌}
use native.Mathlib.Nat.{pow-suc, le_trans, zero-lt-suc, pow-le-pow_right}
use native.Mathlib.Omega.{arith}
use lib.ListN.{length, get_or}
use lib.Seq.{drop-cons}
use Rattle.little.specs.Bytes.{number_at}
use Rattle.little.specs.rule.Bytes.{little_number}
use Rattle.little.proofs.get_number.Goals as goal

-- the byte below is taken in
taken : (s : List ℕ) (at w i : ℕ) → 0 < i → i ≤ w → at + w ≤ length s
    → number_at (w - (i - 1)) (at + (i - 1)) s ≡ get_or s (at + (i - 1)) 0 + 256 * number_at (w - i) (at + i) s
unfolding number_at little_number
taken s at w i h g l =
    let d : w - (i - 1) ≡ suc (w - i) = omega arith in
    let a : at + i ≡ suc (at + (i - 1)) = omega arith in
    let b : at + (i - 1) < length s = omega arith in
    rw (d, a, drop-cons s (at + (i - 1)) 0 b)

grown : (n b w i : ℕ) → 0 < i → i ≤ w → n < 256 ^ (w - i) → b < 256 → n * 256 + b < 256 ^ (w - (i - 1))
grown n b w i h g l k = let d : w - (i - 1) ≡ suc (w - i) = omega arith in rw (d, pow-suc 256 (w - i)) (omega arith)

room : (n w i : ℕ) → 0 < i → w ≤ 8 → n < 256 ^ (w - i) → n < 72057594037927936
room n w i h g l = let d : w - i ≤ 7 = omega arith in le_trans l (pow-le-pow_right {n = 256} (zero-lt-suc 255) d)

pub loop-i-init : goal.loop-i-init
unfolding number_at little_number
loop-i-init c = let w = c.args.width in let d : w - w ≡ 0 = omega arith in rw d (omega arith, refl)

pub overflow_mul-n : goal.overflow_mul-n
overflow_mul-n c =
    let l = c.loop-i in
    let r = room l.n c.args.width l.i (omega arith) c.requires.width_bound l.invariant.0 in
    omega arith

pub overflow_add-n : goal.overflow_add-n
overflow_add-n c =
    let l = c.loop-i in
    let r = room l.n c.args.width l.i (omega arith) c.requires.width_bound l.invariant.0 in
    let b = c.type_inv.s (c.args.at + (l.i - 1)) in
    omega arith

pub loop-i-preserved : goal.loop-i-preserved
loop-i-preserved c =
    let l = c.loop-i in
    let a = c.args in
    let b = c.type_inv.s (a.at + (l.i - 1)) in
    let t = taken a.s.now a.at a.width l.i (omega arith) (omega arith) c.requires.width_in_bounds in
    (grown l.n c.from.result a.width l.i (omega arith) (omega arith) l.invariant.0 (omega arith), omega arith)
