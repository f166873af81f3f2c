-- What follows from rule/Cell.antt, and what the code keeps.
use Rattle.std.specs.Prelude.{◌≡◌, refl, true, List, [], ◌++◌, eqb, length, take, drop, ℕ, suc, ◌+◌, ◌-◌, ◌^◌, ◌≤◌, ◌<◌, ℤ, pos, negsuc}
use Rattle.std.proofs.Common.{sym, ap, ◌∙◌, append_assoc, arith, eqb-true, eq-eqb, ne_eqb, SFits, of_z, length-append, length-take-le}
use Rattle.std.proofs.Common.{take_at, drop-drop}
use Rattle.std.specs.Int.{w64}
use Rattle.std.proofs.Math.Seq.{drop-append-add, paste-zero}
use Rattle.below.specs.Below.{same_bool}
use Rattle.cells.specs.rule.Cell.{count_of, eq_z, pasted}

-- ---- laws
-- a count below the mark of a negative number is the number itself
pub count_is : (z : ℤ) → count_of z < 9223372036854775808 → z ≡ pos (count_of z)
unfolding count_of
count_is (pos n) h = refl
count_is (negsuc n) h = absurd (omega arith)

pub same_true : (a b : ℤ) → eq_z a b ≡ true → a ≡ b
unfolding eq_z
same_true (pos a) (pos b) e = ap pos (eqb-true a b e)
same_true (pos a) (negsuc b) e = let z : ◌≡◌ {A = ℕ} 0 1 = cc in absurd (omega arith)
same_true (negsuc a) (pos b) e = let z : ◌≡◌ {A = ℕ} 0 1 = cc in absurd (omega arith)
same_true (negsuc a) (negsuc b) e = ap negsuc (eqb-true a b e)

pub same_self : (a : ℤ) → eq_z a a ≡ true
unfolding eq_z
same_self (pos a) = eq-eqb a a refl
same_self (negsuc a) = eq-eqb a a refl

-- the bits of two numbers that fit are equal just where the numbers are
pub bits_same : (a b : ℤ) → SFits w64 a → SFits w64 b → eqb (of_z w64 a) (of_z w64 b) ≡ eq_z a b
unfolding eq_z
bits_same (pos a) (pos b) f g = refl
bits_same (pos a) (negsuc b) f g = ne_eqb a (2 ^ 64 - suc b) (λ e. omega arith)
bits_same (negsuc a) (pos b) f g = ne_eqb (2 ^ 64 - suc a) b (λ e. omega arith)
bits_same (negsuc a) (negsuc b) f g =
    same_bool _ _
    (λ e. let q : 2 ^ 64 - suc a ≡ 2 ^ 64 - suc b = eqb-true _ _ e in eq-eqb a b (omega arith))
    (λ e. let q : a ≡ b = eqb-true a b e in eq-eqb (2 ^ 64 - suc a) (2 ^ 64 - suc b) (omega arith))

-- a paste right after a paste is one paste of the two
pub paste_more : (l p s : List ℤ) (at : ℕ) → at + length p ≤ length l → pasted (pasted l at p) (at + length p) s ≡ pasted l at (p ++ s)
unfolding pasted
paste_more l p s at h =
    let q : List ℤ = take at l ++ p in
    let n : ℕ = at + length p in
    let e : length q ≡ n = length-append (take at l) p ∙ ap (λ (k : ℕ). k + length p) (length-take-le at l (omega arith)) in
    let t1 : take n (q ++ drop n l) ≡ q = take_at q (drop n l) n e in
    let d1 : drop (n + length s) (q ++ drop n l) ≡ drop (n + length s) l =
    ap (λ (k : ℕ). drop (k + length s) (q ++ drop n l)) (sym e) ∙ drop-append-add q (drop n l) (length s) ∙ drop-drop (length s) n l in
    let a : at + length (p ++ s) ≡ n + length s = rw (length-append p s) (omega arith) in
    rw (t1, d1, a, append_assoc (take at l) p s)

pub paste_none : (l : List ℤ) (at : ℕ) → l ≡ pasted l at []
unfolding pasted
paste_none l at = paste-zero l at []
