-- What follows from rule/Begins.antt: numbers in two parts, one number on, too few of them.
use Rattle.std.specs.Prelude.{◌≡◌, refl, Bool, true, false, ◌&&◌, List, [], ◌∷◌, ◌++◌, ℕ, suc, ◌+◌, ◌<◌, ℤ, pos, length, take}
use Rattle.std.specs.Prelude.{drop}
use Rattle.std.proofs.Common.{sym, ap, ◌∙◌, le_of_suc-le-suc, not-suc-le-zero, add-one, arith, drop-cons}
use Rattle.cells.specs.rule.Cell.{cell, eq_z}
use Rattle.cells.specs.Cell.{same_true, same_self}
use Rattle.below.specs.Below.{and_left, and_right, holds_not}
use Rattle.laying.specs.rule.Begins.{begins_table}

pub and_apart : (a b c : Bool) → ((a && b) && c) ≡ (a && (b && c))
and_apart true b c = refl
and_apart false b c = refl

and_never : (a b : Bool) → b ≡ false → (a && b) ≡ false
and_never true b e = e
and_never false b e = refl

-- in two parts
pub begins_append : (a b t : List ℤ) → begins_table (a ++ b) t ≡ (begins_table a t && begins_table b (drop (length a) t))
unfolding begins_table
begins_append [] b t = refl
begins_append (x ∷ a) b [] = refl
begins_append (x ∷ a) b (y ∷ t) = ap (λ (q : Bool). eq_z x y && q) (begins_append a b t)
    ∙ sym (and_apart (eq_z x y) (begins_table a t) (begins_table b (drop (length a) t)))

-- too few numbers
pub begins_short : (l t : List ℤ) → length t < length l → begins_table l t ≡ false
unfolding begins_table
begins_short [] t h = absurd (not-suc-le-zero h)
begins_short (x ∷ l) [] h = refl
begins_short (x ∷ l) (y ∷ t) h = and_never (eq_z x y) (begins_table l t) (begins_short l t (le_of_suc-le-suc h))

-- one number on
pub begins_on : (l t : List ℤ) (at j : ℕ) → j < length l → at + j < length t
    → begins_table (drop j l) (drop (at + j) t) ≡ (eq_z (cell l j) (cell t (at + j))
    && begins_table (drop (j + 1) l) (drop (at + (j + 1)) t))
unfolding begins_table
begins_on l t at j h g =
    let e : at + (j + 1) ≡ suc (at + j) = omega arith in
    rw (drop-cons l j (pos 0) h, drop-cons t (at + j) (pos 0) g, e, add-one j)

-- in the paper's words: its first numbers are these
pub begins_is : (l t : List ℤ) → begins_table l t ≡ true → take (length l) t ≡ l
unfolding begins_table
begins_is [] t h = refl
begins_is (x ∷ l) [] h = holds_not h refl
begins_is (x ∷ l) (y ∷ t) h =
    let a = same_true x y (and_left (eq_z x y) (begins_table l t) h) in
    rw (← a) (ap (λ (m : List ℤ). x ∷ m) (begins_is l t (and_right (eq_z x y) (begins_table l t) h)))

pub begins_these : (l t : List ℤ) → take (length l) t ≡ l → begins_table l t ≡ true
unfolding begins_table
begins_these [] t e = refl
begins_these (x ∷ l) [] e = absurd (omega (arith, ap length e))
begins_these (x ∷ l) (y ∷ t) e =
    let q : y ≡ x = cc in
    let r : take (length l) t ≡ l = cc in
    rw (q, same_self x, begins_these l t r)
