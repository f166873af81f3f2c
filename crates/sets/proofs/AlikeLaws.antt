-- The bytes of categories are alike just where each one's is: so those of a range, of the lines, and of both together.
-- Assumes nothing.
use mathlib.Core.Path.{◌≡◌, refl, sym, ap, ◌∙◌}
use mathlib.Core.Logic.{⊎_elim}
use mathlib.Core.Bool.{Bool, true, false, ◌&&◌, ◌||◌}
use mathlib.Core.List.{List, [], ◌∷◌}
use Prim.Native.Nat.{ℕ, zero, suc, ◌+◌, ◌-◌, ◌≤◌, ◌<◌}
use native.Mathlib.Omega.{arith}
use native.Mathlib.Nat.{eq-or-lt_of_le}
use borrow.Author.Tests.{leb-true, leb-false, le-leb, lt-leb, eqb-true, eq-eqb}
use lib.Dec.{eqb, leb}
use lib.IntN.{ℤ, pos, negsuc}
use lib.ListN.{get_or}
use lib.Signed.{le_z}
use Rattle.below.specs.rule.Below.{all_below}
use Rattle.below.specs.Below.{same_bool, holds_not, and_true, and_left, and_right, all_at_lem, all_of as all_so, any_some, any_holds}
use Rattle.below.specs.Below.{either_true}
use Rattle.below.specs.Below.{or_true}
use Rattle.cells.specs.rule.Cell.{count_of, eq_z}
use Rattle.cells.specs.Order.{le_join}
use Rattle.layout.specs.declared.Row.{Row}
use Rattle.places.specs.rule.Places.{pick}
use Rattle.fields.specs.rule.Legal.{line_value, in_range, on_line, legal}
use Rattle.fields.specs.rule.Number.{all_spaces}
use Rattle.fields.specs.rule.Field.{all_bits}
use Rattle.fields.specs.rule.Row.{defined, bit_places}
use Rattle.sets.specs.Alike.{one_of, all_of, all_at, FirstOf, LastOf}
use Rattle.sets.proofs.MarkLaws.{counts}

-- ---- which bytes
or_same : (b : Bool) → b ≡ (b || b)
or_same true = refl
or_same false = refl

pub spaces_alike : (s : List ℕ) → all_spaces s ≡ all_of 32 32 s
unfolding all_spaces all_of
spaces_alike [] = refl
spaces_alike (b ∷ s) = rw (spaces_alike s) (ap (λ (q : Bool). q && all_of 32 32 s) (or_same (eqb b 32)))

pub bits_alike : (s : List ℕ) → all_bits s ≡ all_of 48 49 s
unfolding all_bits all_of
bits_alike [] = refl
bits_alike (b ∷ s) = rw (bits_alike s)

-- ---- where a range starts and ends
pub first_low : (z : ℤ) → le_z z (pos 1) ≡ true → FirstOf z 1
first_low z e = record { low = omega arith; at = λ c l. le_join z (pos 1) (pos c) e (le-leb 1 c l) ∙ sym (le-leb 1 c l) }

pub first_high : (z : ℤ) → le_z z (pos 1) ≡ false → FirstOf z (count_of z)
unfolding count_of
first_high (pos n) e = record { low = omega (arith, leb-false n 1 e); at = λ c l. refl }
first_high (negsuc n) e = holds_not refl e

pub last_all : (z : ℤ) (w : ℕ) → le_z (pos w) z ≡ true → LastOf z w w
last_all z w e = record { few = omega arith; at = λ c p q. le_join (pos c) (pos w) z (le-leb c w q) e ∙ sym (le-leb c w q) }

pub last_none : (z : ℤ) (w : ℕ) → le_z z (pos 0) ≡ true → LastOf z w 0
last_none (pos n) w e = let i : n ≡ 0 = omega (arith, leb-true n 0 e) in record { few = omega arith; at = λ c p q. rw i }
last_none (negsuc n) w e = record { few = omega arith; at = λ c p q. sym (lt-leb c 0 p) }

pub last_inside : (z : ℤ) (w : ℕ) → le_z (pos w) z ≡ false → le_z z (pos 0) ≡ false → LastOf z w (count_of z)
unfolding count_of
last_inside (pos n) w e o = record { few = omega (arith, leb-false w n e); at = λ c p q. refl }
last_inside (negsuc n) w e o = holds_not refl o

-- ---- a category's byte
module _ (x y : ℕ) (r : List ℕ) (at : ℕ) where
  abbrev pub good : ℕ → Bool
  good c = one_of x y (get_or r (at + (c - 1)) 0)

  abbrev from : (ℤ → Bool) → ℕ → ℕ → Bool
  from ok c n = all_of x y (pick r (bit_places at (defined ok c n)))

  here : (ok : ℤ → Bool) (c n : ℕ) → ok (pos c) ≡ true → from ok c (suc n) ≡ (good c && from ok (suc c) n)
  unfolding all_of bit_places defined
  here ok c n e = rw e

  not_here : (ok : ℤ → Bool) (c n : ℕ) → ok (pos c) ≡ false → from ok c (suc n) ≡ from ok (suc c) n
  unfolding all_of bit_places defined
  not_here ok c n e = rw e

  rest : (ok : ℤ → Bool) (c n : ℕ) → from ok c (suc n) ≡ true → from ok (suc c) n ≡ true
  rest ok c n a = go (ok (pos c)) refl
    where
      go : (b : Bool) → ok (pos c) ≡ b → from ok (suc c) n ≡ true
      go true e = and_right (good c) (from ok (suc c) n) (sym (here ok c n e) ∙ a)
      go false e = sym (not_here ok c n e) ∙ a

  -- all are alike: each is
  each_from : (ok : ℤ → Bool) (n c d : ℕ) → c ≤ d → d < c + n → ok (pos d) ≡ true → from ok c n ≡ true → good d ≡ true
  each_from ok zero c d l h e a = absurd (omega arith)
  each_from ok (suc n) c d l h e a =
      ⊎_elim
      (λ q. let p : ok (pos c) ≡ true = rw q e in ap good (sym q) ∙ and_left (good c) (from ok (suc c) n) (sym (here ok c n p) ∙ a))
      (λ k. each_from ok n (suc c) d k (omega arith) e (rest ok c n a))
      (eq-or-lt_of_le l)

  -- each is: all are
  all_from : (ok : ℤ → Bool) (n c : ℕ) → ((d : ℕ) → c ≤ d → d < c + n → ok (pos d) ≡ true → good d ≡ true) → from ok c n ≡ true
  unfolding all_of bit_places defined
  all_from ok zero c g = refl
  all_from ok (suc n) c g = go (all_from ok n (suc c) (λ d l h e. g d (omega arith) (omega arith) e)) (ok (pos c)) refl
    where
      go : from ok (suc c) n ≡ true → (b : Bool) → ok (pos c) ≡ b → from ok c (suc n) ≡ true
      go more true e = here ok c n e ∙ and_true (good c) (from ok (suc c) n) (g c (omega arith) (omega arith) e) more
      go more false e = not_here ok c n e ∙ more

  module _ (w : ℕ) where
    pub each : (ok : ℤ → Bool) → all_at x y r at w ok ≡ true → (d : ℕ) → 1 ≤ d → d ≤ w → ok (pos d) ≡ true → good d ≡ true
    each ok a d l h e = each_from ok w 1 d l (omega arith) e a

    pub all : (ok : ℤ → Bool) → ((d : ℕ) → 1 ≤ d → d ≤ w → ok (pos d) ≡ true → good d ≡ true) → all_at x y r at w ok ≡ true
    all ok g = all_from ok w 1 (λ d l h e. g d l (omega arith) e)

    -- ---- of one number
    module _ (z : ℤ) (few : w ≤ 9999) where
      is : (d : ℕ) → d ≤ w → eq_z z (pos d) ≡ true → count_of z ≡ d
      is d h e = eqb-true (count_of z) d (sym (counts z d (omega arith)) ∙ e)

      pub one_inside : 1 ≤ count_of z → count_of z ≤ w → good (count_of z) ≡ all_at x y r at w (λ u. eq_z z u)
      one_inside l h =
          same_bool _ _
          (λ e. all (λ u. eq_z z u) (λ d p q g. ap good (sym (is d q g)) ∙ e))
          (λ e. each (λ u. eq_z z u) e (count_of z) l h (counts z (count_of z) (omega arith) ∙ eq-eqb (count_of z) (count_of z) refl))

      pub one_outside : (1 ≤ count_of z → count_of z ≤ w → ⊥) → true ≡ all_at x y r at w (λ u. eq_z z u)
      one_outside n = sym (all (λ u. eq_z z u) (λ d p q g. let e = is d q g in absurd (n (omega arith) (omega arith))))

    -- ---- of the lines
    module _ (t : List ℤ) (v : ℕ) (row : Row) where
      pub lines_alike : all_below row.lines (λ k. all_at x y r at w (λ u. eq_z (line_value t v row k) u))
          ≡ all_at x y r at w (λ z. on_line t v row z)
      unfolding on_line
      lines_alike =
          same_bool _ _
          (λ e. all (λ z. on_line t v row z) (λ d p q g. any_some (λ k. eq_z (line_value t v row k) (pos d)) row.lines g
          (λ k h s. each (λ u. eq_z (line_value t v row k) u)
          (all_at_lem (λ k. all_at x y r at w (λ u. eq_z (line_value t v row k) u)) row.lines k h e) d p q s)))
          (λ e. all_so (λ k. all_at x y r at w (λ u. eq_z (line_value t v row k) u)) row.lines
          (λ k h. all (λ u. eq_z (line_value t v row k) u)
          (λ d p q s. each (λ z. on_line t v row z) e d p q (any_holds (λ k. eq_z (line_value t v row k) (pos d)) row.lines k h s))))

      -- ---- of both
      abbrev ranged : Bool
      ranged = all_at x y r at w (λ z. in_range row z)

      abbrev lined : Bool
      lined = all_at x y r at w (λ z. on_line t v row z)

      pub both_alike : (ranged && lined) ≡ all_at x y r at w (legal t v row)
      unfolding legal
      both_alike =
          same_bool _ _
          (λ e. all (legal t v row) (λ d p q g. ⊎_elim
          (λ s. each (λ z. in_range row z) (and_left ranged lined e) d p q s)
          (λ s. each (λ z. on_line t v row z) (and_right ranged lined e) d p q s)
          (either_true (in_range row (pos d)) (on_line t v row (pos d)) g)))
          (λ e. and_true ranged lined
          (all (λ z. in_range row z) (λ d p q s. each (legal t v row) e d p q (rw s)))
          (all (λ z. on_line t v row z) (λ d p q s. each (legal t v row) e d p q (rw s (or_true (in_range row (pos d)))))))

    -- ---- of a range
    module _ (row : Row) where
      pub no_range : row.range ≡ false → true ≡ all_at x y r at w (λ z. in_range row z)
      unfolding in_range
      no_range n = sym (all (λ z. in_range row z) (λ d p q s. holds_not s (rw n)))

      module _ (first last : ℕ) (has : row.range ≡ true) (f : FirstOf row.from first) (l : LastOf row.to w last) where
        within : (d : ℕ) → 1 ≤ d → d ≤ w → in_range row (pos d) ≡ (leb first d && leb d last)
        unfolding in_range
        within d p q = rw (has, f.at d p, l.at d p q)

        pub range_empty : last < first → true ≡ all_at x y r at w (λ z. in_range row z)
        range_empty h =
            sym (all (λ z. in_range row z) (λ d p q s. let b = sym (within d p q) ∙ s in
            let u = leb-true first d (and_left (leb first d) (leb d last) b) in
            let o = leb-true d last (and_right (leb first d) (leb d last) b) in absurd (omega arith)))

        abbrev byte : ℕ → Bool
        byte k = one_of x y (get_or r (at + (first - 1) + k) 0)

        same_byte : (k : ℕ) → byte k ≡ good (first + k)
        same_byte k = let i = f.low in let e : at + (first - 1) + k ≡ at + (first + k - 1) = omega arith in rw e

        pub range_alike : first ≤ last → all_below (last + 1 - first) (λ k. byte k) ≡ all_at x y r at w (λ z. in_range row z)
        range_alike h =
            same_bool _ _
            (λ e. all (λ z. in_range row z) (λ d p q s. let b = sym (within d p q) ∙ s in
            let u = leb-true first d (and_left (leb first d) (leb d last) b) in
            let o = leb-true d last (and_right (leb first d) (leb d last) b) in
            let i : first + (d - first) ≡ d = omega arith in
            ap good (sym i) ∙ sym (same_byte (d - first)) ∙ all_at_lem (λ k. byte k) (last + 1 - first) (d - first) (omega arith) e))
            (λ e. all_so (λ k. byte k) (last + 1 - first) (λ k g. let i = f.low in let j = l.few in
            same_byte k ∙ each (λ z. in_range row z) e (first + k) (omega arith) (omega arith)
            (within (first + k) (omega arith) (omega arith)
            ∙ and_true _ _ (le-leb first (first + k) (omega arith)) (le-leb (first + k) last (omega arith)))))

-- ---- where all bytes of the position are alike, those of the categories are
pub any_alike : (x y : ℕ) (r : List ℕ) (at w : ℕ) (ok : ℤ → Bool) → all_below w (λ k. one_of x y (get_or r (at + k) 0)) ≡ true
    → all_at x y r at w ok ≡ true
any_alike x y r at w ok e = all x y r at w ok (λ d l m g. all_at_lem (λ k. one_of x y (get_or r (at + k) 0)) w (d - 1) (omega arith) e)

-- ---- where every category from 1 to w is allowed, the bytes stand side by side
pub each_alike : (x y : ℕ) (r : List ℕ) (at w : ℕ) (ok : ℤ → Bool) → ((c : ℕ) → 1 ≤ c → c ≤ w → ok (pos c) ≡ true)
    → all_below w (λ k. one_of x y (get_or r (at + k) 0)) ≡ all_at x y r at w ok
each_alike x y r at w ok h =
    same_bool _ _
    (any_alike x y r at w ok)
    (λ e. all_so (λ k. one_of x y (get_or r (at + k) 0)) w (λ k l.
    let q : k + 1 - 1 ≡ k = omega arith in
    rw q at (each x y r at w ok e (k + 1) (omega arith) (omega arith) (h (k + 1) (omega arith) (omega arith)))))
