-- The marks of a set's members, and the categories that are marked: they give the entries of all categories of the row.
-- Assumes nothing.
use Rattle.std.specs.Prelude.{◌≡◌, Bool, ◌||◌, ℤ, pos, length, get_or}
use Rattle.std.proofs.Math.Path.{refl}
use Rattle.std.proofs.Common.{sym, ap, ◌∙◌, arith}
use Rattle.std.proofs.Math.Bool.{true, false, cond}
use mathlib.Core.List.{List, [], ◌∷◌, ◌++◌, append-nil}
use Prim.Native.Nat.{ℕ, zero, suc, ◌+◌, ◌-◌, ◌≤◌, ◌<◌}
use Rattle.below.specs.rule.Below.{any_below}
use Rattle.cells.specs.rule.Cell.{cell, eq_z}
use Rattle.layout.specs.declared.Row.{Row}
use Rattle.fields.specs.rule.Legal.{legal}
use Rattle.fields.specs.rule.Field.{Field, is_member}
use Rattle.fields.specs.rule.Row.{defined}
use Rattle.sets.specs.Marks.{Marks}
use Rattle.sets.proofs.FewLaws.{defined_split}
use Rattle.columns.specs.rule.Columns.{member_entry}
use Rattle.columns.specs.Reach.{Covered}
use Rattle.columns.specs.Marked.{marked_entry, marked_entries, member_entries, marked_is, marked_count}

-- ---- a member is one of the list's first numbers
or_same : (a b c : Bool) → ((a || b) || c) ≡ (a || (b || c))
or_same true b c = refl
or_same false b c = refl

pub any_front : (n : ℕ) (f : ℕ → Bool) → any_below (suc n) f ≡ (f 0 || any_below n (λ j. f (suc j)))
unfolding any_below
any_front zero f = or_none (f 0)
  where
    or_none : (a : Bool) → (false || a) ≡ (a || false)
    or_none true = refl
    or_none false = refl
any_front (suc n) f = rw (any_front n f) (or_same (f 0) (any_below n (λ j. f (suc j))) (f (suc n)))

pub any_member : (ms rest : List ℤ) (z : ℤ) → any_below (length ms) (λ j. eq_z (cell (ms ++ rest) j) z) ≡ is_member ms z
unfolding is_member any_below
any_member [] rest z = refl
any_member (m ∷ ms) rest z =
    any_front (length ms) (λ j. eq_z (cell ((m ∷ ms) ++ rest) j) z) ∙ ap (λ (b : Bool). eq_z m z || b) (any_member ms rest z)

-- ---- the categories, as far as marks reach
module _ {t : List ℤ} {v : ℕ} {r : Row} {n : ℕ} (k : Covered t v r n) where
  none_from : (c m : ℕ) → n ≤ c → defined (legal t v r) c m ≡ []
  unfolding defined
  none_from c zero h = refl
  none_from c (suc m) h = rw (none_from (suc c) m (omega arith)) (go (legal t v r (pos c)) refl)
    where
      go : (b : Bool) → legal t v r (pos c) ≡ b → cond b (c ∷ []) [] ≡ []
      go true e = absurd (omega (arith, k.below c e))
      go false e = refl

  pub reached : defined (legal t v r) 1 9999 ≡ defined (legal t v r) 1 (n - 1)
  reached =
      let s = k.some in
      let w = k.few in
      let e : 9999 ≡ (n - 1) + (10000 - n) = omega arith in
      ap (defined (legal t v r) 1) e ∙ defined_split (legal t v r) 1 (n - 1) (10000 - n)
      ∙ ap (λ (l : List ℕ). defined (legal t v r) 1 (n - 1) ++ l) (none_from (1 + (n - 1)) (10000 - n) (omega arith))
      ∙ append-nil (defined (legal t v r) 1 (n - 1))

  pub entries_marked : (there : Bool) (lm pm : List ℕ) (f : Field) → length lm ≡ n → Marks (λ x. legal t v r x) lm
      → ((c : ℕ) → 1 ≤ c → c < length lm → marked_entry there (get_or pm c 0) ≡ member_entry c f)
      → marked_entries there lm pm ≡ member_entries f (defined (legal t v r) 1 9999)
  entries_marked there lm pm f e marks entry =
      let s = k.some in
      marked_is there lm pm (legal t v r) f 1 (length lm - 1) (omega arith) (omega arith) (λ x l. marks.at x l) entry
      ∙ ap (λ (j : ℕ). member_entries f (defined (legal t v r) 1 (j - 1))) e
      ∙ ap (member_entries f) (sym reached)

  pub count_by : (there : Bool) (lm pm : List ℕ) → length lm ≡ n → Marks (λ x. legal t v r x) lm
      → length (marked_entries there lm pm) ≡ length (defined (legal t v r) 1 9999)
  count_by there lm pm e marks =
      let s = k.some in
      marked_count there lm pm (legal t v r) 1 (length lm - 1) (omega arith) (λ x l. marks.at x l)
      ∙ ap (λ (j : ℕ). length (defined (legal t v r) 1 (j - 1))) e
      ∙ ap (λ (l : List ℕ). length l) (sym reached)

  pub count_marked : (lm : List ℕ) → length lm ≡ n → Marks (λ x. legal t v r x) lm
      → length (marked_entries true lm lm) ≡ length (defined (legal t v r) 1 9999)
  count_marked lm e marks = count_by true lm lm e marks
