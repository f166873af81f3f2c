-- The entries of a row by its reader's answer: one of a number, or one for each category that is marked as legal.
-- Assumes nothing.
use Rattle.std.specs.Prelude.{◌≡◌, refl, Bool, true, false, cond, List, [], ◌∷◌, eqb, leb, ℤ, pos, get_or}
use Rattle.std.proofs.Common.{ap}
use Prim.Native.Nat.{ℕ, zero, suc, ◌+◌, ◌-◌, ◌≤◌, ◌<◌}
use Rattle.std.proofs.Math.Numerals.{add-one}
use native.Mathlib.Omega.{arith}
use borrow.Author.Tests.{eq-eqb, ne_eqb}
use Rattle.std.proofs.Math.ListN.{length}
use Rattle.fields.specs.rule.Field.{missing, number, members, text, truth, Field, holds, illegal}
use Rattle.fields.specs.rule.Row.{defined}
use Rattle.readings.specs.Answer.{answer_of}
use Rattle.readings.specs.declared.Answer.{Answer}
use Rattle.readings.specs.declared.Answer.TheVariants.{Missing, Number, Set, Text, Truth}
use Rattle.readings.specs.declared.Answer.TheVariants.{BadTable, NoRow, ShortRecord, Illegal, ShortList}
use Rattle.sets.specs.Marks.{flag}
use Rattle.sets.proofs.MarkLaws.{flag_back}
use Rattle.matrix.specs.declared.Entry.{Entry}
use Rattle.matrix.specs.declared.Entry.TheVariants.{Absent, Scaled}
use Rattle.matrix.specs.Entry.{EntryGood}
use Rattle.columns.specs.rule.Columns.{number_entry, member_entry}

-- the entry of a row of one column by its reader's answer
unfoldable pub answer_entry : ℕ → Answer → Entry
answer_entry p Missing = Absent
answer_entry p (Number z) = Scaled z p
answer_entry p (Set n) = Absent
answer_entry p (Text a n) = Absent
answer_entry p (Truth b) = Scaled (cond b (pos 1) (pos 0)) p
answer_entry p BadTable = Absent
answer_entry p NoRow = Absent
answer_entry p ShortRecord = Absent
answer_entry p Illegal = Absent
answer_entry p ShortList = Absent

unfoldable pub is_set : Answer → Bool
is_set Missing = false
is_set (Number z) = false
is_set (Set n) = true
is_set (Text a n) = false
is_set (Truth b) = false
is_set BadTable = false
is_set NoRow = false
is_set ShortRecord = false
is_set Illegal = false
is_set ShortList = false

-- a category's entry by its mark, where there is a set
unfoldable pub marked_entry : Bool → ℕ → Entry
marked_entry there m = cond there (Scaled (cond (eqb m 1) (pos 1) (pos 0)) 1) Absent

-- the entries of the n categories from c on that are marked as legal
unfoldable pub marked_from : Bool → List ℕ → List ℕ → ℕ → ℕ → List Entry
marked_from there legal present c zero = []
marked_from there legal present c (suc n) =
    cond (eqb (get_or legal c 0) 1) (marked_entry there (get_or present c 0) ∷ marked_from there legal present (suc c) n)
    (marked_from there legal present (suc c) n)

-- all of them: category 0 there is none
abbrev pub marked_entries : Bool → List ℕ → List ℕ → List Entry
marked_entries there legal present = marked_from there legal present 1 (length legal - 1)

-- the entries of categories, by what was read of their row
unfoldable pub member_entries : Field → List ℕ → List Entry
member_entries f [] = []
member_entries f (c ∷ cs) = member_entry c f ∷ member_entries f cs

-- ---- laws
pub answer_entry_lem : (p a n : ℕ) (f : Field) → answer_entry p (answer_of a n f) ≡ number_entry p f
unfolding answer_entry answer_of number_entry
answer_entry_lem p a n (holds missing) = refl
answer_entry_lem p a n (holds (number z)) = refl
answer_entry_lem p a n (holds (members ms)) = go (leb (length ms) n)
  where
    go : (b : Bool) → answer_entry p (cond b (Set (length ms)) ShortList) ≡ Absent
    go true = refl
    go false = refl
answer_entry_lem p a n (holds (text s)) = refl
answer_entry_lem p a n (holds (truth b)) = refl
answer_entry_lem p a n illegal = refl

pub marked_good : (there : Bool) (m : ℕ) → EntryGood (marked_entry there m)
unfolding marked_entry EntryGood
marked_good false m = tt
marked_good true m = go (eqb m 1)
  where
    go : (b : Bool) → EntryGood (Scaled (cond b (pos 1) (pos 0)) 1)
    go true = (omega arith, (omega arith, omega arith))
    go false = (omega arith, (omega arith, omega arith))

pub marked_nought : (there : Bool) (m : ℕ) → eqb m 1 ≡ false → marked_entry there m ≡ cond there (Scaled (pos 0) 1) Absent
unfolding marked_entry
marked_nought there m e = rw e

-- ---- category by category: n are left from c on
module _ (there : Bool) (legal present : List ℕ) (c : ℕ) (low : c < length legal) where
  pub marked_on : get_or legal c 0 ≡ 1
      → marked_from there legal present c (length legal - c) ≡ marked_entry there (get_or present c 0)
      ∷ marked_from there legal present (c + 1) (length legal - (c + 1))
  unfolding marked_from
  marked_on e = let d : length legal - c ≡ suc (length legal - (c + 1)) = omega arith in rw (d, eq-eqb (get_or legal c 0) 1 e, add-one c)

  pub marked_off : (get_or legal c 0 ≡ 1 → ⊥)
      → marked_from there legal present c (length legal - c) ≡ marked_from there legal present (c + 1) (length legal - (c + 1))
  unfolding marked_from
  marked_off e = let d : length legal - c ≡ suc (length legal - (c + 1)) = omega arith in rw (d, ne_eqb (get_or legal c 0) 1 e, add-one c)

pub marked_none : (there : Bool) (legal present : List ℕ) (c : ℕ) → length legal ≤ c → marked_from there legal present c (length legal - c)
    ≡ []
unfolding marked_from
marked_none there legal present c h = let d : length legal - c ≡ 0 = omega arith in rw d

-- by marks that are right, they are the entries of the legal categories
pub marked_is : (there : Bool) (legal present : List ℕ) (ok : ℤ → Bool) (f : Field) (c n : ℕ) → 1 ≤ c → c + n ≤ length legal
    → ((x : ℕ) → x < length legal → get_or legal x 0 ≡ flag (ok (pos x)))
    → ((x : ℕ) → 1 ≤ x → x < length legal → marked_entry there (get_or present x 0) ≡ member_entry x f)
    → marked_from there legal present c n ≡ member_entries f (defined ok c n)
unfolding marked_from member_entries defined
marked_is there legal present ok f c zero o h l p = refl
marked_is there legal present ok f c (suc n) o h l p =
    rw (
      l c (omega arith),
      flag_back (ok (pos c)),
      p c o (omega arith),
      marked_is there legal present ok f (suc c) n (omega arith) (omega arith) l p,
    )
    (go (ok (pos c)))
  where
    go : (b : Bool) → cond b (member_entry c f ∷ member_entries f (defined ok (suc c) n)) (member_entries f (defined ok (suc c) n))
        ≡ member_entries f (cond b (c ∷ defined ok (suc c) n) (defined ok (suc c) n))
    go true = refl
    go false = refl

-- and they are as many
pub marked_count : (there : Bool) (legal present : List ℕ) (ok : ℤ → Bool) (c n : ℕ) → c + n ≤ length legal
    → ((x : ℕ) → x < length legal → get_or legal x 0 ≡ flag (ok (pos x)))
    → length (marked_from there legal present c n) ≡ length (defined ok c n)
unfolding marked_from defined
marked_count there legal present ok c zero h l = refl
marked_count there legal present ok c (suc n) h l =
    rw (l c (omega arith), flag_back (ok (pos c))) (go (ok (pos c)) (marked_count there legal present ok (suc c) n (omega arith) l))
  where
    go : (b : Bool) → length (marked_from there legal present (suc c) n) ≡ length (defined ok (suc c) n)
        → length (cond b (marked_entry there (get_or present c 0) ∷ marked_from there legal present (suc c) n)
        (marked_from there legal present (suc c) n))
        ≡ length (cond b (c ∷ defined ok (suc c) n) (defined ok (suc c) n))
    go true e = ap suc e
    go false e = e

pub defined_few : (ok : ℤ → Bool) (c n : ℕ) → length (defined ok c n) ≤ n
unfolding defined
defined_few ok c zero = omega arith
defined_few ok c (suc n) = go (ok (pos c)) (defined_few ok (suc c) n)
  where
    go : (b : Bool) → length (defined ok (suc c) n) ≤ n → length (cond b (c ∷ defined ok (suc c) n) (defined ok (suc c) n)) ≤ suc n
    go true h = omega arith
    go false h = omega arith
