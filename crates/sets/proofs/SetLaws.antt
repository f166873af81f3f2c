-- A set's answer and the list after it, by what was found; and a field of either form by the tests on it.
-- Assumes nothing.
use mathlib.Core.Path.{◌≡◌, refl, subst}
use mathlib.Core.Bool.{Bool, true, false, not}
use mathlib.Core.List.{List}
use Prim.Native.Nat.{ℕ, ◌≤◌, ◌<◌}
use borrow.Author.Tests.{le-leb, lt-leb}
use lib.IntN.{ℤ}
use lib.ListN.{length}
use Rattle.fields.specs.rule.Number.{all_spaces}
use Rattle.fields.specs.rule.Field.{Field, holds, illegal, missing, members, all_bits, set_bits, bits_field, all_entries, spread_set}
use Rattle.fields.specs.rule.Field.{spread_field}
use Rattle.sets.specs.rule.Sets.{filled_of, list_after, is_illegal}
use Rattle.sets.specs.Sets.{set_answer, ReadSet}
use Rattle.sets.specs.declared.SetRead.TheVariants.{Missing, Count, Illegal, Short}

-- ---- answers
pub read_missing : (f : Field) (list : List ℤ) → f ≡ holds missing → ReadSet f list list Missing
unfolding set_answer list_after
read_missing f list e = record { answer = rw e; leaves = rw e }

pub read_illegal : (f : Field) (list : List ℤ) → f ≡ illegal → ReadSet f list list Illegal
unfolding set_answer list_after
read_illegal f list e = record { answer = rw e; leaves = rw e }

module _ (f : Field) (ms list : List ℤ) (n : ℕ) (is : f ≡ holds (members ms)) (e : n ≡ length ms) where
  pub read_room : (list' : List ℤ) → n ≤ length list → list' ≡ filled_of ms list → ReadSet f list list' (Count n)
  unfolding set_answer list_after
  read_room list' h q = let k : length ms ≤ length list = rw e at h in
      record { answer = rw (is, le-leb _ _ k, e); leaves = rw (is, le-leb _ _ k) q }

  pub read_short : length list < n → ReadSet f list list Short
  unfolding set_answer list_after
  read_short h = let k : length list < length ms = rw e at h in record { answer = rw (is, lt-leb _ _ k); leaves = rw (is, lt-leb _ _ k) }

pub as_read : {f g : Field} {list list' : List ℤ} {r : _} → f ≡ g → ReadSet f list list' r → ReadSet g list list' r
as_read {list} {list'} {r} e a = subst (λ (x : Field). ReadSet x list list' r) e a

-- ---- a field that is no illegal one
pub legal_not : (f : Field) (v : _) → f ≡ holds v → false ≡ is_illegal f
unfolding is_illegal
legal_not f v e = rw e

pub illegal_so : (f : Field) → f ≡ illegal → true ≡ is_illegal f
unfolding is_illegal
illegal_so f e = rw e

-- ---- a bitstring
module _ (cs s : List ℕ) where
  pub bits_missing : all_spaces s ≡ true → bits_field cs s ≡ holds missing
  unfolding bits_field
  bits_missing e = rw e

  module _ (some : all_spaces s ≡ false) where
    -- illegal just where a byte is neither `0` nor `1`
    pub bits_judged : (b : Bool) → b ≡ all_bits s → not b ≡ is_illegal (bits_field cs s)
    unfolding bits_field is_illegal
    bits_judged true e = rw (some, ← e)
    bits_judged false e = rw (some, ← e)

    pub bits_members : all_bits s ≡ true → bits_field cs s ≡ holds (members (set_bits cs s))
    unfolding bits_field
    bits_members e = rw (some, e)

    pub bits_wrong : all_bits s ≡ false → bits_field cs s ≡ illegal
    unfolding bits_field
    bits_wrong e = rw (some, e)

  -- bytes that are all `0` and `1` are legal, be there any or none
  pub bits_fine : all_bits s ≡ true → false ≡ is_illegal (bits_field cs s)
  bits_fine e = go (all_spaces s) refl
    where
      go : (b : Bool) → all_spaces s ≡ b → false ≡ is_illegal (bits_field cs s)
      go true p = legal_not _ _ (bits_missing p)
      go false p = legal_not _ _ (bits_members p e)

-- ---- a spread
module _ (ok : ℤ → Bool) (w n : ℕ) (s : List ℕ) where
  pub spread_missing : all_spaces s ≡ true → spread_field ok w n s ≡ holds missing
  unfolding spread_field
  spread_missing e = rw e

  module _ (some : all_spaces s ≡ false) where
    pub spread_members : all_entries ok w n s ≡ true → spread_field ok w n s ≡ holds (members (spread_set w n s))
    unfolding spread_field
    spread_members e = rw (some, e)

    pub spread_wrong : all_entries ok w n s ≡ false → spread_field ok w n s ≡ illegal
    unfolding spread_field
    spread_wrong e = rw (some, e)
