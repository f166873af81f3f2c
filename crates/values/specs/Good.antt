-- What VALUES that were read are known to say. The theorem stands in proofs/Goods: `values_good_lem`.
use Rattle.std.specs.Prelude.{ℕ, ◌+◌, ◌^◌, ◌≤◌, ◌<◌, ◌≡◌, ◌⊎◌, Bool, true, false, cond, List, [], ◌∷◌, ℤ, pos, negsuc, length}
use Rattle.std.specs.Int.Signed.{le_z}
use Rattle.cells.specs.rule.Cell.{eq_z, signed_of}
use Rattle.values.specs.declared.Block.{Block}
use Rattle.values.specs.declared.Said.{Said}
use Rattle.values.specs.Line.{number_at}

-- the limits of a type: a scaled quantity has at most 15 digits, either sign; a category goes from 1 to 9,999
abbrev pub least : Bool → ℤ
least quantity = cond quantity (negsuc 999999999999998) (pos 1)

abbrev pub most : Bool → ℤ
most quantity = cond quantity (pos 999999999999999) (pos 9999)

pub record Limited (quantity : Bool) (z : ℤ) : Type 0 where
  pub low : le_z (least quantity) z ≡ true
  pub high : le_z z (most quantity) ≡ true

-- under point code 2 a number lies nearer zero than 1
abbrev pub Near : Block → ℤ → Type 0
Near b z = b.point ≡ 2 → (signed_of z).size < 10 ^ b.decimals

-- what is said of all numbers, and of the range
pub record GoodBlock (quantity : Bool) (b : Block) : Type 0 where
  pub few_decimals : b.decimals ≤ 9
  pub point_code : b.point ≤ 2
  -- decimals have a point before them, and code 2 has decimals
  pub pointed : (b.decimals ≡ 0) ⊎ (1 ≤ b.point)
  pub shared : b.point ≡ 2 → 1 ≤ b.decimals
  pub category : quantity ≡ false → (b.decimals ≡ 0) × (b.point ≡ 0)
  pub unranged : b.ranged ≡ false → (b.from ≡ pos 0) × (b.to ≡ pos 0)
  pub ordered : b.ranged ≡ true → le_z b.from b.to ≡ true
  pub from_limited : b.ranged ≡ true → Limited quantity b.from
  pub to_limited : b.ranged ≡ true → Limited quantity b.to
  pub from_near : b.ranged ≡ true → Near b b.from
  pub to_near : b.ranged ≡ true → Near b b.to

-- the numbers of a line that say its text, and whether it is special
pub record GoodLine (s : Said) : Type 0 where
  pub special : s.special ≤ 1
  pub text_place : s.text.place ≤ 1048576
  pub text_length : s.text.length ≤ 1048576

pub data EachGood : List Said → Type 0 where
  none : EachGood []
  more : {s : Said} {l : List Said} → GoodLine s → EachGood l → EachGood (s ∷ l)

-- the lines, behind `first` lines of other variables
pub record GoodLines (quantity : Bool) (first : ℕ) (l : List Said) : Type 0 where
  pub few : first + length l ≤ 4096
  pub limited : (i : ℕ) → i < length l → Limited quantity (number_at l i)
  pub differ : (i j : ℕ) → i < j → j < length l → eq_z (number_at l i) (number_at l j) ≡ false
  pub each : EachGood l

pub record GoodValues (quantity : Bool) (first : ℕ) (b : Block) (l : List Said) : Type 0 where
  pub block : GoodBlock quantity b
  pub lines : GoodLines quantity first l
  pub near : (i : ℕ) → i < length l → Near b (number_at l i)
  pub something : (b.ranged ≡ true) ⊎ (1 ≤ length l)
