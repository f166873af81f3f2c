-- What is known of a variable that was read, and of what stands behind its position. The theorem stands in proofs/Goods: `entry_good`.
use Rattle.std.specs.Prelude.{◌≡◌, ◌⊎◌, Bool, true, false, ℕ, ◌≤◌, ◌<◌, eqb, length}
use Rattle.layout.specs.rule.Layout.{most_rows}
use Rattle.values.specs.Good.{Near, GoodBlock, GoodLines}
use Rattle.values.specs.Line.{number_at}
use Rattle.variables.specs.Rest.{Telling}
use Rattle.measures.specs.Survey.{Variable}
use Rattle.measures.specs.Good.{GoodVariable}

-- of a variable of a type, before whose lines `first` others stand
pub record GoodTelling (kind first : ℕ) (x : Telling) : Type 0 where
  pub block : GoodBlock (eqb kind 3) x.block
  pub lines : GoodLines (eqb kind 3) first x.lines
  pub near : (i : ℕ) → i < length x.lines → Near x.block (number_at x.lines i)
  -- the types up to 3 have values, the others none
  pub something : kind ≤ 3 → (x.block.ranged ≡ true) ⊎ (1 ≤ length x.lines)
  pub nothing : 4 ≤ kind → (x.block.ranged ≡ false) × (length x.lines ≡ 0)
  -- only a MULTIPLE has subfields, and those have a width
  pub subfields : ((x.subfields ≡ 0) × (x.subwidth ≡ 0)) ⊎ ((kind ≡ 2) × (1 ≤ x.subfields) × (1 ≤ x.subwidth))
  pub size : x.size ≤ 4096
  pub sized : kind ≡ 4 → 1 ≤ x.size

-- of a variable behind `count` others with `before` lines, where `met` says of a number whether it is the ident of one of them
pub record EntryGood (met : ℕ → Bool) (count before : ℕ) (v : Variable) : Type 0 where
  pub good : GoodVariable before v
  pub fresh : met v.head.ident ≡ false
  pub left : count < most_rows
