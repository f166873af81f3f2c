-- Listing a part at a time: what each call is given and what it answers.
use Rattle.std.specs.Prelude.{◌≡◌, List, ℕ, ℤ}
use Rattle.ascii.specs.rule.Tens.{Tens}
use Rattle.layout.specs.declared.Header.{Header}
use Rattle.files.specs.rule.Tested.{Tested}

-- the powers of ten, a table that was tested, and a list with room for every set
pub record Ready (powers : List ℕ) (t : List ℤ) (h : Header) (size : ℕ) : Type 0 where
  pub tens : Tens powers
  pub tested : Tested t h
  pub list : size ≡ 9999
