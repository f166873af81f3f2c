-- A table of another shape has another version: who changes the size of a row has to add a version here, or nothing is proved.
use Rattle.std.specs.Prelude.{◌≡◌, refl, cond, ℕ, eqb}
use Rattle.layout.specs.rule.Layout.{header_size, row_size, line_size}
use Rattle.zarfolin.specs.rule.Version.{version_number}

-- the numbers of a row under each version; of a header and a line there is one size so far
pub row_in : ℕ → ℕ
row_in v = cond (eqb v 1) 18 (cond (eqb v 2) 18 (cond (eqb v 3) 20 0))

pub version_row : row_in version_number ≡ row_size
unfolding row_in
version_row = refl

pub version_header : header_size ≡ 6
version_header = refl

pub version_line : line_size ≡ 4
version_line = refl
