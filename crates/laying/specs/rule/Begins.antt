-- "more numbers are not looked at; a shorter table is 40": a table held against another by its first numbers.
use Rattle.std.specs.Prelude.{Bool, true, false, ◌&&◌, List, [], ◌∷◌, ℤ}
use Rattle.cells.specs.rule.Cell.{eq_z}

-- the numbers t begin with these
unfoldable pub begins_table : List ℤ → List ℤ → Bool
begins_table [] t = true
begins_table (x ∷ l) [] = false
begins_table (x ∷ l) (y ∷ t) = eq_z x y && begins_table l t
