-- "The same table apart from text places and lengths": a table with those numbers set to 0. In a row they are the columns 14 to 17 (place
-- and length of the name, place and length of the label), in a line the last two of its four.
use Rattle.std.specs.Prelude.{List, [], ◌∷◌, ◌++◌, ℕ, zero, suc, ℤ, pos, take, drop}
use Rattle.layout.specs.rule.Layout.{header_size, row_size, header_of}

unfoldable pub masked_lines : List ℤ → List ℤ
masked_lines [] = []
masked_lines (v ∷ []) = v ∷ []
masked_lines (v ∷ s ∷ []) = v ∷ s ∷ []
masked_lines (v ∷ s ∷ a ∷ []) = v ∷ s ∷ pos 0 ∷ []
masked_lines (v ∷ s ∷ a ∷ n ∷ t) = v ∷ s ∷ pos 0 ∷ pos 0 ∷ masked_lines t

unfoldable pub masked_row : List ℤ → List ℤ
masked_row r = take 14 r ++ (pos 0 ∷ pos 0 ∷ pos 0 ∷ pos 0 ∷ drop 18 r)

-- so many rows, and lines behind them
unfoldable pub masked_rows : ℕ → List ℤ → List ℤ
masked_rows zero t = masked_lines t
masked_rows (suc n) t = masked_row (take row_size t) ++ masked_rows n (drop row_size t)

unfoldable pub masked : List ℤ → List ℤ
masked t = take header_size t ++ masked_rows (header_of t).rows (drop header_size t)
