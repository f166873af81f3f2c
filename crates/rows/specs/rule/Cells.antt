-- A row as its twenty numbers, and a header as its six, in the order of their columns.
use Rattle.std.specs.Prelude.{List, [], ◌∷◌, ℤ, pos}
use Rattle.layout.specs.declared.Columns.{Columns}
use Rattle.layout.specs.declared.Header.{Header}

unfoldable pub row_cells : Columns → List ℤ
row_cells c =
    pos c.ident ∷ pos c.kind ∷ pos c.start ∷ pos c.finish ∷ pos c.width
    ∷ pos c.decimals ∷ pos c.point ∷ pos c.subfields ∷ pos c.subwidth
    ∷ pos c.range ∷ c.from ∷ c.to ∷ pos c.before ∷ pos c.lines
    ∷ pos c.name ∷ pos c.name_len ∷ pos c.label ∷ pos c.label_len ∷ pos c.usage ∷ pos c.filter ∷ []

unfoldable pub header_cells : Header → List ℤ
header_cells h =
    pos h.mark ∷ pos h.rows ∷ pos h.lines ∷ pos h.length ∷ pos h.rows_at ∷ pos h.lines_at ∷ []
