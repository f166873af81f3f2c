-- What the numbers of a row mean: types are 1 SINGLE, 2 MULTIPLE, 3 QUANTITY, 4 CHARACTER, 5 LOGICAL.
use Rattle.std.specs.Prelude.{cond, List, ℕ, eqb, ℤ}
use Rattle.layout.specs.rule.Layout.{row_base, columns_at}
use Rattle.layout.specs.declared.Columns.{Columns}
use Rattle.layout.specs.declared.Spread.{Spread}
use Rattle.layout.specs.declared.Spread.TheVariants.{Bits, Fields}
use Rattle.layout.specs.declared.Kind.{Kind}
use Rattle.layout.specs.declared.Kind.TheVariants.{Single, Multiple, Quantity, Character, Logical}
use Rattle.layout.specs.declared.Row.{Row}

-- subfields make a spread, none a bitstring
unfoldable pub spread_of : ℕ → ℕ → Spread
spread_of n w = cond (eqb n 0) Bits (Fields n w)

unfoldable pub kind_of : Columns → Kind
kind_of c =
    cond (eqb c.kind 1) Single
    (cond (eqb c.kind 2) (Multiple (spread_of c.subfields c.subwidth))
    (cond (eqb c.kind 3) (Quantity (record { decimals = c.decimals; point = c.point }))
    (cond (eqb c.kind 4) Character Logical)))

unfoldable pub row_of : Columns → Row
row_of c = record {
  ident = c.ident;
  kind = kind_of c;
  start = c.start;
  finish = c.finish;
  width = c.width;
  range = eqb c.range 1;
  from = c.from;
  to = c.to;
  before = c.before;
  lines = c.lines;
}

-- row i of a table
abbrev pub row_at : List ℤ → ℕ → Row
row_at t i = row_of (columns_at t (row_base i))
