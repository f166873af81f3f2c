-- What a well-formed table gives of each of its rows, so that nobody above tests or proves it again. The test behind refusal 20
-- supplies it; `len` is the table's least record length.
use Rattle.std.specs.Prelude.{◌≡◌, true, List, ℕ, ◌+◌, ◌*◌, ◌≤◌, ℤ, length}
use Rattle.std.specs.Int.Signed.{le_z}
use Rattle.layout.specs.rule.Layout.{most_rows, most_lines, line_base}
use Rattle.layout.specs.declared.Format.{Format}
use Rattle.layout.specs.declared.Spread.TheVariants.{Bits, Fields}
use Rattle.layout.specs.declared.Kind.{Kind}
use Rattle.layout.specs.declared.Kind.TheVariants.{Single, Multiple, Quantity, Character, Logical}
use Rattle.layout.specs.declared.Row.{Row}
use Rattle.widths.specs.rule.Width.{need, lowest, highest}
use Rattle.fields.specs.rule.Legal.{legal}

-- the row's lines stand in the table
pub record LineFacts (t : List ℤ) (v : ℕ) (r : Row) : Type 0 where
  pub few_rows : v ≤ most_rows
  pub few_lines : r.before + r.lines ≤ most_lines
  pub stand : line_base v (r.before + r.lines) ≤ length t

-- its position lies in the first len bytes
pub record PositionFacts (len : ℕ) (r : Row) : Type 0 where
  pub from_one : 1 ≤ r.start
  pub ordered : r.start ≤ r.finish
  pub inside : r.finish ≤ len
  pub low : len ≤ 16384

-- the position holds w bytes, of which there are at most `most`
pub record WidthFacts (most : ℕ) (r : Row) : Type 0 where
  pub some : 1 ≤ r.width
  pub few : r.width ≤ most
  pub room : r.start + r.width ≤ r.finish + 1

-- the position holds n subfields of b bytes, each of which holds w
pub record SpreadFacts (n b : ℕ) (r : Row) : Type 0 where
  pub some : 1 ≤ r.width
  pub few : r.width ≤ 4
  pub subfields : 1 ≤ n
  pub holds : r.width ≤ b
  pub room : r.start + n * b ≤ r.finish + 1

-- no decimals without a point, and no point code 2 without decimals
pub record QuantityFacts (f : Format) (r : Row) : Type 0 where
  pub decimals : f.decimals ≤ 9
  pub point : f.point ≤ 2
  pub plain : f.point ≡ 0 → f.decimals ≡ 0
  pub share : f.point ≡ 2 → 1 ≤ f.decimals
  pub width : WidthFacts 17 r

abbrev pub KindFacts : Kind → Row → Type 0
KindFacts Single r = WidthFacts 4 r
KindFacts (Multiple Bits) r = WidthFacts 9999 r
KindFacts (Multiple (Fields n b)) r = SpreadFacts n b r
KindFacts (Quantity f) r = QuantityFacts f r
KindFacts Character r = WidthFacts 4096 r
KindFacts Logical r = WidthFacts 1 r

pub record RowFacts (t : List ℤ) (v len : ℕ) (r : Row) : Type 0 where
  pub lines : LineFacts t v r
  pub position : PositionFacts len r
  pub kind : KindFacts r.kind r
  -- a legal number lies within the limits of its kind and takes at most w bytes
  pub least : (z : ℤ) → legal t v r z ≡ true → le_z (lowest r.kind) z ≡ true
  pub most : (z : ℤ) → legal t v r z ≡ true → le_z z (highest r.kind) ≡ true
  pub fits : (z : ℤ) → legal t v r z ≡ true → need r.kind z ≤ r.width
