-- Comma-separated text read (document 02, C-23): "Read text of C-16's shape". Fields are parted by commas, CR LF ends every line. A field
-- stands in quotes, where a quote is written as two, or as it is, and then it holds no comma, quote, CR or LF. Anything else is malformed:
-- a
-- quote inside an unquoted field, anything but a comma or CR LF behind a closing quote, a CR or LF outside quotes that is not CR LF, quotes
-- that don't close, a text that ends within a line. 44 is the comma, 34 the quote, 13 CR, 10 LF. Beside it stands the grammar: csv_laws.
use Rattle.std.specs.Prelude.{cond, ◌||◌, List, [], ◌∷◌, ℕ, ◌+◌, eqb}

-- what is read: a field with a comma behind it and what follows, a field that ends its line and the lines behind it, nothing more, or a
-- field that is malformed
pub data Page : Type 0 where
  over : Page
  torn : Page
  more : List ℕ → Page → Page
  last : List ℕ → Page → Page

-- where the reader stands: where a line may start, where a field is due, in a field without quotes, behind a CR that ends a line, in
-- quotes, behind a quote that may close them
pub data PageMode : Type 0 where
  start : PageMode
  fresh : PageMode
  bare : PageMode
  ending : PageMode
  inside : PageMode
  closing : PageMode

-- what a byte does: it is no part of the field, it is one, it ends the field, it ends the line, it is malformed
pub data Step : Type 0 where
  skip : PageMode → Step
  keep : ℕ → PageMode → Step
  comma : Step
  ended : Step
  wrong : Step

unfoldable pub bare_step : ℕ → Step
bare_step b = cond (eqb b 44) comma (cond (eqb b 13) (skip ending) (cond (eqb b 34 || eqb b 10) wrong (keep b bare)))

unfoldable pub page_step : PageMode → ℕ → Step
page_step start b = cond (eqb b 34) (skip inside) (bare_step b)
page_step fresh b = cond (eqb b 34) (skip inside) (bare_step b)
page_step bare b = bare_step b
page_step ending b = cond (eqb b 10) ended wrong
page_step inside b = cond (eqb b 34) (skip closing) (keep b inside)
page_step closing b = cond (eqb b 34) (keep 34 inside) (cond (eqb b 44) comma (cond (eqb b 13) (skip ending) wrong))

-- a byte in front of the first field
unfoldable pub with_byte : ℕ → Page → Page
with_byte b over = over
with_byte b torn = torn
with_byte b (more f p) = more (b ∷ f) p
with_byte b (last f p) = last (b ∷ f) p

unfoldable pub taken : Step → (PageMode → Page) → Page
taken (skip m) k = k m
taken (keep b m) k = with_byte b (k m)
taken comma k = more [] (k fresh)
taken ended k = last [] (k start)
taken wrong k = torn

-- a text may end only where a line may start
unfoldable pub page_at_end : PageMode → Page
page_at_end start = over
page_at_end fresh = torn
page_at_end bare = torn
page_at_end ending = torn
page_at_end inside = torn
page_at_end closing = torn

-- WHAT IS READ from a text
unfoldable pub page : PageMode → List ℕ → Page
page m [] = page_at_end m
page m (b ∷ s) = taken (page_step m b) (λ m'. page m' s)

-- the lines of a text: its lines of fields, and then its end, or the column, from 1, of a malformed field in a line
pub data Lines : Type 0 where
  done : Lines
  broken : ℕ → Lines
  line : List (List ℕ) → Lines → Lines

unfoldable pub with_field : List ℕ → Lines → Lines
with_field f done = done
with_field f (broken c) = broken (c + 1)
with_field f (line fs ls) = line (f ∷ fs) ls

unfoldable pub page_lines : Page → Lines
page_lines over = done
page_lines torn = broken 1
page_lines (more f p) = with_field f (page_lines p)
page_lines (last f p) = line (f ∷ []) (page_lines p)
