-- Variables that are good do exist: a SINGLE of 1 and 12 on two lines, then a truth.
use Rattle.std.specs.Prelude.{◌≡◌, refl, true, false, List, [], ◌∷◌, ℕ, pos}
use Rattle.std.proofs.Common.{arith}
use Rattle.ascii.specs.rule.Tens.{count_from, digits_of}
use Rattle.below.specs.rule.Below.{◌and◌, all_below, max_below}
use Rattle.cells.specs.rule.Cell.{count_of, signed_of, eq_z, number_of}
use Rattle.layout.specs.rule.Layout.{line_at}
use Rattle.layout.specs.rule.Row.{row_of, kind_of}
use Rattle.widths.specs.rule.Width.{need, lowest, highest}
use Rattle.strides.specs.rule.Stride.{number_new, all_differ}
use Rattle.sound.specs.rule.Sound.{counts_good, places_good, values_fit, range_width, width_good, room_good}
use Rattle.tokens.specs.declared.Quoted.{Quoted}
use Rattle.values.specs.declared.Said.{Said}
use Rattle.values.specs.Line.{number_at, numbers, cells_of, line_cells}
use Rattle.values.specs.Value.{scaled_of}
use Rattle.variables.specs.declared.Head.{Head}
use Rattle.measures.specs.Width.{flag_of, plain_columns, widened, full_columns, lines_width, widest_of, width_of}
use Rattle.measures.specs.Survey.{Variable, counted_in, columns_in, holds_in, lines_all, ident_met, rows_from, all_lines, header_for}
use Rattle.measures.specs.Survey.{table_of}
use Rattle.measures.specs.Survey.{highest_in}
use Rattle.rows.specs.rule.Cells.{row_cells, header_cells}
use Rattle.measures.specs.Good.{GoodVariable, Good}
use Rattle.measures.specs.Good.{none, more}

abbrev text : ℕ → Quoted
text n = record { place = n; length = 3; next = n }

abbrev line : ℕ → Said
line n = record {
  value = record {
    minus = false;
    size = n;
    whole = 2;
    decimals = 0;
    point = false;
    formed = true;
    place = 0;
    first = 0;
    last = 2;
    next = 2;
  };
  text = text 80;
  special = 0;
  next = 0;
}

abbrev head : ℕ → ℕ → ℕ → ℕ → Head
head ident kind start finish = record {
  ident = ident;
  name = text 20;
  label = text 40;
  kind = kind;
  start = start;
  finish = finish;
  place = 0;
  next = 0;
}

abbrev variable : Head → List Said → Variable
variable h lines = record {
  head = h;
  rest = record {
    block = record { ranged = false; from = pos 0; to = pos 0; known = false; decimals = 0; point = 0 };
    lines = lines;
    subfields = 0;
    subwidth = 0;
    size = 0;
    next = 0;
  };
}

abbrev one : Variable
one = variable (head 1 1 1 2) (line 1 ∷ line 12 ∷ [])

abbrev two : Variable
two = variable (head 2 5 3 3) []

abbrev both : List Variable
both = one ∷ two ∷ []

both_good : GoodVariable 0 one × GoodVariable 2 two
unfolding counts_good places_good values_fit all_differ number_new range_width width_good room_good ◌and◌ all_below max_below count_of
    signed_of eq_z
    number_of line_at row_of kind_of need lowest highest digits_of count_from number_at numbers cells_of line_cells scaled_of flag_of
    plain_columns
    widened full_columns lines_width widest_of width_of counted_in columns_in holds_in lines_all ident_met
both_good = (
  record {
    counts = refl;
    places = refl;
    lacked = refl;
    range = refl;
    plain = refl;
    fits = refl;
    differ = refl;
    width = refl;
    holds = refl;
    few = omega arith;
  },
  record {
    counts = refl;
    places = refl;
    lacked = refl;
    range = refl;
    plain = refl;
    fits = refl;
    differ = refl;
    width = refl;
    holds = refl;
    few = omega arith;
  },
)

pub some_good : Good both
unfolding lines_all ident_met
some_good =
    more {l = one ∷ []} {v = two} (more {l = []} {v = one} none both_good.0 refl (omega arith)) both_good.1 refl (omega arith)

-- the table that they give
pub table_is : table_of both ≡
    pos 11 ∷ pos 2 ∷ pos 2 ∷ pos 3 ∷ pos 6 ∷ pos 46
    ∷ pos 1 ∷ pos 1 ∷ pos 1 ∷ pos 2 ∷ pos 2 ∷ pos 0 ∷ pos 0 ∷ pos 0 ∷ pos 0 ∷ pos 0 ∷ pos 0 ∷ pos 0 ∷ pos 0
    ∷ pos 2 ∷ pos 20 ∷ pos 3 ∷ pos 40 ∷ pos 3 ∷ pos 0 ∷ pos 0
    ∷ pos 2 ∷ pos 5 ∷ pos 3 ∷ pos 3 ∷ pos 1 ∷ pos 0 ∷ pos 0 ∷ pos 0 ∷ pos 0 ∷ pos 0 ∷ pos 0 ∷ pos 0 ∷ pos 2
    ∷ pos 0 ∷ pos 20 ∷ pos 3 ∷ pos 40 ∷ pos 3 ∷ pos 0 ∷ pos 0
    ∷ pos 1 ∷ pos 0 ∷ pos 80 ∷ pos 3
    ∷ pos 12 ∷ pos 0 ∷ pos 80 ∷ pos 3 ∷ []
unfolding counts_good places_good values_fit all_differ number_new range_width width_good room_good ◌and◌ all_below max_below count_of
    signed_of eq_z
    number_of line_at row_of kind_of need lowest highest digits_of count_from number_at numbers cells_of line_cells scaled_of flag_of
    plain_columns
    widened full_columns lines_width widest_of width_of counted_in columns_in holds_in lines_all ident_met table_of header_for header_cells
    rows_from
    row_cells all_lines highest_in
table_is = refl
