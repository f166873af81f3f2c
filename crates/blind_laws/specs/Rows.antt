-- Of two tables that are alike, rows and the values on their lines are the same.
use Rattle.std.specs.Prelude.{◌≡◌, refl, Bool, true, ◌||◌, List, ℕ, zero, suc, ◌+◌, ◌<◌, ℤ}
use Rattle.std.proofs.Common.{ap, arith}
use Rattle.std.proofs.Math.Path.{fun_ext}
use Rattle.below.specs.rule.Below.{any_below}
use Rattle.below.specs.Below.{and_both, all_at_lem}
use Rattle.cells.specs.rule.Cell.{eq_z}
use Rattle.layout.specs.rule.Layout.{header_of, columns_at}
use Rattle.layout.specs.rule.Row.{kind_of, spread_of, row_of, row_at}
use Rattle.layout.specs.declared.Row.{Row}
use Rattle.fields.specs.rule.Legal.{line_value, in_range, on_line, legal}
use Rattle.sound.specs.rule.Sound.{columns_of, lines_before, good_at, row_good, rows_good, well_formed}
use Rattle.sound.specs.rule.Rows.{rows_of, length_of}
use Rattle.sound.specs.Given.{ColumnFacts, column_facts}
use Rattle.sound.specs.Rows.{parts}
use Rattle.blind_laws.specs.rule.Blind.{Alike}

any_same : (n : ℕ) (f g : ℕ → Bool) → ((k : ℕ) → k < n → f k ≡ g k) → any_below n f ≡ any_below n g
unfolding any_below
any_same zero f g same = refl
any_same (suc n) f g same = rw (any_same n f g (λ k h. same k (omega arith)), same n (omega arith))

-- which numbers a row allows goes by its own lines alone
pub legal_same : (t u : List ℤ) (v : ℕ) (r : Row) → ((k : ℕ) → k < r.lines → line_value t v r k ≡ line_value u v r k)
    → legal t v r ≡ legal u v r
unfolding legal on_line
legal_same t u v r same =
    fun_ext (λ z. ap (λ (b : Bool). in_range r z || b)
    (any_same r.lines (λ k. eq_z (line_value t v r k) z) (λ k. eq_z (line_value u v r k) z) (λ k h. rw (same k h))))

module _ (t u : List ℤ) (g : well_formed t ≡ true) (s : Alike t u) where
  pub rows_same : rows_of t ≡ rows_of u
  unfolding header_of
  rows_same = rw (s.header 1 (omega arith) (omega arith))

  pub length_same : length_of t ≡ length_of u
  unfolding header_of
  length_same = rw (s.header 3 (omega arith) (omega arith))

  module _ (i : ℕ) (l : i < rows_of t) where
    -- use and filter are no part of what a row's numbers mean
    pub row_same : row_at t i ≡ row_at u i
    unfolding row_of kind_of spread_of columns_at
    row_same =
        rw (
          s.row i 0 l (omega arith),
          s.row i 1 l (omega arith),
          s.row i 2 l (omega arith),
          s.row i 3 l (omega arith),
          s.row i 4 l (omega arith),
          s.row i 5 l (omega arith),
          s.row i 6 l (omega arith),
        )
        (rw (
          s.row i 7 l (omega arith),
          s.row i 8 l (omega arith),
          s.row i 9 l (omega arith),
          s.row i 10 l (omega arith),
          s.row i 11 l (omega arith),
          s.row i 12 l (omega arith),
          s.row i 13 l (omega arith),
        ))

    row_good_lem : row_good t (rows_of t) (header_of t).lines (lines_before t i) (columns_of t i) ≡ true
    unfolding rows_good
    row_good_lem = all_at_lem (good_at t (rows_of t) (header_of t).lines) (rows_of t) i l (and_both (and_both (parts t g).rows).0).0

    facts : ColumnFacts (header_of t).lines (lines_before t i) (columns_of t i)
    unfolding row_good
    facts = column_facts (header_of t).lines (lines_before t i) (columns_of t i) (and_both row_good_lem).0

    within : (k : ℕ) → k < (row_at t i).lines → (row_at t i).before + k < (header_of t).lines
    unfolding row_of
    within k h = omega (arith, facts.lines_before_lem, facts.lines_within)

    pub allowed_same : legal t (rows_of t) (row_at t i) ≡ legal u (rows_of t) (row_at t i)
    allowed_same = legal_same t u (rows_of t) (row_at t i) (λ k h. s.line ((row_at t i).before + k) (within k h))
