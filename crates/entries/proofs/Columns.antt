-- The columns of a variable that was read: its kind, its numbers within the limits of the kind, and so all that measuring asks for.
use mathlib.Core.Path.{◌≡◌, refl, ap, ◌∙◌}
use mathlib.Core.Logic.{⊎_elim}
use mathlib.Core.Bool.{Bool, true, false, cond, not, ◌&&◌, ◌||◌}
use mathlib.Core.List.{List}
use Prim.Native.Nat.{ℕ, ◌+◌, ◌-◌, ◌*◌, ◌≤◌, ◌<◌}
use native.Mathlib.Omega.{arith}
use borrow.Author.Tests.{eqb-true}
use lib.Dec.{eqb}
use lib.IntN.{ℤ, pos}
use lib.ListN.{length}
use lib.Signed.{le_z}
use Rattle.below.specs.Below.{all_of, and_true}
use Rattle.cells.specs.rule.Cell.{cell, pasted}
use Rattle.layout.specs.rule.Row.{kind_of, row_of, spread_of}
use Rattle.layout.specs.Row.{kind_cases}
use Rattle.layout.specs.declared.Columns.{Columns}
use Rattle.layout.specs.declared.Kind.{Kind}
use Rattle.layout.specs.declared.Kind.TheVariants.{Single, Multiple, Quantity, Character, Logical}
use Rattle.widths.specs.rule.Width.{fits_kind, lowest, highest, decimals_of}
use Rattle.widths.specs.Width.{FewDecimals, size_within, size_fits}
use Rattle.sound.specs.rule.Sound.{range_good, values_fit}
use Rattle.sound.specs.Block.{Subfielded}
use Rattle.values.specs.Line.{number_at, cells_of}
use Rattle.values.specs.Good.{Limited, Near}
use Rattle.values.proofs.Rooms.{room_number, length_pasted, cells_length}
use Rattle.variables.specs.declared.Head.{Head}
use Rattle.variables.specs.Rest.{Telling}
use Rattle.measures.specs.Width.{flag_of, plain_columns}
use Rattle.measures.specs.Width.{number_in, Measurable}
use Rattle.measures.specs.Survey.{counted_in}
use Rattle.entries.specs.Entry.{GoodHead}
use Rattle.entries.specs.Good.{GoodTelling}

module _ (h : Head) (x : Telling) (before : ℕ) (g : GoodHead h) (s : GoodTelling h.kind before x) where
  abbrev pub plain : Columns
  plain = plain_columns h (counted_in before x) before

  -- a number within the limits of the type, nearer zero than 1 where the block's code is 2, fits the kind
  abbrev Fitting : Kind → Type 0
  Fitting k = (z : ℤ) → Limited (eqb h.kind 3) z → Near x.block z → fits_kind k z ≡ true

  category_fits : (k : Kind) → lowest k ≡ pos 1 → highest k ≡ pos 9999 → eqb h.kind 3 ≡ false → Fitting k
  category_fits k a b e z l n = let m = rw e at l in and_true (le_z (lowest k) z) (le_z z (highest k)) (rw a m.low) (rw b m.high)

  quantity_fits : eqb h.kind 3 ≡ true → Fitting (Quantity (record { decimals = x.block.decimals; point = x.block.point }))
  quantity_fits e z l n =
      let m = rw e at l in
      size_fits (record { decimals = x.block.decimals; point = x.block.point }) z (size_within z m.low m.high) n

  pub number_fits : Fitting (kind_of plain)
  unfolding kind_of plain_columns counted_in spread_of lowest highest
  number_fits = by (eqb h.kind 1) (eqb h.kind 2) (eqb h.kind 3) (eqb h.kind 4) refl refl refl where
    other : (n : ℕ) → h.kind ≡ n → eqb n 3 ≡ false → eqb h.kind 3 ≡ false
    other n e f = rw e f

    by : (p q r t : Bool) → eqb h.kind 1 ≡ p → eqb h.kind 2 ≡ q → eqb h.kind 3 ≡ r
        → Fitting (cond p Single (cond q (Multiple (spread_of x.subfields x.subwidth))
        (cond r (Quantity (record { decimals = x.block.decimals; point = x.block.point })) (cond t Character Logical))))
    by true q r t e f i = category_fits Single refl refl (other 1 (eqb-true h.kind 1 e) refl)
    by false true r t e f i = category_fits (Multiple (spread_of x.subfields x.subwidth)) refl refl
        (other 2 (eqb-true h.kind 2 f) refl)
    by false false true t e f i = quantity_fits i
    by false false false true e f i = category_fits Character refl refl i
    by false false false false e f i = category_fits Logical refl refl i

  pub few_decimals : FewDecimals (kind_of plain)
  unfolding decimals_of plain_columns counted_in
  few_decimals =
      kind_cases plain FewDecimals
      (λ e. record { few = omega arith }) (λ e f. record { few = omega arith }) (λ e f. record { few = omega arith })
      (λ e. record { few = s.block.few_decimals }) (λ e. record { few = omega arith }) (record { few = omega arith })

  pub subfielded : Subfielded (kind_of plain)
  unfolding plain_columns counted_in
  subfielded =
      kind_cases plain Subfielded (λ e. tt) (λ e f. tt)
      (λ e f. ⊎_elim (λ z. absurd (f z.0)) (λ z. (z.1, z.2)) s.subfields) (λ e. tt) (λ e. tt) tt

  -- the range and the lines
  pub range_fits : range_good (row_of plain) ≡ true
  unfolding row_of plain_columns counted_in flag_of
  range_fits = by x.block.ranged refl where
    by : (b : Bool) → x.block.ranged ≡ b → (not (eqb (flag_of b) 1)
        || (le_z x.block.from x.block.to && (fits_kind (kind_of plain) x.block.from && fits_kind (kind_of plain) x.block.to)))
        ≡ true
    by false e = refl
    by true e =
        and_true (le_z x.block.from x.block.to) (fits_kind (kind_of plain) x.block.from && fits_kind (kind_of plain) x.block.to)
        (s.block.ordered e)
        (and_true (fits_kind (kind_of plain) x.block.from) (fits_kind (kind_of plain) x.block.to)
        (number_fits x.block.from (s.block.from_limited e) (s.block.from_near e))
        (number_fits x.block.to (s.block.to_limited e) (s.block.to_near e)))

  pub lines_fit : (f : ℕ → ℤ) → ((i : ℕ) → i < length x.lines → f i ≡ number_at x.lines i)
      → values_fit (kind_of plain) f (length x.lines) ≡ true
  unfolding values_fit
  lines_fit f same = all_of (λ j. fits_kind (kind_of plain) (f j)) (length x.lines)
      (λ j l. rw (same j l) (number_fits (number_at x.lines j) (s.lines.limited j l) (s.near j l)))

  -- all that measuring asks for, where the lines stand in the room
  module _ (room : List ℤ) (stands : 4 * (before + length x.lines) ≤ length room) where
    abbrev pub filled : List ℤ
    filled = pasted room (4 * before) (cells_of x.lines)

    kept : length filled ≡ length room
    kept = length_pasted room (cells_of x.lines) (4 * before) (rw (cells_length x.lines) (omega (arith, stands)))

    -- the lines are counted by those before and behind them
    count : (before + length x.lines) - before ≡ length x.lines
    count = omega arith

    pub in_room : (i : ℕ) → i < length x.lines → number_in filled before i ≡ number_at x.lines i
    in_room i l =
        let e : 4 * before + 4 * i ≡ 4 * (before + i) = omega arith in
        ap (cell filled) e ∙ room_number room before x.lines stands i l

    pub measurable : Measurable filled h (counted_in before x) before
    unfolding row_of plain_columns counted_in
    measurable = record {
      rises = omega arith;
      ready = record {
        few = omega (arith, s.lines.few);
        stand = omega (arith, stands, kept);
        decimals = few_decimals;
        fits = ap (values_fit (kind_of plain) (number_in filled before)) count ∙ lines_fit (number_in filled before) in_room;
      };
      range = range_fits;
      from_one = g.from_one;
      ordered = g.ordered;
      low = g.low;
      subfields = subfielded;
      size = s.size;
    }
