-- What the columns of a good row give, fact by fact, and that they are all that is needed to look at its numbers.
use Rattle.std.specs.Prelude.{◌≡◌, refl, ◌⊎◌, Bool, true, false, ◌&&◌, ◌||◌, List, ℕ, ◌+◌, ◌≤◌, ℤ, length}
use Rattle.std.proofs.Common.{sym}
use Rattle.std.proofs.Math.Logic.{inl, inr, ⊎_elim}
use Rattle.std.specs.Bool.{beq}
use native.Mathlib.Omega.{arith}
use borrow.Author.Tests.{eqb-true, eqb-false, leb-true, ne_eqb}
use Rattle.std.proofs.Math.Dec.{eqb, leb}
use Rattle.below.specs.Below.{and_both, both_and, and_no, and_nor, and_yes, and_left, and_right, either_true, holds_not}
use Rattle.layout.specs.rule.Layout.{header_size, most_rows, most_lines, lines_base, line_base, header_of}
use Rattle.layout.specs.declared.Header.{Header}
use Rattle.layout.specs.rule.Row.{kind_of}
use Rattle.layout.specs.Row.{kind_cases}
use Rattle.layout.specs.declared.Columns.{Columns}
use Rattle.widths.specs.Width.{FewDecimals}
use Rattle.widths.specs.rule.Width.{decimals_of}
use Rattle.sound.specs.rule.Sound.{counts_good, subfields_good, places_good}
use Rattle.sound.specs.rule.Sound.{columns_good, row_good, mark_known, head_counts, head_sums, rows_good, idents_differ, well_formed}
use Rattle.uses.specs.rule.Uses.{kind_good}
use Rattle.sound.specs.Block.{Standing}

-- the clauses of a row's columns that the values of a row lean on
pub record ColumnFacts (e before : ℕ) (c : Columns) : Type 0 where
  pub type_low : 1 ≤ c.kind
  pub type_high : c.kind ≤ 5
  pub decimals : c.decimals ≤ 9
  pub point : c.point ≤ 2
  pub range : c.range ≤ 1
  pub plain : (c.decimals ≡ 0) ⊎ (1 ≤ c.point)
  pub shares : (c.point ≤ 1) ⊎ (1 ≤ c.decimals)
  pub given : (4 ≤ c.kind) ⊎ ((c.range ≡ 1) ⊎ (1 ≤ c.lines))
  pub lacked : (c.kind ≤ 3) ⊎ ((c.range ≡ 0) × (c.lines ≡ 0))
  pub from_one : 1 ≤ c.start
  pub ordered : c.start ≤ c.finish
  pub low : c.finish ≤ 16384
  pub subfields : beq (eqb c.subfields 0) (eqb c.subwidth 0) ≡ true
  pub lines_before_lem : c.before ≡ before
  pub lines_within : before + c.lines ≤ e

module _ (e before : ℕ) (c : Columns) (g : columns_good e before c ≡ true) where
  pub column_facts : ColumnFacts e before c
  unfolding columns_good counts_good places_good
  column_facts =
      let g4 = and_both g in
      let g3 = and_both g4.0 in
      let g1 = and_both (and_both g3.0).0 in
      let n7 = and_both g1.0 in
      let n6 = and_both n7.0 in
      let n5 = and_both n6.0 in
      let n4 = and_both n5.0 in
      let n3 = and_both n4.0 in
      let n2 = and_both n3.0 in
      let n1 = and_both n2.0 in
      let p3 = and_both g1.1 in
      let p2 = and_both p3.0 in
      let p1 = and_both p2.0 in
      record {
        type_low = leb-true 1 c.kind (and_left (leb 1 c.kind) (leb c.kind 5) n1.0);
        type_high = leb-true c.kind 5 (and_right (leb 1 c.kind) (leb c.kind 5) n1.0);
        decimals = leb-true c.decimals 9 n1.1;
        range = leb-true c.range 1 n2.1;
        point = leb-true c.point 2 n3.1;
        plain =
            ⊎_elim (λ x. inl (eqb-true c.decimals 0 x)) (λ x. inr (leb-true 1 c.point x))
            (either_true (eqb c.decimals 0) (leb 1 c.point) n5.1);
        shares =
            ⊎_elim (λ x. inl (leb-true c.point 1 x)) (λ x. inr (leb-true 1 c.decimals x))
            (either_true (leb c.point 1) (leb 1 c.decimals) n6.1);
        given =
            ⊎_elim (λ x. inl (leb-true 4 c.kind x))
            (λ x. inr (⊎_elim (λ y. inl (eqb-true c.range 1 y)) (λ y. inr (leb-true 1 c.lines y))
            (either_true (eqb c.range 1) (leb 1 c.lines) x)))
            (either_true (leb 4 c.kind) (eqb c.range 1 || leb 1 c.lines) n7.1);
        lacked =
            ⊎_elim (λ x. inl (leb-true c.kind 3 x))
            (λ x. inr (
              eqb-true c.range 0 (and_left (eqb c.range 0) (eqb c.lines 0) x),
              eqb-true c.lines 0
                  (and_right (eqb c.range 0) (eqb c.lines 0) x),
            ))
            (either_true (leb c.kind 3) (eqb c.range 0 && eqb c.lines 0)
            (and_right
            ((eqb c.kind 3 || eqb c.decimals 0 && eqb c.point 0)
            && (eqb c.kind 2 || eqb c.subfields 0 && eqb c.subwidth 0))
            (leb c.kind 3 || eqb c.range 0 && eqb c.lines 0)
            n4.1));
        from_one =
            leb-true 1 c.start
            (and_left (leb 1 c.start) (leb c.start c.finish)
            (and_left (leb 1 c.start && leb c.start c.finish) (leb c.finish 16384) p1.1));
        ordered =
            leb-true c.start c.finish
            (and_right (leb 1 c.start) (leb c.start c.finish)
            (and_left (leb 1 c.start && leb c.start c.finish) (leb c.finish 16384) p1.1));
        low = leb-true c.finish 16384 (and_right (leb 1 c.start && leb c.start c.finish) (leb c.finish 16384) p1.1);
        subfields = p2.1;
        lines_before_lem = eqb-true c.before before g3.1;
        lines_within = leb-true (before + c.lines) e g4.1;
      }

beq_false : (a b : Bool) → beq a b ≡ true → a ≡ false → b ≡ false
beq_false true b e f = holds_not refl f
beq_false false true e f = sym e
beq_false false false e f = refl

-- subfields have a width
pub paired_some : (c : Columns) → subfields_good c ≡ true → (c.subfields ≡ 0 → ⊥) → (1 ≤ c.subfields) × (1 ≤ c.subwidth)
paired_some c g s = (
  omega (arith, s),
  omega (
    arith,
    eqb-false c.subwidth 0 (beq_false (eqb c.subfields 0) (eqb c.subwidth 0) g (ne_eqb c.subfields 0 s)),
  ),
)

module _ (e before : ℕ) (c : Columns) (f : ColumnFacts e before c) where
  pub few_decimals : FewDecimals (kind_of c)
  unfolding decimals_of
  few_decimals =
      kind_cases c FewDecimals (λ k. record { few = omega arith }) (λ k s. record { few = omega arith })
      (λ k s. record { few = omega arith }) (λ k. record { few = f.decimals }) (λ k. record { few = omega arith })
      (record { few = omega arith })

  pub sub_some : (c.subfields ≡ 0 → ⊥) → (1 ≤ c.subfields) × (1 ≤ c.subwidth)
  sub_some s = paired_some c f.subfields s

-- a good row's lines lie within the table's
pub row_within : (t : List ℤ) (v e before : ℕ) (c : Columns) → row_good t v e before c ≡ true → before + c.lines ≤ e
unfolding row_good
row_within t v e before c g = (column_facts e before c (and_both g).0).lines_within

-- ---- what the header gives
pub head_few : (h : Header) → head_counts h ≡ true → (h.rows ≤ most_rows) × (h.lines ≤ most_lines)
head_few h e =
    let a = and_left (mark_known h && leb 1 h.rows && leb h.rows most_rows) (leb h.lines most_lines) e in (
      leb-true h.rows most_rows (and_right (mark_known h && leb 1 h.rows) (leb h.rows most_rows) a),
      leb-true h.lines most_lines
          (and_right (mark_known h && leb 1 h.rows && leb h.rows most_rows) (leb h.lines most_lines) e),
    )

pub head_some : (h : Header) → head_counts h ≡ true → 1 ≤ h.rows
head_some h e =
    leb-true 1 h.rows
    (and_right (mark_known h) (leb 1 h.rows)
    (and_left (mark_known h && leb 1 h.rows) (leb h.rows most_rows)
    (and_left (mark_known h && leb 1 h.rows && leb h.rows most_rows) (leb h.lines most_lines) e)))

pub head_standing : (t : List ℤ) (h : Header) → head_counts h ≡ true → head_sums h (length t) ≡ true → Standing t h.rows 0 h.lines
head_standing t h e f =
    let few = head_few h e in
    let long =
    leb-true (line_base h.rows h.lines) (length t)
    (and_right (eqb h.rows_at header_size && eqb h.lines_at (lines_base h.rows))
    (leb (line_base h.rows h.lines) (length t)) f) in
    record { few_rows = few.0; few_lines = omega arith; stand = omega arith }

-- the rows stand where their lines do
pub standing_rows : {t : List ℤ} {v e : ℕ} → Standing t v 0 e → Standing t v 0 0
standing_rows s = record { few_rows = s.few_rows; few_lines = omega arith; stand = omega arith }

-- ---- the test, clause after clause
module _ (t : List ℤ) where
  pub form_counts : head_counts (header_of t) ≡ false → well_formed t ≡ false
  unfolding well_formed
  form_counts e = and_no _ _ (and_no _ _ (and_no _ _ (and_no _ _ e)))

  pub form_sums : head_sums (header_of t) (length t) ≡ false → well_formed t ≡ false
  unfolding well_formed
  form_sums e = and_no _ _ (and_no _ _ (and_no _ _ (and_nor _ _ e)))

  pub form_rows : rows_good t (header_of t) ≡ false → well_formed t ≡ false
  unfolding well_formed
  form_rows e = and_no _ _ (and_no _ _ (and_nor _ _ e))

  pub form_idents : idents_differ t (header_of t).rows ≡ false → well_formed t ≡ false
  unfolding well_formed
  form_idents e = and_no _ _ (and_nor _ _ e)

  pub form_kind : head_counts (header_of t) ≡ true → head_sums (header_of t) (length t) ≡ true → rows_good t (header_of t) ≡ true
      → idents_differ t (header_of t).rows ≡ true
      → well_formed t ≡ kind_good t (header_of t)
  unfolding well_formed
  form_kind e f g h = and_yes _ _ (both_and (both_and (both_and e f) g) h)
