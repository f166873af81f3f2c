-- `sound::well_formed` meets its contract: clause after clause, each on what those before it showed.
use mathlib.Core.Path.{◌≡◌, sym, ◌∙◌}
use mathlib.Core.Bool.{true}
use native.Mathlib.Omega.{arith}
use lib.ListN.{length}
use borrow.Author.Rules.{rules}
use Rattle.sound.specs.rule.Sound.{head_counts, head_sums}
use Rattle.sound.specs.Block.{Standing}
use Rattle.sound.specs.Given.{head_few, head_standing, standing_rows, form_counts, form_sums, form_rows, form_idents, form_kind}
use Rattle.sound.proofs.well_formed.Goals as goal
use Rattle.sound.proofs.well_formed.Goals.{Else-not-head_counts, Else-not-head_sums}

-- what the tests passed so far showed of the header read
counts : (c : Else-not-head_counts) → head_counts c.read-h.result ≡ true
counts c = sym c.head_counts.ensures ∙ c.if-not-head_counts.false

sums : (c : Else-not-head_sums) → head_sums c.read-h.result
    (length c.args.t.now) ≡ true
sums c = sym c.head_sums.ensures ∙ c.if-not-head_sums.false

standing : (c : Else-not-head_sums) → Standing c.args.t.now
    c.read-h.result.rows 0 c.read-h.result.lines
standing c = head_standing c.args.t.now c.read-h.result
    (counts (goal.at.Else-not-head_sums c).Else-not-head_counts) (sums c)

pub returns-then-not-head_counts : goal.returns-then-not-head_counts
returns-then-not-head_counts c = record {
  says = sym (form_counts _ (rw (← c.read-h.ensures)
      (sym c.head_counts.ensures ∙ c.if-not-head_counts.true)));
}

pub head_sums-requires : goal.head_sums-requires
head_sums-requires c = head_few c.read-h.result (counts c)

pub returns-then-not-head_sums : goal.returns-then-not-head_sums
returns-then-not-head_sums c = record {
  says = sym (form_sums _ (rw (← c.read-h.ensures)
      (sym c.head_sums.ensures ∙ c.if-not-head_sums.true)));
}

pub lines_low-low-requires : goal.lines_low-low-requires
lines_low-low-requires c = standing (goal.at.lines_low-low-requires c).Else-not-head_sums

pub rows_good-requires : goal.rows_good-requires
rows_good-requires c = record {
  tens = search rules;
  standing = standing (goal.at.rows_good-requires c).Else-not-head_sums;
  lines_value = c.lines_low-low.ensures;
}

pub returns-then-not-rows_good : goal.returns-then-not-rows_good
returns-then-not-rows_good c = record {
  says = sym (form_rows _ (rw (← c.read-h.ensures)
      (sym c.rows_good.ensures ∙ c.if-not-rows_good.true)));
}

pub idents_differ-requires : goal.idents_differ-requires
idents_differ-requires c = standing_rows (standing (goal.at.idents_differ-requires c).Else-not-head_sums)

pub returns-then-not-idents_differ : goal.returns-then-not-idents_differ
returns-then-not-idents_differ c = record {
  says = sym (form_idents _ (rw (← c.read-h.ensures)
      (sym c.idents_differ.ensures ∙ c.if-not-idents_differ.true)));
}

pub kind_good-requires : goal.kind_good-requires
kind_good-requires c =
    let s = standing (goal.at.kind_good-requires c).Else-not-head_sums in
    (s.few_rows, omega (arith, s.few_lines), omega (arith, s.stand))

pub returns : goal.returns
returns c =
    let e = c.read-h.ensures in
    record {
      says =
          c.kind_good.ensures
          ∙ rw e
          (sym (form_kind c.args.t.now
          (rw e at (counts (goal.at.returns c).Else-not-head_counts))
          (rw e at (sums (goal.at.returns c).Else-not-head_sums))
          (rw (← e) (sym c.rows_good.ensures ∙ c.if-not-rows_good.false))
          (rw (← e) (sym c.idents_differ.ensures ∙ c.if-not-idents_differ.false))));
    }
