-- `matrices::put_some` meets its contract: sixteen by their ones, or one from the bytes.
-- Assumes nothing.
use mathlib.Core.Path.{sym, ap, ◌∙◌}
use native.Mathlib.Omega.{arith}
use Rattle.little.specs.rule.Bytes.{put_at}
use Rattle.summary.specs.declared.Summary.{Summary}
use Rattle.matrix.specs.rule.Bytes.{summary_bytes}
use Rattle.matrices.specs.Summaries.{all_there, first_there, told_in, one_in, summary_plain}
use Rattle.matrices.proofs.put_some.Goals as goal

pub count_ones-b-requires : goal.count_ones-b-requires
count_ones-b-requires c =
    let a = c.args in record {
      step_bound = c.requires.columns_bound.0;
      all_there = all_there a.out.now a.columns a.flags a.values a.records a.left c.if-left-ge16.true c.requires.columns_there;
    }

pub returns-then-b : goal.returns-then-b
returns-then-b c =
    let a = c.args in (
      omega arith,
      c.if-left-ge16.true,
      c.put_told.ensures
          ∙ ap (put_at a.out.now a.at) (told_in c.count_ones-b.ensures
          c.if-b.true),
    )

pub column_summary-s-requires : goal.column_summary-s-requires
column_summary-s-requires c =
    let a = c.args in record {
      step_bound = c.requires.columns_bound.0;
      column_there = first_there a.out.now a.columns a.records a.left a.flags a.values c.requires.columns_bound.1 c.requires.columns_there;
    }

pub put_summary-requires : goal.put_summary-requires
put_summary-requires c =
    let a = c.args in
    let p = c.requires in record {
      at_in_bounds = omega (arith, p.columns_bound.1, p.columns_bound.2);
      t = rw c.column_summary-s.ensures (summary_plain a.out.now a.columns a.flags a.values a.records
          (first_there a.out.now a.columns a.records a.left a.flags a.values p.columns_bound.1 p.columns_there));
    }

pub returns : goal.returns
returns c =
    let a = c.args in (
      omega arith,
      c.requires.columns_bound.1,
      c.put_summary.ensures
          ∙ ap (λ (s : Summary). put_at a.out.now a.at (summary_bytes s)) c.column_summary-s.ensures
          ∙ ap (put_at a.out.now a.at) (sym (one_in a.out.now a.columns a.records a.flags a.values)),
    )
