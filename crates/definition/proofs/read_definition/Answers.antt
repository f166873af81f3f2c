use mathlib.Core.Path.{◌≡◌, refl, sym, ap, ◌∙◌}
use mathlib.Core.Bool.{true, false}
use native.Mathlib.Omega.{arith}
use lib.Dec.{ltb}
use lib.ListN.{length}
use borrow.Author.Tests.{lt-ltb, le-ltb}
use Rattle.definition.specs.rule.Definition.{sss_outcome, sss_answer, sss_table_after}
use Rattle.definition.specs.Books.{Outcome, outcome_in, answer_in, table_in}
use Rattle.definition.proofs.Bridge.{answer_same, table_same}
use Rattle.laying.specs.Code.{zeros}
use Rattle.values.proofs.Rooms.{unless_full}
use Rattle.definition.proofs.Wholes.{none_lacking, rooms_fit, filled_says, filled_leaves}
use Rattle.definition.proofs.read_definition.Goals as goal

pub returns-then-d-gt1048576 : goal.returns-then-d-gt1048576
unfolding sss_outcome sss_answer sss_table_after
returns-then-d-gt1048576 c =
    let e : ltb 1048576 (length c.args.d.now) ≡ true = lt-ltb _ _ c.if-d-gt1048576.true in
    record { says = rw e; leaves = rw e }

pub read_in-requires : goal.read_in-requires
unfolding zeros
read_in-requires c = record {
  classes = c.classes-classes.ensures;
  tens = c.powers-powers.ensures;
  d_len_bound = c.if-d-gt1048576.false;
  marks_len = refl;
  seen_value = refl;
}

pub fill-requires : goal.fill-requires
fill-requires c =
    let w = unless_full c.read_in.ensures
    (none_lacking refl refl) in
    let s = w.stands c.in-Held.is in record {
      mark_le_mark_xml = omega arith;
      rows_le_most_rows = s.few;
      rows_in_bounds = rooms_fit _ _ _ _ s;
    }

pub returns-in-Held : goal.returns-in-Held
unfolding outcome_in
returns-in-Held c =
    let args = c.args in
    let t = args.table.now in
    let e : ltb 1048576 (length args.d.now) ≡ false = le-ltb _ _ c.if-d-gt1048576.false in
    let w = unless_full
    c.read_in.ensures
    (none_lacking refl refl) in
    let s = w.stands c.in-Held.is in
    let q = c.fill.ensures in
    record {
      says = rw (← answer_same _ _) (rw e (q.value ∙ filled_says _ _ _ _ s t));
      leaves = rw (← table_same _ _ _) (rw e (q.table_after ∙ filled_leaves _ _ _ _ s t));
    }

pub returns-in-Refused : goal.returns-in-Refused
unfolding outcome_in answer_in table_in
returns-in-Refused c =
    let args = c.args in
    let t = args.table.now in
    let e : ltb 1048576 (length args.d.now) ≡ false = le-ltb _ _ c.if-d-gt1048576.false in
    let w = unless_full c.read_in.ensures (none_lacking refl refl) in
    let q = w.refuses c.in-Refused.is (length t) in
    record {
      says = rw (← answer_same _ _) (rw e (sym (ap answer_in q)));
      leaves = rw (← table_same _ _ _) (rw e (sym (ap (λ (w : Outcome). table_in w t) q)));
    }
