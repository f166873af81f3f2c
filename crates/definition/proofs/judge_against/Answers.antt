use mathlib.Core.Path.{◌≡◌, refl, sym, ap, ◌∙◌}
use mathlib.Core.Bool.{true, false}
use native.Mathlib.Omega.{arith}
use lib.Dec.{ltb}
use lib.ListN.{length}
use borrow.Author.Tests.{lt-ltb, le-ltb}
use Rattle.layout.specs.rule.Layout.{line_base, most_rows, most_lines}
use Rattle.definition.specs.rule.Definition.{sss_outcome}
use Rattle.definition.specs.rule.Against.{sss_against}
use Rattle.definition.specs.Books.{Outcome, outcome_in}
use Rattle.laying.specs.Code.{zeros}
use Rattle.definition.proofs.Bridge.{held_in, against_same}
use Rattle.values.proofs.Rooms.{unless_full}
use Rattle.definition.proofs.Wholes.{none_lacking, rooms_fit, held_says}
use Rattle.definition.proofs.judge_against.Goals as goal

pub returns-then-d-gt1048576 : goal.returns-then-d-gt1048576
unfolding sss_against sss_outcome
returns-then-d-gt1048576 c =
    let e : ltb 1048576 (length c.args.d.now) ≡ true = lt-ltb _ _ c.if-d-gt1048576.true in
    rw e

pub read_in-requires : goal.read_in-requires
unfolding zeros
read_in-requires c = record {
  classes = c.classes-classes.ensures;
  tens = c.powers-powers.ensures;
  d_len_bound = c.if-d-gt1048576.false;
  marks_len = refl;
  seen_value = refl;
}

pub compare-requires : goal.compare-requires
compare-requires c =
    let w = unless_full c.read_in.ensures
    (none_lacking refl refl) in
    let s = w.stands c.in-Held.is in record {
      mark_le_mark_xml = omega arith;
      rows_le_most_rows = s.few;
      rows_in_bounds = rooms_fit _ _ _ _ s;
    }

pub returns-in-Held : goal.returns-in-Held
unfolding sss_against outcome_in
returns-in-Held c =
    let args = c.args in
    let t = args.t.now in
    let e : ltb 1048576 (length args.d.now) ≡ false = le-ltb _ _ c.if-d-gt1048576.false in
    let w = unless_full c.read_in.ensures
    (none_lacking refl refl) in
    let s = w.stands c.in-Held.is in
    rw (← against_same args.d.now (line_base most_rows most_lines) t) (rw e (c.compare.ensures ∙ held_says _ _ _ _ s t))

pub returns-in-Refused : goal.returns-in-Refused
unfolding sss_against outcome_in held_in
returns-in-Refused c =
    let args = c.args in
    let t = args.t.now in
    let e : ltb 1048576 (length args.d.now) ≡ false = le-ltb _ _ c.if-d-gt1048576.false in
    let w = unless_full c.read_in.ensures (none_lacking refl refl) in
    let q = w.refuses c.in-Refused.is (line_base most_rows most_lines) in
    rw (← against_same args.d.now (line_base most_rows most_lines) t) (rw e (sym (ap (λ (w : Outcome). held_in w t) q)))
