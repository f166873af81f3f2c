use mathlib.Core.Path.{◌≡◌, refl, sym, ap, ◌∙◌}
use mathlib.Core.Bool.{false}
use native.Mathlib.Omega.{arith}
use lib.Dec.{ltb}
use lib.ListN.{length}
use borrow.Author.Tests.{le-ltb}
use Rattle.layout.specs.rule.Layout.{line_base, most_rows, most_lines}
use Rattle.values.specs.Room.{holds}
use Rattle.values.proofs.Rooms.{unless_on, unless_told}
use Rattle.laying.specs.Code.{zeros}
use Rattle.definition.specs.rule.Against.{sss_against}
use Rattle.definition.specs.Books.{Outcome, outcome_in}
use Rattle.definition.proofs.Bridge.{held_in, against_same}
use Rattle.definition.proofs.Wholes.{rooms_fit, held_says}
use Rattle.bridge.specs.Lowest.{never}
use Rattle.clean.specs.Law.{refused_against}
use Rattle.clean.proofs.judge_few.Goals as goal

pub read_in-requires : goal.read_in-requires
unfolding zeros
read_in-requires c = record {
  classes = c.classes-classes.ensures;
  tens = c.powers-powers.ensures;
  d_len_bound = c.requires;
  marks_len = refl;
  seen_value = refl;
}

pub compare-requires : goal.compare-requires
compare-requires c =
    let g = c.in-Held.is in
    let w = unless_told c.read_in.ensures
    (λ s. let q = sym s ∙ g in never cc) in
    let s = w.stands g in record {
      mark_le_mark_xml = omega arith;
      rows_le_most_rows = s.few;
      rows_in_bounds = rooms_fit _ _ _ _ s;
    }

pub returns-in-Held : goal.returns-in-Held
unfolding sss_against outcome_in
returns-in-Held c =
    let args = c.args in
    let t = args.t.now in
    let e : ltb 1048576 (length args.d.now) ≡ false = le-ltb _ _ c.requires in
    let g = c.in-Held.is in
    let w = unless_told c.read_in.ensures
    (λ s. let q = sym s ∙ g in never cc) in
    holds (rw (← against_same args.d.now (line_base most_rows most_lines) t)
    (rw e (c.compare.ensures ∙ held_says _ _ _ _ (w.stands g) t)))

pub returns-in-Refused : goal.returns-in-Refused
unfolding sss_against outcome_in held_in
returns-in-Refused c =
    let args = c.args in
    let t = args.t.now in
    let e : ltb 1048576 (length args.d.now) ≡ false = le-ltb _ _ c.requires in
    let g = c.in-Refused.is in
    unless_on (λ s. refused_against (sym g ∙ s)) (λ l. tt)
    (λ w.
    let q = w.refuses g (line_base most_rows most_lines) in
    rw (← against_same args.d.now (line_base most_rows most_lines) t) (rw e (sym (ap (λ (w : Outcome). held_in w t) q))))
    c.read_in.ensures
