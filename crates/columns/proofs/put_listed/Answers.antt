-- `columns::put_listed` meets its contract: the marks of the row, and the list, give its categories' entries.
-- Assumes nothing.
use mathlib.Core.Path.{refl, sym, ap, ◌∙◌}
use mathlib.Core.List.{List}
use native.Mathlib.Omega.{arith}
use Rattle.below.specs.Below.{holds_not}
use Rattle.fields.specs.rule.Row.{reading_of}
use Rattle.fields.specs.rule.Legal.{legal}
use Rattle.matrix.specs.declared.Entry.{Entry}
use Rattle.matrix.specs.Put.{put_entries}
use Rattle.columns.specs.Marked.{defined_few}
use Rattle.columns.specs.Near.{near_put, near_made, far_made, count_any}
use Rattle.columns.specs.Listed.{Lists}
use Rattle.columns.proofs.put_listed.Goals as goal
use Rattle.columns.proofs.put_listed.Goals.{After-is_some-there}

-- what the list holds, as it is taken apart
held : (c : After-is_some-there) → let a = c.args in
    Lists (reading_of a.t.now a.rows a.row a.bytes.now) a.list.now c.unwrap_or-n.result c.is_some-there.result
held c = rw (c.unwrap_or-n.ensures, c.is_some-there.ensures) c.requires.lists

pub put_near-requires : goal.put_near-requires
put_near-requires c =
    let a = c.args in
    let p = c.requires in
    let m = p.marked_set.0 in record {
      n_in_bounds = (
        (held (goal.at.put_near-requires c).After-is_some-there).few,
        omega (arith, p.marked_set.1, m.covered.few),
        omega (arith, m.many, defined_few (legal a.t.now a.rows a.row) 1 9999),
      );
      room = p.room;
    }

pub returns-then-all_before : goal.returns-then-all_before
returns-then-all_before c =
    let put = c.put_near in
    let a = c.args in
    let p = c.requires in
    let m = p.marked_set.0 in
    let none = c.all_before.ensures
    c.if-all_before.true in (
      put.ensures.0
          ∙ ap (λ (es : List Entry). put_entries a.out.now a.flags a.values es)
          (sym (near_made m (held (goal.at.returns-then-all_before c).After-is_some-there) none)),
      λ e. near_put m (held (goal.at.returns-then-all_before c).After-is_some-there) none p.marked_set.1 put.ensures.1,
    )

pub put_far-requires : goal.put_far-requires
put_far-requires c =
    let p = c.requires in
    let m = p.marked_set.0 in record {
      n_in_bounds = ((held (goal.at.put_far-requires c).After-is_some-there).few, p.marked_set.1, m.covered.few);
      marked = (m.run, count_any m (held (goal.at.put_far-requires c).After-is_some-there));
      room = p.room;
    }

pub returns : goal.returns
returns c =
    let put = c.put_far in
    let a = c.args in
    let p = c.requires in (
      put.ensures.2
          ∙ ap (λ (es : List Entry). put_entries a.out.now a.flags a.values es)
          (far_made p.marked_set.0 (held (goal.at.returns c).After-is_some-there) (put.ensures.0 ∙ p.marked_set.1) put.ensures.1),
      λ e. holds_not e refl,
    )

pub all_before-requires : goal.all_before-requires
all_before-requires c = (held c).few
