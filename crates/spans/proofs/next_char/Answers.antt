use mathlib.Core.Path.{sym}
use lib.ListN.{length}
use native.Mathlib.Omega.{arith}
use borrow.Author.Tests.{ne_eqb, le-leb, lt-leb}
use Rattle.spans.specs.rule.Heard.{part_of}
use Rattle.spans.proofs.Hearing.{first_stop}
use Rattle.spans.proofs.next_char.Goals as goal

pub returns-then-s-at : goal.returns-then-s-at
unfolding part_of
returns-then-s-at c = let a = c.args in sym
    (first_stop a.s.now a.at _ (rw (le-leb (length a.s.now) a.at (omega arith))))

pub returns-then-b-eq38 : goal.returns-then-b-eq38
returns-then-b-eq38 c = c.marked_char.ensures

pub returns-then-b-eq60 : goal.returns-then-b-eq60
returns-then-b-eq60 c = c.marked_char-then-b-eq60.ensures

pub returns : goal.returns
unfolding part_of
returns c =
    let a = c.args in
    sym (first_stop a.s.now a.at _ (rw (
      lt-leb (length a.s.now) a.at (omega arith),
      ne_eqb _ 38 c.if-b-eq38.false,
      ne_eqb _ 60 c.if-b-eq60.false,
    )))
