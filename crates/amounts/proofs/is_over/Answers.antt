use mathlib.Core.Path.{sym, ◌∙◌}
use lib.ListN.{length}
use native.Mathlib.Omega.{arith}
use Prim.Native.Nat.{suc}
use borrow.Author.Tests.{ne_eqb}
use Rattle.amounts.proofs.Hears.{heard_first, heard_none, heard_ill}
use Rattle.amounts.proofs.is_over.Goals as goal

pub returns-in-One : goal.returns-in-One
returns-in-One c = λ cs h. let f = heard_first c.args.s.now c.args.at
    (sym c.next_char.ensures ∙ c.in-One.is) h in
    rw (f.split, ne_eqb (suc (length f.rest)) 0 (λ q. omega arith))

pub returns-in-End : goal.returns-in-End
returns-in-End c = λ cs h. rw (heard_none c.args.s.now c.args.at
    (sym c.next_char.ensures ∙ c.in-End.is) h)

pub returns-in-Not : goal.returns-in-Not
returns-in-Not c = λ cs h. heard_ill c.args.s.now c.args.at
    (sym c.next_char.ensures ∙ c.in-Not.is) h
