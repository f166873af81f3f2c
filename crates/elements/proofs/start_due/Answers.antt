use mathlib.Core.Path.{sym, ap, ◌∙◌}
use native.Mathlib.Omega.{arith}
use Rattle.elements.specs.Code.{due_of}
use Rattle.elements.specs.declared.Due.TheVariants as due
use Rattle.tokens.specs.declared.Fault.{Fault}
use Rattle.elements.proofs.Dues.{missed}
use Rattle.elements.proofs.start_due.Goals as goal

pub overflow_add-place : goal.overflow_add-place
overflow_add-place c = omega (arith, c.requires.0, c.requires.1)

pub is_named-requires : goal.is_named-requires
is_named-requires c = (omega (arith, c.requires.0), c.requires.1)

pub returns-then-is_named : goal.returns-then-is_named
returns-then-is_named c = rw (sym c.is_named.ensures ∙ c.if-is_named.true)

pub misplaced-requires : goal.misplaced-requires
misplaced-requires c = c.requires.1

pub returns : goal.returns
returns c =
    let a = c.args in
    rw (sym c.is_named.ensures ∙ c.if-is_named.false)
    (ap (λ (f : Fault). due.Not f) c.misplaced.ensures ∙ sym (ap due_of (missed a.bad a.d.now a.place a.end)))
