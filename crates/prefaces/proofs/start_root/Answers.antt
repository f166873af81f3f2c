use mathlib.Core.Path.{sym, ap, ◌∙◌}
use Prim.Native.Nat.{ℕ}
use Rattle.elements.proofs.Dues.{missed}
use Rattle.elements.specs.declared.Due.TheVariants as dues
use Rattle.prefaces.proofs.start_root.Goals as goal

pub returns-then-is_named : goal.returns-then-is_named
returns-then-is_named c = (rw (sym c.is_named.ensures ∙ c.if-is_named.true), c.requires.1)

pub returns : goal.returns
returns c =
    let a = c.args in (
      rw (sym c.is_named.ensures ∙ c.if-is_named.false, missed a.bad a.d.now {A = ℕ} a.place a.end)
          (ap dues.Not c.misplaced.ensures),
      tt,
    )
