-- `columns::put_near` meets its contract: its members marked, and one stretch.
-- Assumes nothing.
use mathlib.Core.Path.{◌≡◌, ap, ◌∙◌}
use Prim.Native.Nat.{ℕ, ◌+◌, ◌-◌}
use native.Mathlib.Omega.{arith}
use Rattle.matrix.specs.Put.{put_entries}
use Rattle.columns.specs.Ones.{in_list, stretch_from}
use Rattle.columns.proofs.put_near.Goals as goal

pub returns : goal.returns
returns c =
    let a = c.args in
    let e : a.m.count + 1 - 1 ≡ a.m.count = omega arith in (
      c.put_stretch.ensures
          ∙ ap (λ (k : ℕ). put_entries a.out.now a.flags a.values (stretch_from a.there (in_list a.list.now a.n) 1 k)) e,
      c.mark_members.ensures,
    )
