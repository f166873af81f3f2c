use mathlib.Core.Path.{sym, ◌∙◌}
use native.Mathlib.Omega.{arith}
use Rattle.pairs.proofs.Stands.{close_long}
use Rattle.elements.proofs.Bounds.{start_within}
use Rattle.prefaces.proofs.Places.{foreign_in}
use Rattle.prefaces.proofs.root_at.Goals as goal

pub start_root-requires : goal.start_root-requires
start_root-requires c =
    let a = c.args in
    let w = start_within a.bad a.d.now a.at _ _
    (sym c.find_stand.ensures ∙ c.in-Start.is) in
    (omega (arith, w.1), w.2)

pub close_root-requires : goal.close_root-requires
close_root-requires c = let a = c.args in
    close_long a.bad a.d.now a.at _ _ (sym c.find_stand.ensures ∙ c.in-Close.is)

pub foreign_root-requires : goal.foreign_root-requires
foreign_root-requires c = let a = c.args in
    foreign_in a.bad a.d.now a.at _ (sym c.find_stand.ensures ∙ c.in-Foreign.is)

pub returns-in-Start : goal.returns-in-Start
returns-in-Start c = (
  rw (sym c.find_stand.ensures ∙ c.in-Start.is)
      c.start_root.ensures.0,
  c.start_root.ensures.1,
)

pub returns-in-Close : goal.returns-in-Close
returns-in-Close c = (
  rw (sym c.find_stand.ensures ∙ c.in-Close.is)
      c.close_root.ensures.0,
  c.close_root.ensures.1,
)

pub returns-in-Foreign : goal.returns-in-Foreign
returns-in-Foreign c = (
  rw (sym c.find_stand.ensures ∙ c.in-Foreign.is)
      c.foreign_root.ensures.0,
  c.foreign_root.ensures.1,
)

pub returns-in-Text : goal.returns-in-Text
returns-in-Text c = (rw (sym c.find_stand.ensures ∙ c.in-Text.is), tt)

pub returns-in-Broken : goal.returns-in-Broken
returns-in-Broken c = (rw (sym c.find_stand.ensures ∙ c.in-Broken.is), tt)
