use mathlib.Core.Path.{sym, ◌∙◌}
use Rattle.xml_reading.specs.rule.Open.{within_element}
use Rattle.pairs.proofs.Stands.{close_long}
use Rattle.elements.proofs.Bounds.{start_within, shut_within}
use Rattle.elements.proofs.find_open.Goals as goal

pub shut_at-requires : goal.shut_at-requires
shut_at-requires c = let a = c.args in
    close_long a.bad a.d.now a.at _ _ (sym c.find_stand.ensures ∙ c.in-Close.is)

pub returns-in-Start : goal.returns-in-Start
unfolding within_element
returns-in-Start c =
    let a = c.args in
    let g = sym c.find_stand.ensures ∙ c.in-Start.is in
    (rw g, start_within a.bad a.d.now a.at _ _ g)

pub returns-in-Close : goal.returns-in-Close
unfolding within_element
returns-in-Close c =
    let a = c.args in
    let g = sym c.find_stand.ensures ∙ c.in-Close.is in
    (rw g c.shut_at.ensures, rw c.shut_at.ensures (shut_within a.bad a.d.now a.w.now a.at _ _ g))

pub returns-in-Foreign : goal.returns-in-Foreign
unfolding within_element
returns-in-Foreign c = (rw (sym c.find_stand.ensures ∙ c.in-Foreign.is), tt)

pub returns-in-Text : goal.returns-in-Text
unfolding within_element
returns-in-Text c = (rw (sym c.find_stand.ensures ∙ c.in-Text.is), tt)

pub returns-in-Broken : goal.returns-in-Broken
unfolding within_element
returns-in-Broken c = (rw (sym c.find_stand.ensures ∙ c.in-Broken.is), tt)
