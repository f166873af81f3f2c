use mathlib.Core.Path.{sym, ◌∙◌}
use native.Mathlib.Omega.{arith}
use Rattle.filters.proofs.Leads.{lead_is}
use Rattle.filters.proofs.same_from.Goals as goal

pub overflow_add-p : goal.overflow_add-p
overflow_add-p c = let x = lead_is _ _ _ _ _ c.in-Some.is c.lead_of.ensures in let i = x.first in
    let h = c.requires.0 in omega arith

pub overflow_add-q : goal.overflow_add-q
overflow_add-q c = let x = lead_is _ _ _ _ _ c.in-Some.is c.lead_of.ensures in let i = x.second in
    let h = c.requires.1 in omega arith

pub same_rest-requires : goal.same_rest-requires
same_rest-requires c =
    let x = lead_is _ _ _ _ _ c.in-Some.is c.lead_of.ensures in
    let i = x.first in
    let j = x.second in
    let h = c.requires.0 in
    let g = c.requires.1 in
    (omega arith, omega arith)

pub returns-in-Some : goal.returns-in-Some
returns-in-Some c = c.same_rest.ensures ∙ sym ((lead_is _ _ _ _ _ c.in-Some.is
    c.lead_of.ensures).says c.args.latin)

pub returns-in-None : goal.returns-in-None
returns-in-None c = sym ((lead_is _ _ _ _ _ c.in-None.is c.lead_of.ensures).says
    c.args.latin)
