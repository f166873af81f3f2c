use mathlib.Core.Path.{sym, ◌∙◌}
use native.Mathlib.Omega.{arith}
use mathlib.Core.List.{◌∷◌}
use Rattle.xml_reading.specs.rule.Word.{SPREAD}
use Rattle.xml_reading.specs.rule.Open.{unknown_at, nothing}
use Rattle.elements.proofs.Bodies.{passed_is, passed_refused, nothing_numbered, behind_found}
use Rattle.elements.proofs.spread_held.Goals as goal

pub pass_pair-requires : goal.pass_pair-requires
pass_pair-requires c = c.requires.1

pub share-requires : goal.share-requires
share-requires c = (
  c.requires.0,
  c.requires.2,
)

pub returns-in-Is : goal.returns-in-Is
returns-in-Is c =
    let a = c.args in
    let p = passed_is (nothing a.bad a.d.now SPREAD a.empty a.at)
    (sym c.pass_pair.ensures ∙ c.in-Is.is) in
    let h = nothing_numbered a.bad a.d.now SPREAD a.empty a.at p.reads in
    rw p.reads
    (c.share.ensures (unknown_at a.h.unknown ∷ p.charges) (omega arith, h)
    (behind_found a.h.unknown p.charges h p.found c.behind_tag-behind.ensures))

pub returns-in-Not : goal.returns-in-Not
returns-in-Not c =
    let a = c.args in
    rw (passed_refused (nothing a.bad a.d.now SPREAD a.empty a.at)
    (sym c.pass_pair.ensures ∙ c.in-Not.is))
