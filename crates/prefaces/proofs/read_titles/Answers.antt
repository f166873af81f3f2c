use mathlib.Core.Path.{ap, ◌∙◌}
use Prim.Native.Nat.{ℕ}
use Rattle.reading.specs.rule.Result.{Result, bind}
use Rattle.xml_reading.specs.rule.Open.{Open, within_element}
use Rattle.xml_reading.specs.rule.Sheet.{perhaps_element, titles}
use Rattle.prefaces.specs.Code.{titled_of}
use Rattle.xml_reading.specs.rule.Word.{SURVEY, TITLE}
use Rattle.elements.specs.Code.{open_of, read_of}
use Rattle.xml_reading.specs.rule.Block.{rich}
use Rattle.prefaces.proofs.Binds.{within_first, opened_is, bind_bind}
use Rattle.prefaces.proofs.read_titles.Goals as goal

pub pass_names-names-requires : goal.pass_names-names-requires
pass_names-names-requires c = let a = c.args in
    within_first a.d.now a.at c.find_open-first.result c.find_open-first.ensures.1

pub returns : goal.returns
unfolding titles titled_of
returns c =
    let a = c.args in
    let b = a.bad in
    let d = a.d.now in
    let x = within_element b d SURVEY a.at in
    let p = perhaps_element b d SURVEY TITLE in
    let e1 = opened_is x c.find_open-first.ensures.0 in
    let e2 = opened_is _ c.pass_names-names.ensures.0
    ∙ ap (λ (y : Result Open). bind y (titled_of b d a.m.old)) e1 in (
      c.perhaps_text.ensures.0
          ∙ ap (λ (k : ℕ). open_of (bind (read_of c.pass_names-names.result) (p k)))
          c.title_mode-mode.ensures
          ∙ ap (λ (y : Result Open). open_of (bind y (p (rich a.m.languages)))) e2
          ∙ ap open_of (bind_bind x (titled_of b d a.m.old) (p (rich a.m.languages))),
      c.perhaps_text.ensures.1,
    )
