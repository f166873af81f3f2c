use mathlib.Core.Path.{ap, ◌∙◌}
use Rattle.reading.specs.rule.Result.{Result, bind}
use Rattle.xml_reading.specs.rule.Open.{Open}
use Rattle.xml_reading.specs.rule.Sheet.{perhaps_element}
use Rattle.prefaces.specs.Code.{titled_of}
use Rattle.xml_reading.specs.rule.Word.{SURVEY, NAME, VERSION}
use Rattle.elements.specs.Code.{open_of, read_of}
use Rattle.prefaces.proofs.Binds.{opened_is, bind_bind, old_names}
use Rattle.prefaces.proofs.pass_names.Goals as goal

pub returns-then-old : goal.returns-then-old
returns-then-old c = let a = c.args in (rw c.if-old.true (old_names a.bad a.d.now a.o), c.requires)

pub returns : goal.returns
unfolding titled_of
returns c =
    let a = c.args in
    let p = perhaps_element a.bad a.d.now SURVEY in
    let e = opened_is (bind (read_of a.o) (p NAME 0)) c.perhaps_text-name.ensures.0 in (
      rw c.if-old.false
          (c.perhaps_text.ensures.0 ∙ ap (λ (y : Result Open). open_of (bind y (p VERSION 0))) e
          ∙ ap open_of (bind_bind (read_of a.o) (p NAME 0) (p VERSION 0))),
      c.perhaps_text.ensures.1,
    )
