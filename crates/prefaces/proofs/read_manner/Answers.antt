use mathlib.Core.Path.{sym, ◌∙◌}
use Rattle.xml_reading.specs.rule.Sheet.{manner}
use Rattle.xml_reading.specs.rule.Word.{VERSION, OPTIONS, LANGUAGES}
use Rattle.prefaces.proofs.Places.{manner_read, manner_in}
use Rattle.elements.proofs.Tags.{tag_tells, first_there}
use Rattle.prefaces.proofs.read_manner.Goals as goal

pub says_word-old-requires : goal.says_word-old-requires
says_word-old-requires c =
    let a = c.args in
    let t = tag_tells a.d.now 0 6 0 a.bad a.opened a.at VERSION OPTIONS LANGUAGES 1
    (sym c.root_tag.ensures ∙ c.in-Read.is) in
    let s = first_there a.d.now 0 6 0 t in
    (s.ends, s.within)

pub says_word-new-requires : goal.says_word-new-requires
says_word-new-requires c =
    let a = c.args in
    let t = tag_tells a.d.now 0 6 0 a.bad a.opened a.at VERSION OPTIONS LANGUAGES 1
    (sym c.root_tag.ensures ∙ c.in-Read.is) in
    let s = first_there a.d.now 0 6 0 t in
    (s.ends, s.within)

pub returns-in-Read : goal.returns-in-Read
returns-in-Read c =
    let a = c.args in
    let e = sym c.root_tag.ensures ∙ c.in-Read.is in (
      rw (
        manner_read a.bad a.d.now a.latin a.opened a.at e,
        sym c.says_word-old.ensures,
        sym c.says_word-new.ensures,
      ) c.judge_manner.ensures,
      rw c.judge_manner.ensures (manner_in a.d.now _ _ _ _ _ _ _
          (tag_tells a.d.now 0 6 0 a.bad a.opened a.at VERSION OPTIONS LANGUAGES 1 e).next),
    )

pub returns-in-Fault : goal.returns-in-Fault
unfolding manner
returns-in-Fault c = (rw (sym c.root_tag.ensures ∙ c.in-Fault.is), tt)
