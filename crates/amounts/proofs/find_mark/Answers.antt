use mathlib.Core.Path.{sym, ap, ◌∙◌}
use Rattle.spans.specs.rule.Heard.{All}
use Rattle.spans.proofs.Hearing.{first_on}
use Rattle.amounts.proofs.Hears.{heard_first, heard_none, heard_ill, mark_there, mark_other, mark_none}
use Rattle.amounts.proofs.find_mark.Goals as goal

pub returns-then-code-mark : goal.returns-then-code-mark
returns-then-code-mark c =
    let args = c.args in (
      (first_on args.s.now args.at _ _ (sym c.next_char.ensures ∙ c.in-One.is)).1,
      λ cs h. let f = heard_first args.s.now args.at (sym c.next_char.ensures ∙ c.in-One.is)
          h in
          let m = mark_there args.mark f.split c.if-code-mark.true in (m.0, f.left ∙ ap All (sym m.1)),
    )

pub returns-else-code-mark : goal.returns-else-code-mark
returns-else-code-mark c = (
  c.requires,
  λ cs h. let f = heard_first c.args.s.now c.args.at
      (sym c.next_char.ensures ∙ c.in-One.is) h in
      let m = mark_other c.args.mark f.split c.if-code-mark.false in (m.0, h ∙ ap All (sym m.1)),
)

pub returns-in-End : goal.returns-in-End
returns-in-End c = (
  c.requires,
  λ cs h. let m = mark_none c.args.mark
      (heard_none c.args.s.now c.args.at
      (sym c.next_char.ensures ∙ c.in-End.is) h) in (m.0, h ∙ ap All (sym m.1)),
)

pub returns-in-Not : goal.returns-in-Not
returns-in-Not c = (
  c.requires,
  λ cs h. heard_ill c.args.s.now c.args.at
      (sym c.next_char.ensures ∙ c.in-Not.is) h,
)
