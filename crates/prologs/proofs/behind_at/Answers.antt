use mathlib.Core.Path.{sym, ◌∙◌}
use Rattle.prologs.specs.rule.Form.{white, bracket, external}
use Rattle.prologs.proofs.Steps.{tell_white, white_miss, tell_bracket, bracket_open}
use Rattle.prologs.proofs.behind_at.Goals as goal

pub returns-then-is_there : goal.returns-then-is_there
returns-then-is_there c = sym (bracket_open c.args.bad c.args.d.now
    c.args.opened (white (bracket external)) c.args.latin
    c.args.at (sym c.is_there.ensures ∙ c.if-is_there.true))

pub returns-then-n-at : goal.returns-then-n-at
returns-then-n-at c =
    let args = c.args in
    c.miss.ensures ∙ sym (tell_bracket args.bad args.d.now args.opened (white (bracket external)) args.latin args.at
    (sym c.is_there.ensures ∙ c.if-is_there.false) ∙ white_miss args.bad args.d.now
    args.opened (bracket external) args.latin args.at c.run-n.ensures.0 c.if-n-at.true)

pub returns-then-is_there-2 : goal.returns-then-is_there-2
returns-then-is_there-2 c =
    let args = c.args in
    sym (tell_bracket args.bad args.d.now args.opened (white (bracket external)) args.latin args.at
    (sym c.is_there.ensures ∙ c.if-is_there.false) ∙ tell_white args.bad args.d.now
    args.opened (bracket external) args.latin args.at c.run-n.ensures.0 c.if-n-at.false
    ∙ bracket_open args.bad args.d.now args.opened external args.latin
    c.run-n.result (sym c.is_there-2.ensures ∙ c.if-is_there-2.true))

pub returns : goal.returns
returns c =
    let args = c.args in
    c.external_at.ensures ∙ sym (tell_bracket args.bad args.d.now args.opened (white (bracket external)) args.latin
    args.at (sym c.is_there.ensures ∙ c.if-is_there.false) ∙ tell_white args.bad args.d.now
    args.opened (bracket external) args.latin args.at c.run-n.ensures.0 c.if-n-at.false
    ∙ tell_bracket args.bad args.d.now args.opened external args.latin
    c.run-n.result (sym c.is_there-2.ensures ∙ c.if-is_there-2.false))
