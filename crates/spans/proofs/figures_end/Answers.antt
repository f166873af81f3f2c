use mathlib.Core.Path.{sym, ap, ◌∙◌}
use Prim.Native.Nat.{ℕ}
use mathlib.Core.List.{[]}
use Rattle.spans.specs.rule.Heard.{All}
use Rattle.spans.specs.Figures.{figures_after}
use Rattle.spans.proofs.Numbers.{figures_some, figures_none}
use Rattle.spans.proofs.figures_end.Goals as goal

pub returns-then-count-eq0 : goal.returns-then-count-eq0
returns-then-count-eq0 c = let a = c.args in sym (ap (λ (k : ℕ). figures_after a.size k (All [])) c.if-count-eq0.true ∙ figures_none a.size)

pub returns : goal.returns
returns c = let a = c.args in sym (figures_some a.size a.count c.requires c.if-count-eq0.false)
