use mathlib.Core.Path.{refl}
use native.Mathlib.Omega.{arith}
use Rattle.pages.specs.Page.{line_text}
use Rattle.pages.specs.Law.{lines_done, lines_more}
use Rattle.pages.specs.Stand.{ran_none}
use Rattle.pages.proofs.send_next.Goals as goal

pub returns-then-k-ge4096 : goal.returns-then-k-ge4096
returns-then-k-ge4096 c = record {
  ran = ran_none _ _ _ _ _ _ c.requires.k_bound;
  count_value = λ h. absurd (omega arith);
}

pub returns-then-e : goal.returns-then-e
returns-then-e c = record {
  ran = record {
    text = line_text _ c.line_at-l.result;
    sent = c.send_line-p.ensures;
    is = rw c.past_values-next.ensures
        (lines_done _ _ _ (omega arith) _ c.line_at-l.ensures _ c.look_end-e.ensures c.if-e.true);
    more = omega arith;
    most = omega arith;
  };
  count_value = λ h. refl;
}

pub returns : goal.returns
returns c = record {
  ran = record {
    text = line_text _ c.line_at-l.result;
    sent = c.send_line-p.ensures;
    is = lines_more _ _ _ (omega arith) _ c.line_at-l.ensures _ c.look_end-e.ensures c.if-e.false;
    more = omega arith;
    most = omega arith;
  };
  count_value = λ h. refl;
}
