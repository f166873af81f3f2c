use Rattle.sheets.proofs.Rows9.{knows, front_given, joined, unjoined}
use Rattle.sheets.proofs.variable_at.Goals as goal

pub front_at-requires : goal.front_at-requires
front_at-requires c = let p = c.requires in record {
  end_in_bounds = (p.d_len_bound.1, p.d_len_bound.2.sofar.seen_long);
  known = knows p.d_len_bound.2;
}

pub body_at-requires : goal.body_at-requires
body_at-requires c =
    let p = c.requires in
    let a = c.args in record {
      tens = p.tens;
      d_len_bound = (p.d_len_bound.0, p.d_len_bound.2);
      lines_len = p.lines_len;
      front_ends = rw c.in-Is.is at c.front_at.ensures.ends;
      front_read = λ l b. (front_given _ _ _ _ a.y _ _ _ _ _ _ _ c.front_at.ensures c.in-Is.is l b).read;
    }

pub returns-in-Is : goal.returns-in-Is
returns-in-Is c =
    let a = c.args in
    joined _ _ _ _ a.y _ _ _ _ _ _ _ _ _ _ (λ l b. front_given _ _ _ _ a.y _ _ _ _ _ _ _ c.front_at.ensures
    c.in-Is.is l b) c.body_at.ensures

pub returns-in-Not : goal.returns-in-Not
returns-in-Not c =
    let a = c.args in
    unjoined _ _ _ _ a.y _ _ _ _ _ _ _ _ c.front_at.ensures c.in-Not.is
