use native.Mathlib.Omega.{arith}
use Rattle.blocks.proofs.Turns.{closed_not, begun_is, begun_refused, opened_standing}
use Rattle.blocks.proofs.block_at.Goals as goal

pub read_values-requires : goal.read_values-requires
read_values-requires c =
    let o = begun_is _ c.first_at.ensures c.in-Is.is in record {
      at_in_bounds = (o.next, c.requires.at_in_bounds.1);
      standing = opened_standing o;
    }

pub returns-in-Is : goal.returns-in-Is
returns-in-Is c =
    let o = begun_is _ c.first_at.ensures c.in-Is.is in
    rw o.reads (c.read_values.ensures o.block _ 4097 o.lines (omega arith))

pub returns-in-Not : goal.returns-in-Not
returns-in-Not c = closed_not (rw (begun_refused _ c.first_at.ensures
    c.in-Not.is))
