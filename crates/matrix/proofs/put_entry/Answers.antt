-- `matrix::put_entry` meets its contract: the presence byte, then the value's bytes.
-- Assumes nothing.
use mathlib.Core.Path.{◌∙◌}
use lib.ListN.{length-set}
use Rattle.matrix.specs.Entry.{cell_of, entry_real, entry_put}
use Rattle.matrix.proofs.put_entry.Goals as goal

pub put_f64-requires : goal.put_f64-requires
unfolding cell_of
put_f64-requires c = record {
  at_in_bounds = rw length-set c.requires.flags_lt_values.1;
  t = rw c.cell_of-c.ensures (entry_real c.args.e c.requires.entry_good);
}

pub returns : goal.returns
unfolding cell_of
returns c = rw (c.put_f64.ensures, c.cell_of-c.ensures)
    (entry_put c.args.out.now
    c.args.flags c.args.values
    c.args.e)

pub shape_of-out : goal.shape_of-out
shape_of-out c = c.put_f64.auto.out
    ∙ length-set c.args.out.now
    c.args.flags c.cell_of-c.result.present
