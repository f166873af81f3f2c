-- `sets::bits_illegal` meets its contract: the row's bytes lie in the record.
use native.Mathlib.Omega.{arith}
use Rattle.sets.proofs.bits_illegal.Goals as goal

pub judge-requires : goal.judge-requires
judge-requires c =
    let p = c.requires in record {
      line_facts = p.lines;
      bits_room = record { few = p.few; inside = let h = p.inside in let g = p.from_one in omega arith };
    }

pub overflow_sub-row : goal.overflow_sub-row
overflow_sub-row c = c.requires.from_one
