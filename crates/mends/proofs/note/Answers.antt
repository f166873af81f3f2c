-- `mends::note` meets its contract.
use native.Mathlib.Omega.{arith}
use native.Mathlib.Numerals.{add-one, add-two}
use borrow.Author.Rules.{sfits_of}
use mir.Facts.{to_z-of_z}
use lib.ListN.{length-set}
use Rattle.mends.specs.rule.Mend.{entry_numbers}
use Rattle.mends.proofs.note.Goals as goal

pub bounds-list-k-2 : goal.bounds-list-k-2
bounds-list-k-2 c = simp length-set (omega arith)

pub bounds-list-k-3 : goal.bounds-list-k-3
bounds-list-k-3 c = simp length-set (omega arith)

pub returns : goal.returns
unfolding entry_numbers
returns c =
    let a = c.args in record {
      stored =
          rw (
            to_z-of_z (sfits_of c.cell-a.type_inv),
            to_z-of_z (sfits_of c.cell-b.type_inv),
            to_z-of_z (sfits_of c.cell-c.type_inv),
            c.cell-c.ensures,
            c.cell-b.ensures,
            c.cell-a.ensures,
            add-one a.k,
            add-two a.k,
          );
      next = omega arith;
    }
