-- `normal::put_back` meets its contract: each arm has what was read.
use mathlib.Core.Path.{◌≡◌, refl, sym}
use borrow.Author.Rules.{rules}
use mir.Syntax.{w64}
use mir.Val.{to_z, of_z}
use lib.Seq.{length-take-le}
use Rattle.writes.specs.rule.Write.{lent_value}
use Rattle.normal.proofs.Steps.{held, written_back, number_legal, number_back}
use Rattle.normal.proofs.put_back.Goals as goal
use Rattle.normal.proofs.put_back.Goals.{In-Number}

-- the number is read back from its bits as it is
back : (c : In-Number) → to_z w64 (of_z w64 c.in-Number.z) ≡ c.in-Number.z
back c = search rules

pub put_figures-requires : goal.put_figures-requires
put_figures-requires c =
    let p = c.requires in record {
      tens = p.tens;
      ready = p.ready;
      z_value = rw (back (goal.at.put_figures-requires c).In-Number) (number_legal _ _ _ _ _ (held _ _ _ _ _ c.in-Number.is p.held_as));
    }

pub slice_bounds-set-end : goal.slice_bounds-set-end
slice_bounds-set-end c =
    sym (length-take-le _ c.args.list.now (held _ _ _ _ _ c.in-Set.is c.requires.held_as).0)

pub returns-in-Missing : goal.returns-in-Missing
unfolding lent_value
returns-in-Missing c = written_back _ _ _ _ _ (held _ _ _ _ _ c.in-Missing.is
    c.requires.held_as) refl c.blank_row.ensures

pub returns-in-Number : goal.returns-in-Number
returns-in-Number c =
    number_back _ _ _ _ _ (held _ _ _ _ _ c.in-Number.is c.requires.held_as)
    (rw (back (goal.at.returns-in-Number c).In-Number) at c.put_figures.ensures)

pub returns-in-Set : goal.returns-in-Set
unfolding lent_value
returns-in-Set c =
    written_back _ _ _ _ _ (held _ _ _ _ _ c.in-Set.is c.requires.held_as).1 refl
    c.write_row.ensures

pub blank_row-requires : goal.blank_row-requires
blank_row-requires c = c.requires.ready

pub write_row-requires : goal.write_row-requires
write_row-requires c = record {
  tens = c.requires.tens;
  ready = c.requires.ready;
}

pub returns-in-Text : goal.returns-in-Text
returns-in-Text c = sym (held _ _ _ _ _ c.in-Text.is c.requires.held_as)

pub returns-in-Truth : goal.returns-in-Truth
returns-in-Truth c = sym (held _ _ _ _ _ c.in-Truth.is c.requires.held_as)

pub returns-in-BadTable : goal.returns-in-BadTable
returns-in-BadTable c = sym (held _ _ _ _ _ c.in-BadTable.is c.requires.held_as)

pub returns-in-NoRow : goal.returns-in-NoRow
returns-in-NoRow c = sym (held _ _ _ _ _ c.in-NoRow.is c.requires.held_as)

pub returns-in-ShortRecord : goal.returns-in-ShortRecord
returns-in-ShortRecord c = sym (held _ _ _ _ _ c.in-ShortRecord.is c.requires.held_as)

pub returns-in-Illegal : goal.returns-in-Illegal
returns-in-Illegal c = sym (held _ _ _ _ _ c.in-Illegal.is c.requires.held_as)

pub returns-in-ShortList : goal.returns-in-ShortList
returns-in-ShortList c = sym (held _ _ _ _ _ c.in-ShortList.is c.requires.held_as)
