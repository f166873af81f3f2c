-- `writes::marked::spread_set` meets its contract.
use mathlib.Core.Path.{sym, ◌∙◌}
use native.Mathlib.Omega.{arith}
use borrow.Author.Tests.{lt-ltb, le-ltb}
use lib.Dec.{ltb}
use lib.ListN.{length}
use Rattle.fields.specs.rule.Row.{fits_by, bytes_by, places_by}
use Rattle.writes.specs.rule.Write.{lent_value}
use Rattle.writes.proofs.Cases.{accepted, illegal, many, set_not, set_many, set_fits_lem, spread_small}
use Rattle.writes.proofs.marked.spread_set.Goals as goal

pub set_fits-requires : goal.set_fits-requires
set_fits-requires c = record {
  line_facts = c.requires.ready.lines;
  marks = c.mark_legal.ensures;
  marks_len_bound = rw c.mark_legal.auto.marks c.requires.marks_len_bound;
}

pub returns-then-not-set_fits : goal.returns-then-not-set_fits
unfolding lent_value fits_by
returns-then-not-set_fits c =
    illegal (set_not (ltb c.args.count (length c.args.list.now)) (sym c.set_fits.ensures ∙ c.if-not-set_fits.true))

pub returns-then-count-list : goal.returns-then-count-list
unfolding lent_value fits_by
returns-then-count-list c = many (set_many (sym c.set_fits.ensures ∙ c.if-not-set_fits.false) (lt-ltb _ _ c.if-count-list.true))

pub put_spread-requires : goal.put_spread-requires
put_spread-requires c =
    let h = c.requires.ready in record {
      tens = c.requires.tens;
      subfields = record { few = omega (arith, h.kind.few); holds = h.kind.holds; inside = omega (arith, h.kind.room) };
      small = spread_small h _ (sym c.set_fits.ensures ∙ c.if-not-set_fits.false);
    }

pub returns : goal.returns
unfolding lent_value fits_by places_by bytes_by
returns c =
    accepted (set_fits_lem (sym c.set_fits.ensures ∙ c.if-not-set_fits.false) (le-ltb _ _ c.if-count-list.false))
    c.put_spread.ensures
