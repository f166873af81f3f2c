-- `writes::marked::bits_set` meets its contract.
use mathlib.Core.Path.{sym, ◌∙◌}
use native.Mathlib.Omega.{arith}
use Rattle.fields.specs.rule.Row.{fits_by, bytes_by, places_by}
use Rattle.sets.specs.Full.{each_legal}
use Rattle.writes.specs.rule.Write.{lent_value}
use Rattle.writes.proofs.Cases.{accepted, illegal, legal_fits, legal_not, bits_rising}
use Rattle.writes.proofs.marked.bits_set.Goals as goal

pub set_fits-requires : goal.set_fits-requires
set_fits-requires c = record {
  line_facts = c.requires.ready.lines;
  marks = c.mark_legal.ensures;
  marks_len_bound = rw c.mark_legal.auto.marks c.requires.marks_len_bound;
}

pub returns-then-not-set_fits : goal.returns-then-not-set_fits
unfolding lent_value fits_by
returns-then-not-set_fits c = illegal (legal_not (sym c.set_fits.ensures ∙ c.if-not-set_fits.true))

pub put_all-requires : goal.put_all-requires
put_all-requires c = record {
  each_legal = each_legal _ _ _ _ (sym c.range_has.ensures ∙ c.if-range_has.true);
  bitstring = (
    record { few = c.requires.ready.kind.few; inside = omega arith },
    bits_rising c.requires.ready _ (sym c.set_fits.ensures
        ∙ c.if-not-set_fits.false),
  );
}

pub returns-then-range_has : goal.returns-then-range_has
unfolding lent_value fits_by places_by bytes_by
returns-then-range_has c =
    accepted (legal_fits (sym c.set_fits.ensures
    ∙ c.if-not-set_fits.false)) c.put_all.ensures

pub put_bits-requires : goal.put_bits-requires
put_bits-requires c = record {
  line_facts = c.requires.ready.lines;
  marks = c.mark_legal.ensures;
  bitstring = (
    record { few = c.requires.ready.kind.few; inside = omega arith },
    bits_rising c.requires.ready _ (sym c.set_fits.ensures ∙ c.if-not-set_fits.false),
  );
}

pub returns : goal.returns
unfolding lent_value fits_by places_by bytes_by
returns c =
    accepted (legal_fits (sym c.set_fits.ensures ∙ c.if-not-set_fits.false)) c.put_bits.ensures

pub range_has-requires : goal.range_has-requires
range_has-requires c = c.requires.ready.kind.few
