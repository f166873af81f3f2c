-- `writes::marked::bits_full` meets its contract.
use native.Mathlib.Omega.{arith}
use Rattle.fields.specs.rule.Row.{fits_by, bytes_by, places_by}
use Rattle.writes.specs.rule.Write.{lent_value}
use Rattle.writes.proofs.Cases.{accepted, legal_fits, bits_rising}
use Rattle.writes.proofs.marked.bits_full.Goals as goal

pub put_all-requires : goal.put_all-requires
put_all-requires c = record {
  each_legal = c.requires.each_fits.each;
  bitstring = (record { few = c.requires.ready.kind.few; inside = omega arith }, bits_rising c.requires.ready _ c.requires.each_fits.fits);
}

pub returns : goal.returns
unfolding lent_value fits_by places_by bytes_by
returns c = accepted (legal_fits c.requires.each_fits.fits) c.put_all.ensures
