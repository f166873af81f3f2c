use Rattle.tags.specs.rule.Tag.{stretch_fits}
use Rattle.tags.proofs.stretch_fits.Goals as goal

pub returns : goal.returns
unfolding stretch_fits
returns c = c.fits.ensures
