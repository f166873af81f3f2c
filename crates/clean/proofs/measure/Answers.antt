use Rattle.clean.specs.Law.{sent_measured}
use Rattle.clean.proofs.measure.Goals as goal

pub send_clean-requires : goal.send_clean-requires
send_clean-requires c = c.requires

pub returns : goal.returns
returns c = sent_measured c.send_clean.ensures
