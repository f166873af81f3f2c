-- `value_fields::send_truth` meets its contract: nothing, or the byte.
use Rattle.sink.specs.Sent.{sent_as, nothing_sent}
use Rattle.value_fields.proofs.Legal.{truth_none, truth_byte}
use Rattle.value_fields.proofs.send_truth.Goals as goal

pub returns-then-b-eq32 : goal.returns-then-b-eq32
returns-then-b-eq32 c = sent_as (nothing_sent _ _ _) (truth_none _ c.if-b-eq32.true)

pub returns : goal.returns
returns c = sent_as c.send_byte.ensures
    (truth_byte _ c.if-b-eq32.false c.requires)
