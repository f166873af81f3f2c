use mathlib.Core.Path.{◌∙◌}
use Rattle.sink.specs.Sent.{then}
use Rattle.fronts.specs.Front.{tail_text}
use Rattle.fronts.proofs.send_tail.Goals as goal

pub shape_of-out : goal.shape_of-out
shape_of-out c =
    c.send_bytes.ensures.room ∙ c.send_byte-e.ensures.room ∙ c.send_bytes-c.ensures.room
    ∙ c.send_perhaps-b.ensures.room ∙ c.send_bytes-a.ensures.room

pub returns : goal.returns
unfolding tail_text
returns c =
    then c.send_bytes-a.ensures (then c.send_perhaps-b.ensures
    (then c.send_bytes-c.ensures (then c.send_byte-e.ensures c.send_bytes.ensures)))
