use mathlib.Core.Path.{◌∙◌}
use Rattle.sink.specs.Sent.{then}
use Rattle.fronts.specs.Front.{head_text}
use Rattle.fronts.proofs.send_head.Goals as goal

pub shape_of-out : goal.shape_of-out
shape_of-out c =
    c.send_standard.ensures.room ∙ c.send_perhaps-f.ensures.room
    ∙ c.send_perhaps-e.ensures.room ∙ c.send_perhaps-c.ensures.room
    ∙ c.send_perhaps-b.ensures.room ∙ c.send_bytes-a.ensures.room

pub returns : goal.returns
unfolding head_text
returns c =
    then c.send_bytes-a.ensures (then c.send_perhaps-b.ensures
    (then c.send_perhaps-c.ensures (then c.send_perhaps-e.ensures
    (then c.send_perhaps-f.ensures c.send_standard.ensures))))
