use mathlib.Core.Path.{◌∙◌}
use Rattle.sink.specs.Sent.{then}
use Rattle.fronts.specs.Front.{whole_text}
use Rattle.fronts.proofs.send_clean.Goals as goal

pub send_variables-v-requires : goal.send_variables-v-requires
send_variables-v-requires c = c.requires

pub shape_of-out : goal.shape_of-out
shape_of-out c =
    c.send_bytes.ensures.room ∙ c.send_variables-v.ensures.sent.room
    ∙ c.send_tail-b.ensures.room ∙ c.send_head-a.ensures.room

pub returns : goal.returns
unfolding whole_text
returns c =
    rw (← c.front_at-f.ensures) (then c.send_head-a.ensures (then c.send_tail-b.ensures (then c.send_variables-v.ensures.sent
    c.send_bytes.ensures)))

pub send_tail-b-requires : goal.send_tail-b-requires
send_tail-b-requires c = c.requires.classes
