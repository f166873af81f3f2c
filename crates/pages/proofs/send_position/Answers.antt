use mathlib.Core.Path.{sym}
use native.Mathlib.Omega.{arith}
use Rattle.sink.specs.Sent.{then, sent_as}
use Rattle.pages.specs.Page.{position_text}
use Rattle.pages.proofs.send_position.Goals as goal

pub slice_bounds-send_bytes-count : goal.slice_bounds-send_bytes-count
slice_bounds-send_bytes-count c = let x = c.requires.stands c.if-e-gt0.true in omega (arith, x.on, x.within)

pub slice_bounds-send_bytes-start : goal.slice_bounds-send_bytes-start
slice_bounds-send_bytes-start c = let x = c.requires.stands c.if-e-gt0.true in omega (arith, x.on, x.within)

pub slice_bounds-send_bytes-end : goal.slice_bounds-send_bytes-end
slice_bounds-send_bytes-end c = let x = c.requires.stands c.if-e-gt0.true in omega (arith, x.on, x.within)

pub returns-then-e-gt0 : goal.returns-then-e-gt0
returns-then-e-gt0 c = sent_as c.send_bytes.ensures
    (sym (c.requires.stands
    c.if-e-gt0.true).bytes)

pub returns : goal.returns
unfolding position_text
returns c = then c.send_framed-a.ensures
    c.send_closed.ensures
