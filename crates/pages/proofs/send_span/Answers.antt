use mathlib.Core.Path.{sym}
use native.Mathlib.Omega.{arith}
use Rattle.sink.specs.Sent.{sent_as}
use Rattle.looks.specs.Plain.{plain_bytes}
use Rattle.pages.proofs.send_span.Goals as goal

pub slice_bounds-send_bytes-count : goal.slice_bounds-send_bytes-count
slice_bounds-send_bytes-count c = let h = c.plain.ensures c.if-plain.true in omega (arith, h.on, h.within)

pub slice_bounds-send_bytes-start : goal.slice_bounds-send_bytes-start
slice_bounds-send_bytes-start c = let h = c.plain.ensures c.if-plain.true in omega (arith, h.on, h.within)

pub slice_bounds-send_bytes-end : goal.slice_bounds-send_bytes-end
slice_bounds-send_bytes-end c = let h = c.plain.ensures c.if-plain.true in omega (arith, h.on, h.within)

pub returns-then-plain : goal.returns-then-plain
returns-then-plain c = sent_as c.send_bytes.ensures
    (sym (plain_bytes (c.plain.ensures
    c.if-plain.true)))

pub returns : goal.returns
returns c = c.send_kept.ensures
