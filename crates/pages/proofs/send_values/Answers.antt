use Rattle.sink.specs.Sent.{then}
use Rattle.pages.specs.Page.{values_page}
use Rattle.pages.proofs.send_values.Goals as goal

pub returns : goal.returns
unfolding values_page
returns c =
    rw (
      ← c.open_values-a.ensures,
      ← c.range_at-r.ensures,
    )
    (record {
      sent = then c.send_bytes-b.ensures
          (then c.send_range-c.ensures
          (then c.send_block-e.ensures.sent c.send_bytes-end.ensures));
      stands = c.send_block-e.ensures.stands;
    })
