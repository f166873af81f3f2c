use Rattle.pages.specs.Page.{end_page}
use Rattle.pages.proofs.send_end.Goals as goal

pub returns : goal.returns
unfolding end_page
returns c =
    record { sent = c.send_bytes-end.ensures; stands = c.past_end-next.ensures }
