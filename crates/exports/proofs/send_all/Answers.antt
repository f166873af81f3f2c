-- `exports::send_all` meets its contract: the names, and behind them the lines.
use Rattle.sink.specs.Sent.{sent_as, then}
use Rattle.exports.specs.Sizes.{rows_stand, names_and, found_records}
use Rattle.exports.proofs.send_all.Goals as goal

pub send_names-end-requires : goal.send_names-end-requires
send_names-end-requires c = let p = c.requires in record {
  classes = p.classes;
  rows_le_most_rows = rows_stand p.ready.tested;
}

pub send_lines-requires : goal.send_lines-requires
send_lines-requires c =
    let p = c.requires in record {
      ready = p.ready;
      size_bound = (p.found.0.few, rw (found_records p.found.0) p.found.1);
    }

pub returns : goal.returns
returns c =
    let p = c.requires in
    sent_as (then c.send_names-end.ensures
    (rw (found_records p.found.0) at c.send_lines.ensures)) (names_and p.ready.tested _ _ _)
