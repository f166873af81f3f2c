-- `columns::put_spread` meets its contract: by the list of its members.
-- Assumes nothing.
use Rattle.columns.proofs.put_spread.Goals as goal

pub list_spread-l-requires : goal.list_spread-l-requires
list_spread-l-requires c = record {
  readable = (
    c.requires.readable.0,
    c.requires.readable.1,
    c.requires.readable.2,
  );
  bytes_value = c.requires.bytes_value;
}

pub put_listed-requires : goal.put_listed-requires
put_listed-requires c = record {
  lists = c.list_spread-l.ensures;
  marked_set = c.requires.marked_set;
  room = c.requires.room;
}

pub returns : goal.returns
returns c = c.put_listed.ensures
