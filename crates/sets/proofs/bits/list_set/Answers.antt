-- `sets::bits::list_set` meets its contract: by whether the list has room.
use Rattle.sets.proofs.SetLaws.{read_room, read_short}
use Rattle.sets.proofs.bits.list_set.Goals as goal

pub bits_fill-requires : goal.bits_fill-requires
bits_fill-requires c =
    let p = c.requires in record {
      line_facts = p.line_facts;
      marks = p.marks;
      bits_room = p.bits_room;
      bytes_in_bounds = rw c.count_set-n.ensures at c.if-n-list.true;
    }

pub returns-then-n-list : goal.returns-then-n-list
returns-then-n-list c = read_room _ _ _ _ c.requires.bytes_value
    c.count_set-n.ensures _ c.if-n-list.true c.bits_fill.ensures

pub returns : goal.returns
returns c = read_short _ _ _ _ c.requires.bytes_value c.count_set-n.ensures c.if-n-list.false
