-- `exports::write` meets its contract: the text is stored from the start of the buffer.
use Rattle.exports.specs.Sizes.{stands}
use Rattle.exports.proofs.write.Goals as goal

pub send_all-requires : goal.send_all-requires
send_all-requires c = let p = c.requires in record {
  classes = p.classes;
  ready = p.ready;
  found = p.found;
}

pub returns : goal.returns
returns c = stands c.send_all.ensures
    c.requires.d_in_bounds
