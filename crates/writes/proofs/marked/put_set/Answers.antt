-- `writes::marked::put_set` meets its contract: each arm has what the spread is there.
use mathlib.Core.Path.{ap}
use Rattle.layout.specs.declared.Kind.TheVariants.{Multiple}
use Rattle.writes.proofs.Cases.{ready_as, written_as}
use Rattle.writes.proofs.marked.put_set.Goals as goal

pub bits_written-requires : goal.bits_written-requires
bits_written-requires c = ready_as (ap Multiple c.in-Bits.is) c.requires.ready

pub spread_written-requires : goal.spread_written-requires
spread_written-requires c =
    let p = c.requires in record {
      tens = p.tens;
      ready = ready_as (ap Multiple c.in-Fields.is) p.ready;
    }

pub returns-in-Bits : goal.returns-in-Bits
returns-in-Bits c = written_as (ap Multiple c.in-Bits.is) c.bits_written.ensures

pub returns-in-Fields : goal.returns-in-Fields
returns-in-Fields c = written_as (ap Multiple c.in-Fields.is) c.spread_written.ensures
