use Rattle.blocks.specs.Code.{word_of}
use Rattle.blocks.proofs.word.Goals as goal

pub returns : goal.returns
unfolding word_of
returns c =
    rw (
      c.amount_at-value.ensures c.requires.fits,
      c.lower-found.ensures,
      c.fault_at-own.ensures,
    )

pub amount_at-value-requires : goal.amount_at-value-requires
amount_at-value-requires c = (c.requires.ends, c.requires.within)
