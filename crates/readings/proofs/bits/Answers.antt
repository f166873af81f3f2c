-- `readings::bits` meets its contract: the set's answer.
use Rattle.readings.proofs.Laws.{bits_answered}
use Rattle.readings.proofs.bits.Goals as goal

pub returns-then-row-lt128 : goal.returns-then-row-lt128
returns-then-row-lt128 c = bits_answered _ _ _ _ _ _ c.set_answer.ensures c.read_bits.ensures

pub returns : goal.returns
returns c = bits_answered _ _ _ _ _ _ c.set_answer-2.ensures c.read_bits-2.ensures
