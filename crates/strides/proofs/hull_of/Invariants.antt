-- `strides::hull_of` meets its contract. The invariant: the hull is that of the values looked at so far.
use Rattle.strides.specs.rule.Stride.{stride_at}
use Rattle.strides.specs.Hull.{Hulled}
use Rattle.strides.proofs.hull_of.Given as goal

abbrev pub invariant-loop-k : goal.invariant-loop-k
invariant-loop-k l = Hulled (stride_at l.t l.at l.step) l.k l.h
