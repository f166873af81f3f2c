-- `cuts::plain_run` meets its contract. The invariant: the k records up to here are such ones.
use mathlib.Core.Path.{◌≡◌}
use Prim.Native.Nat.{◌+◌, ◌*◌}
use Rattle.cuts.specs.Records.{PlainRun}
use Rattle.cuts.proofs.plain_run.Given as goal

abbrev pub invariant-loop-k : goal.invariant-loop-k
invariant-loop-k l = (l.at ≡ l.from + l.k * (l.size + l.w.size)) × PlainRun l.d l.w l.from l.size l.k
