use Rattle.filters.specs.Code.{text_at}
use Rattle.filters.proofs.Asked.{SomeFrom, served_by}
use Rattle.filters.proofs.has_served.Given as goal

abbrev pub invariant-loop-i : goal.invariant-loop-i
invariant-loop-i l = SomeFrom l.rows l.count (served_by l.latin l.standard l.d (text_at l.p l.n)) l.i
