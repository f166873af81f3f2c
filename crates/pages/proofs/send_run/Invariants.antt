-- `pages::send_run` meets its contract. The invariant: with what was sent the block's page is what is left from here on.
use mathlib.Core.Bool.{false}
use Rattle.pages.specs.Stand.{Ran}
use Rattle.pages.proofs.send_run.Given as goal

abbrev pub invariant-loop-k : goal.invariant-loop-k
invariant-loop-k l = Ran l.bound l.initial.out l.at l.out l.d l.start l.count (record { at = l.p; next = l.n; count = l.k; over = false })
