use mathlib.Core.Path.{◌≡◌}
use Prim.Native.Nat.{◌-◌}
use Rattle.sink.specs.Sent.{Owed}
use Rattle.pages.specs.Page.{variables_page}
use Rattle.pages.proofs.send_variables.Given as goal

abbrev pub invariant-loop : goal.invariant-loop
invariant-loop l = Owed l.bound l.initial.out l.at (variables_page 512 l.d l.start).text l.out l.p
    (variables_page (512 - l.counter) l.d l.n).text
    × ((variables_page 512 l.d l.start).next ≡ (variables_page (512 - l.counter) l.d l.n).next)
