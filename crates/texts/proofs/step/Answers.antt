-- `texts::step` meets its contract.
use mathlib.Core.Path.{◌≡◌, ◌∙◌, sym}
use Prim.Native.Nat.{ℕ}
use native.Mathlib.Omega.{arith}
use Rattle.scan.proofs.Texts.{stepped, ended}
use Rattle.texts.specs.Measured.{paced_of}
use Rattle.texts.proofs.Measures.{measure_on, measure_closed, measure_wrong, measure_end, paced_on}
use Rattle.texts.proofs.step.Goals as goal

pub returns-in-Go : goal.returns-in-Go
unfolding paced_of
returns-in-Go c =
    let s = stepped _ _ c.next_byte.ensures
    c.in-Byte.is in
    let k = c.completed-count.ensures in
    record {
      paces = λ j. measure_on _ _ s.split c.move_inside.ensures c.in-Go.is ∙ rw (sym k.0);
      onwards = λ e. paced_on e (omega (arith, s.from, s.next)) (omega (arith, s.within, s.next)) k.1;
    }

pub returns-in-Closed : goal.returns-in-Closed
unfolding paced_of
returns-in-Closed c =
    let s = stepped _ _ c.next_byte.ensures
    c.in-Byte.is in
    record {
      paces = λ j. measure_closed _ _ s.split c.move_inside.ensures c.in-Closed.is;
      onwards = λ e. let z : ◌≡◌ {A = ℕ} 0 1 = cc in absurd (omega arith);
    }

pub returns-in-Wrong : goal.returns-in-Wrong
unfolding paced_of
returns-in-Wrong c =
    let s = stepped _ _ c.next_byte.ensures
    c.in-Byte.is in
    record {
      paces = λ j. measure_wrong _ _ s.split c.move_inside.ensures c.in-Wrong.is;
      onwards = λ e. let z : ◌≡◌ {A = ℕ} 0 1 = cc in absurd (omega arith);
    }

pub returns-in-End : goal.returns-in-End
unfolding paced_of
returns-in-End c = record {
  paces = λ j. measure_end _ _ (ended _ _ c.next_byte.ensures c.in-End.is);
  onwards = λ e. let z : ◌≡◌ {A = ℕ} 0 1 = cc in absurd (omega arith);
}
