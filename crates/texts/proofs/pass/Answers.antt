-- `texts::pass` meets its contract.
use mathlib.Core.Path.{◌≡◌, ap}
use mathlib.Core.List.{List}
use Prim.Native.Nat.{ℕ, ◌+◌}
use native.Mathlib.Omega.{arith}
use Rattle.scan.specs.rule.Text.{text}
use Rattle.marks.specs.declared.Inside.{Inside}
use Rattle.texts.specs.Measured.{measure_from, Passed}
use Rattle.texts.proofs.pass.Goals as goal

-- nothing passed
stays : (d : List ℕ) (s : Inside) (n : ℕ) → Passed d s n (record { next = n; count = 0 })
stays d s n = record {
  same = λ c. let z : c ≡ c + 0 = omega arith in ap (λ (j : ℕ). measure_from s j (text d n)) z;
  onward = omega arith;
  inside = λ h. h;
  few = omega arith;
}

pub returns-in-Plain : goal.returns-in-Plain
returns-in-Plain c = rw c.in-Plain.is c.pass_plain.ensures

pub returns-in-Pair : goal.returns-in-Pair
returns-in-Pair c = rw c.in-Pair.is c.pass_pairs.ensures

pub returns-in-Opened : goal.returns-in-Opened
returns-in-Opened c = stays _ _ _

pub returns-in-Shut : goal.returns-in-Shut
returns-in-Shut c = stays _ _ _

pub returns-in-Ell : goal.returns-in-Ell
returns-in-Ell c = stays _ _ _

pub returns-in-Low : goal.returns-in-Low
returns-in-Low c = stays _ _ _
