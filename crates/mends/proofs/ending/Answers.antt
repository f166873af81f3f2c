-- `mends::ending` meets its contract.
use mathlib.Core.Path.{sym, ap, ◌∙◌}
use native.Mathlib.Omega.{arith}
use Rattle.cuts.specs.declared.Terminator.{Terminator}
use Rattle.mends.specs.Mend.{ending_none, ending_some}
use Rattle.mends.proofs.ending.Goals as goal

pub returns-then-w-eq0 : goal.returns-then-w-eq0
returns-then-w-eq0 c =
    let f = c.find_terminator-w.ensures in
    record {
      is = sym (ending_none _ (ap (λ (w : Terminator). w.size) (sym f.is) ∙ c.if-w-eq0.true));
      sized = record { some = omega arith; few = omega arith };
    }

pub returns : goal.returns
returns c =
    let f = c.find_terminator-w.ensures in
    let n = c.if-w-eq0.false in
    record {
      is = f.is ∙ sym (ending_some _ (λ z. n (ap (λ (w : Terminator). w.size) f.is ∙ z)));
      sized = record { some = omega (arith, n); few = f.few };
    }
