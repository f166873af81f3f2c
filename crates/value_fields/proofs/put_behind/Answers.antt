-- `value_fields::put_behind` meets its contract.
use mathlib.Core.Path.{ap, ◌∙◌}
use native.Mathlib.Omega.{arith}
use mathlib.Core.List.{◌∷◌}
use lib.ListN.{length, length-set}
use lib.Seq.{length-sets}
use Rattle.fields.specs.rule.Number.{padded}
use Rattle.value_fields.specs.Stretch.{behind_stored}
use Rattle.value_fields.proofs.put_behind.Goals as goal

pub shape_of-out : goal.shape_of-out
shape_of-out c =
    let a = c.args in
    ap length (c.put_digits.ensures ∙ behind_stored a.out.now a.at a.d a.n)
    ∙ length-sets a.out.now a.at (59 ∷ padded a.d a.n)

pub returns : goal.returns
returns c = let a = c.args in
    c.put_digits.ensures ∙ behind_stored a.out.now a.at a.d a.n

pub put_digits-requires : goal.put_digits-requires
put_digits-requires c = record {
  tens = c.requires.tens;
  n_bound = (
    c.requires.n_bound.0,
    c.requires.n_bound.1,
    rw length-set (omega (arith, c.requires.n_bound.2)),
  );
}
