use mathlib.Core.Path.{sym}
use Rattle.scan.proofs.Runs.{digits_held}
use Rattle.tokens.specs.Token.{value_at}
use Rattle.tokens.proofs.read_value.Goals as goal

pub read_digits-rest-requires : goal.read_digits-rest-requires
read_digits-rest-requires c = record {
  classes = c.requires;
  v_bound = rw c.read_digits-whole.ensures (digits_held _ _ _ _);
}

pub returns : goal.returns
unfolding value_at
returns c =
    rw (
      sym c.find_mark-sign.ensures,
      sym c.read_digits-whole.ensures,
      sym c.find_mark-dot.ensures,
      sym c.read_digits-rest.ensures,
      sym c.value_run-end.ensures,
    )
