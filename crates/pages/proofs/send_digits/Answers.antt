use native.Mathlib.Omega.{arith}
use Rattle.sink.specs.Sent.{sent_as}
use Rattle.pages.specs.Digit.{digits_stand, room_kept}
use Rattle.pages.proofs.send_digits.Goals as goal

pub put_digits-requires : goal.put_digits-requires
put_digits-requires c = record {
  tens = c.requires.tens;
  n_bound = (c.requires.n_bound.0, c.requires.n_bound.1, omega (arith, c.requires.n_bound.1));
}

pub slice_bounds-send_bytes-end : goal.slice_bounds-send_bytes-end
slice_bounds-send_bytes-end c = room_kept _ _ _ (omega (arith, c.requires.n_bound.1))
    c.put_digits.ensures

pub returns : goal.returns
returns c = sent_as c.send_bytes.ensures
    (digits_stand _ _ _ (omega (arith, c.requires.n_bound.1))
    c.put_digits.ensures)
