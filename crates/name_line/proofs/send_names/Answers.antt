use mathlib.Core.Path.{refl, sym}
use native.Mathlib.Omega.{arith}
use Rattle.commas.specs.Csv.{left_next, left_end}
use Rattle.sink.specs.Sent.{all_owed, less_owed, sent_as}
use Rattle.name_line.specs.Names.{names_whole, name_of}
use Rattle.name_line.proofs.send_names.Goals as goal

pub loop-i-init : goal.loop-i-init
loop-i-init c = all_owed _ _ _ (names_whole _ _ _)

pub place_at-place-requires : goal.place_at-place-requires
place_at-place-requires c =
    let p = c.requires.rows_le_most_rows in (omega (arith, p.0), omega (arith, p.1))

pub long_at-long-requires : goal.long_at-long-requires
long_at-long-requires c =
    let p = c.requires.rows_le_most_rows in (omega (arith, p.0), omega (arith, p.1))

pub send_name-end-requires : goal.send_name-end-requires
send_name-end-requires c = record {
  classes = c.requires.classes;
  s_value = c.script_of-s.ensures;
}

pub loop-i-preserved : goal.loop-i-preserved
loop-i-preserved c =
    less_owed (less_owed c.loop-i.invariant
    (left_next _ _ _ c.loop-i-test.true)
    c.send_comma-end.ensures) refl
    (sent_as c.send_name-end.ensures
    (name_of c.args.d.now _ _ c.place_at-place.ensures
    c.long_at-long.ensures))

pub returns : goal.returns
returns c = c.loop-i.invariant.pays
    (sent_as c.send_end.ensures (sym (left_end _ _ _ c.loop-i-test.false)))
