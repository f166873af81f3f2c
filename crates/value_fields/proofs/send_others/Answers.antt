use mathlib.Core.Path.{refl, ap, ◌∙◌}
use native.Mathlib.Omega.{arith}
use borrow.Author.Rules.{sfits_of}
use mir.Facts.{to_z-of_z}
use Rattle.value_fields.specs.rule.Values.{export_number}
use Rattle.value_fields.specs.Values.{codes_next, codes_over}
use Rattle.sink.specs.Sent.{all_owed, less_owed, none_owed, sent_as}
use mir.Syntax.{w64}
use Rattle.value_fields.proofs.send_others.Goals as goal

pub loop-j-init : goal.loop-j-init
loop-j-init c = all_owed _ _ _ refl

pub send_code-end-requires : goal.send_code-end-requires
send_code-end-requires c =
    let p = c.requires in record {
      tens = p.tens;
      z_bound = (
        rw (to_z-of_z (sfits_of c.number.type_inv), c.number.ensures)
            (let f = p.codes.0.few c.loop-j.j c.loop-j-test.true in omega arith),
        rw (to_z-of_z (sfits_of c.number.type_inv), c.number.ensures) (p.codes.0.plain c.loop-j.j c.loop-j-test.true),
      );
    }

pub loop-j-preserved : goal.loop-j-preserved
loop-j-preserved c =
    less_owed (less_owed c.loop-j.invariant (codes_next _ _ _ c.loop-j-test.true c.requires.codes.0.many)
    c.send_byte-end.ensures) refl
    (sent_as c.send_code-end.ensures
    (ap (export_number 0) (to_z-of_z {w = w64} (sfits_of c.number.type_inv) ∙ c.number.ensures)))

pub returns : goal.returns
returns c = none_owed c.loop-j.invariant (codes_over _ _ _ c.loop-j-test.false)
