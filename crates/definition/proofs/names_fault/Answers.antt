use mathlib.Core.Path.{refl, ◌∙◌}
use lib.ListN.{length-set}
use native.Mathlib.Omega.{arith}
use Rattle.names.specs.Name.{key_of}
use Rattle.definition.specs.Code.{name_in}
use Rattle.definition.proofs.Keys.{keys_more, names_judged}
use Rattle.definition.proofs.names_fault.Goals as goal

pub loop-i-init : goal.loop-i-init
loop-i-init c = (refl, λ j h. absurd (omega arith))

pub loop-i-preserved : goal.loop-i-preserved
unfolding name_in
loop-i-preserved c =
    let v = c.loop-i.invariant in (
      length-set c.loop-i.keys c.loop-i.i c.name_key.result ∙ v.0,
      keys_more (λ j. key_of 0 0 (name_in c.args.d.now
          c.args.rows.now j)) c.loop-i.keys
          c.loop-i.i c.name_key.result (omega (arith, v.0)) v.1
          (c.name_key.ensures ∙ rw c.name_place.ensures),
    )

pub returns : goal.returns
returns c =
    let v = c.loop-i.invariant in
    names_judged _ _ _ c.args.count c.loop-i.i _ (omega arith) v.1
    c.first_fault.ensures
