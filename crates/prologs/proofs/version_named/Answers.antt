use mathlib.Core.Path.{sym, ◌∙◌}
use mathlib.Core.Bool.{false}
use mathlib.Core.List.{[], ◌∷◌}
use native.Mathlib.Omega.{arith}
use Rattle.prologs.specs.rule.Form.{one_nought, encoded}
use Rattle.prologs.proofs.Steps.{pair_bounds, pair_first, pair_not, pair_off}
use Rattle.prologs.proofs.version_named.Goals as goal

pub is_spelt-requires : goal.is_spelt-requires
is_spelt-requires c =
    let args = c.args in
    let b = pair_bounds args.d.now args.opened args.at _ _
    (sym c.read_pair.ensures ∙ c.in-Is.is) in (b.0, omega (arith, b.1))

pub overflow_add-end : goal.overflow_add-end
overflow_add-end c =
    let args = c.args in
    let b = pair_bounds args.d.now args.opened args.at _ _
    (sym c.read_pair.ensures ∙ c.in-Is.is) in
    omega (arith, b.1)

pub encoding_at-requires : goal.encoding_at-requires
encoding_at-requires c =
    let args = c.args in
    let b = pair_bounds args.d.now args.opened args.at _ _
    (sym c.read_pair.ensures ∙ c.in-Is.is) in
    omega (arith, b.1)

pub returns-then-is_spelt : goal.returns-then-is_spelt
returns-then-is_spelt c =
    let args = c.args in
    c.encoding_at.ensures ∙ sym (pair_first args.d.now args.opened args.at (encoded args.marked) false one_nought []
    (sym c.read_pair.ensures
    ∙ c.in-Is.is) (sym c.is_spelt.ensures ∙ c.if-is_spelt.true))

pub returns-else-is_spelt : goal.returns-else-is_spelt
returns-else-is_spelt c =
    let args = c.args in
    sym (pair_not args.d.now args.opened args.at (encoded args.marked) false one_nought
    (sym c.read_pair.ensures ∙ c.in-Is.is) (sym c.is_spelt.ensures ∙ c.if-is_spelt.false))

pub returns-in-Off : goal.returns-in-Off
returns-in-Off c = sym (pair_off c.args.d.now
    c.args.opened c.args.at
    (encoded c.args.marked) false (one_nought ∷ [])
    (sym c.read_pair.ensures ∙ c.in-Off.is))
