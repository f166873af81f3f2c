use mathlib.Core.Path.{sym, ◌∙◌}
use mathlib.Core.List.{[], ◌∷◌}
use native.Mathlib.Omega.{arith}
use Rattle.prologs.specs.rule.Form.{yes, no, close}
use Rattle.prologs.proofs.Steps.{pair_bounds, pair_first, pair_second, pair_neither, pair_off}
use Rattle.prologs.proofs.yes_or_no.Goals as goal

pub is_spelt-requires : goal.is_spelt-requires
is_spelt-requires c =
    let args = c.args in
    let b = pair_bounds args.d.now args.opened args.at _ _
    (sym c.read_pair.ensures ∙ c.in-Is.is) in (b.0, omega (arith, b.1))

pub overflow_add-end : goal.overflow_add-end
overflow_add-end c =
    let args = c.args in
    let b = pair_bounds args.d.now args.opened args.at _ _
    (sym c.read_pair.ensures ∙ c.in-Is.is) in
    omega (arith, b.1)

pub close_at-requires : goal.close_at-requires
close_at-requires c =
    let args = c.args in
    let b = pair_bounds args.d.now args.opened args.at _ _
    (sym c.read_pair.ensures ∙ c.in-Is.is) in
    omega (arith, b.1)

pub returns-then-is_spelt : goal.returns-then-is_spelt
returns-then-is_spelt c =
    let args = c.args in
    c.close_at.ensures ∙ sym (pair_first args.d.now args.opened args.at close args.latin yes (no ∷ [])
    (sym c.read_pair.ensures
    ∙ c.in-Is.is) (sym c.is_spelt.ensures ∙ c.if-is_spelt.true))

pub is_spelt-requires-in-Is : goal.is_spelt-requires-in-Is
is_spelt-requires-in-Is c =
    let args = c.args in
    let b = pair_bounds args.d.now args.opened args.at _ _ (sym c.read_pair.ensures
    ∙ c.in-Is.is) in (b.0, omega (arith, b.1))

pub overflow_add-end-then-is_spelt-2 : goal.overflow_add-end-then-is_spelt-2
overflow_add-end-then-is_spelt-2 c =
    let args = c.args in
    let b = pair_bounds args.d.now args.opened args.at _ _ (sym c.read_pair.ensures
    ∙ c.in-Is.is) in omega (arith, b.1)

pub close_at-requires-then-is_spelt-2 : goal.close_at-requires-then-is_spelt-2
close_at-requires-then-is_spelt-2 c =
    let args = c.args in
    let b = pair_bounds args.d.now args.opened args.at _ _ (sym c.read_pair.ensures
    ∙ c.in-Is.is) in omega (arith, b.1)

pub returns-then-is_spelt-2 : goal.returns-then-is_spelt-2
returns-then-is_spelt-2 c =
    let args = c.args in
    c.close_at-then-is_spelt-2.ensures ∙ sym (pair_second args.d.now args.opened args.at close args.latin yes no
    (sym c.read_pair.ensures ∙ c.in-Is.is)
    (sym c.is_spelt.ensures ∙ c.if-is_spelt.false)
    (sym c.is_spelt-in-Is.ensures ∙ c.if-is_spelt-2.true))

pub returns-else-is_spelt-2 : goal.returns-else-is_spelt-2
returns-else-is_spelt-2 c =
    let args = c.args in
    sym (pair_neither args.d.now args.opened args.at close args.latin yes no
    (sym c.read_pair.ensures ∙ c.in-Is.is)
    (sym c.is_spelt.ensures ∙ c.if-is_spelt.false) (sym c.is_spelt-in-Is.ensures ∙ c.if-is_spelt-2.false))

pub returns-in-Off : goal.returns-in-Off
returns-in-Off c = sym (pair_off c.args.d.now
    c.args.opened c.args.at close
    c.args.latin (yes ∷ no ∷ [])
    (sym c.read_pair.ensures ∙ c.in-Off.is))
