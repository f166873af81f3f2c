use mathlib.Core.Path.{sym, ◌∙◌}
use mathlib.Core.Bool.{false}
use native.Mathlib.Omega.{arith}
use Rattle.prologs.proofs.Steps.{pair_bounds, naming_utf, naming_marked, naming_latin, naming_off}
use Rattle.prologs.proofs.encoding_named.Goals as goal

pub is_encoding-requires : goal.is_encoding-requires
is_encoding-requires c =
    let args = c.args in
    let b = pair_bounds args.d.now args.opened args.at _ _
    (sym c.read_pair.ensures ∙ c.in-Is.is) in (b.0, omega (arith, b.1))

pub overflow_add-end : goal.overflow_add-end
overflow_add-end c =
    let args = c.args in
    let b = pair_bounds args.d.now args.opened args.at _ _
    (sym c.read_pair.ensures ∙ c.in-Is.is) in
    omega (arith, b.1)

pub standalone_at-requires : goal.standalone_at-requires
standalone_at-requires c =
    let args = c.args in
    let b = pair_bounds args.d.now args.opened args.at _ _
    (sym c.read_pair.ensures ∙ c.in-Is.is) in
    omega (arith, b.1)

pub returns-then-is_encoding : goal.returns-then-is_encoding
returns-then-is_encoding c =
    let args = c.args in
    c.standalone_at.ensures ∙ sym (naming_utf args.d.now args.opened args.at args.marked false
    (sym c.read_pair.ensures
    ∙ c.in-Is.is) (sym c.is_encoding.ensures ∙ c.if-is_encoding.true))

pub returns-then-marked : goal.returns-then-marked
returns-then-marked c =
    let args = c.args in
    sym (naming_marked args.d.now args.opened args.at args.marked false (sym c.read_pair.ensures
    ∙ c.in-Is.is) (sym c.is_encoding.ensures ∙ c.if-is_encoding.false) c.if-marked.true)

pub latin_named-requires : goal.latin_named-requires
latin_named-requires c =
    let args = c.args in
    pair_bounds args.d.now args.opened args.at _ _ (sym c.read_pair.ensures
    ∙ c.in-Is.is)

pub returns-else-marked : goal.returns-else-marked
returns-else-marked c =
    let args = c.args in
    c.latin_named.ensures ∙ sym (naming_latin args.d.now args.opened args.at args.marked false
    (sym c.read_pair.ensures ∙ c.in-Is.is)
    (sym c.is_encoding.ensures ∙ c.if-is_encoding.false) c.if-marked.false)

pub returns-in-Off : goal.returns-in-Off
returns-in-Off c = sym (naming_off c.args.d.now
    c.args.opened c.args.at
    c.args.marked false
    (sym c.read_pair.ensures ∙ c.in-Off.is))
