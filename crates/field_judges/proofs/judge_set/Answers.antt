-- `field_judges::judge_set` meets its contract.
use mathlib.Core.Path.{ap, ◌∙◌}
use Rattle.layout.specs.declared.Kind.TheVariants.{Multiple}
use Rattle.field_judges.proofs.judge_set.Goals as goal

pub judge_bits-requires : goal.judge_bits-requires
judge_bits-requires c =
    let p = c.requires in
    (p.0, p.1 ∙ ap Multiple c.in-Bits.is, p.2)

pub judge_spread-requires : goal.judge_spread-requires
judge_spread-requires c =
    let p = c.requires in
    (p.1 ∙ ap Multiple c.in-Fields.is, p.2)

pub returns-in-Bits : goal.returns-in-Bits
returns-in-Bits c = c.judge_bits.ensures

pub returns-in-Fields : goal.returns-in-Fields
returns-in-Fields c = c.judge_spread.ensures
