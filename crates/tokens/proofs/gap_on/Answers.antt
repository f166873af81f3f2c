use mathlib.Core.Path.{sym}
use Rattle.tokens.specs.Gap.{gap_on}
use Rattle.tokens.proofs.Gaps.{gap_token}
use Rattle.tokens.proofs.gap_on.Goals as goal

pub returns-then-d-m-ne60 : goal.returns-then-d-m-ne60
unfolding gap_on
returns-then-d-m-ne60 c =
    let p = c.pass_blanks-m in
    let within = c.if-m-d.true in
    rw (
      c.in-Ok.is,
      p.ensures.0,
      gap_token c.args.d.now p.result within (p.ensures.2 within)
          c.if-d-m-ne60.true,
    )

pub returns-after-m-d : goal.returns-after-m-d
unfolding gap_on
returns-after-m-d c = rw (c.in-Ok.is, c.pass_blanks-m.ensures.0, sym c.skip_gap.ensures)

pub returns-in-Err : goal.returns-in-Err
unfolding gap_on
returns-in-Err c = rw c.in-Err.is

pub skip_gap-requires : goal.skip_gap-requires
skip_gap-requires c = c.requires
