-- `setbytes::judge::next_good` meets its contract.
use mathlib.Core.Path.{◌≡◌, sym, ◌∙◌}
use Prim.Native.Nat.{◌-◌}
use borrow.Author.Rules.{sfits_of}
use mir.Facts.{to_z-of_z}
use lib.Signed.{le_z}
use Rattle.cells.specs.rule.Cell.{cell}
use Rattle.setbytes.proofs.JudgeSteps.{not_good, is_good}
use Rattle.setbytes.proofs.judge.next_good.Goals as goal
use Rattle.setbytes.proofs.judge.next_good.Goals.{After-not_above}

-- what the comparison says
compared : (c : After-not_above) → c.not_above.result ≡ le_z (cell c.args.list.now c.args.k) (cell c.args.list.now (c.args.k - 1))
compared c =
    c.not_above.ensures
    ∙ rw (
      to_z-of_z (sfits_of c.number-x.type_inv),
      to_z-of_z (sfits_of c.number.type_inv),
      c.number-x.ensures,
      c.number.ensures,
    )

pub returns-then-not_above : goal.returns-then-not_above
returns-then-not_above c =
    not_good (cell c.args.list.now (c.args.k - 1)) (cell c.args.list.now c.args.k) _
    (sym (compared (goal.at.returns-then-not_above c).After-not_above) ∙ c.if-not_above.true)

pub returns : goal.returns
returns c =
    c.allows_number.ensures
    ∙ rw (to_z-of_z (sfits_of c.number-x.type_inv), c.number-x.ensures)
    (is_good (cell c.args.list.now (c.args.k - 1)) (cell c.args.list.now c.args.k) _
    (sym (compared (goal.at.returns c).After-not_above) ∙ c.if-not_above.false))
