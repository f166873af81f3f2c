use mathlib.Core.Path.{◌≡◌}
use mathlib.Core.Bool.{true, false}
use Rattle.definition.proofs.Settles.{plain_settled, good_settled, bad_settled}
use Rattle.definition.proofs.settle.Goals as goal

pub returns-then-not-standard : goal.returns-then-not-standard
returns-then-not-standard c =
    let s : c.args.standard ≡ false = c.if-not-standard.true in
    rw s (plain_settled c.args.d.now c.args.y c.args.rows.now)

pub returns-then-i-y : goal.returns-then-i-y
returns-then-i-y c =
    let a = c.args in
    let s : a.standard ≡ true = c.if-not-standard.false in
    rw s (bad_settled a.d.now a.y a.rows.now _ c.names_fault-i.ensures _ _
    c.if-i-y.true c.name_place.ensures c.quote_before.ensures)

pub returns : goal.returns
returns c =
    let a = c.args in
    let s : a.standard ≡ true = c.if-not-standard.false in
    rw s (good_settled a.d.now a.y a.rows.now _ c.names_fault-i.ensures c.if-i-y.false)
