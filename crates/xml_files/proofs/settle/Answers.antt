use mathlib.Core.Path.{◌≡◌}
use mathlib.Core.Bool.{true, false}
use Rattle.xml_files.proofs.Settles.{plain_settled, good_settled, bad_settled}
use Rattle.xml_files.proofs.settle.Goals as goal

pub returns-then-not-standard : goal.returns-then-not-standard
returns-then-not-standard c =
    let a = c.args in
    let s : a.standard ≡ false = c.if-not-standard.true in
    rw s (plain_settled a.latin a.d.now a.y a.rows.now)

pub returns-then-i-y : goal.returns-then-i-y
returns-then-i-y c =
    let a = c.args in
    let s : a.standard ≡ true = c.if-not-standard.false in
    rw s (bad_settled a.latin a.d.now a.y a.rows.now _ c.names_fault-i.ensures _
    c.if-i-y.true c.name_place.ensures)

pub returns : goal.returns
returns c =
    let a = c.args in
    let s : a.standard ≡ true = c.if-not-standard.false in
    rw s (good_settled a.latin a.d.now a.y a.rows.now _ c.names_fault-i.ensures c.if-i-y.false)
