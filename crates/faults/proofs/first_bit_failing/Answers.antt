use mathlib.Core.Path.{◌≡◌, sym, ap, ◌∙◌}
use mathlib.Core.Bool.{false}
use lib.IntN.{pos}
use mir.Facts.{to_z-of_z}
use mir.Syntax.{w64}
use Prim.Native.Nat.{◌+◌, ◌-◌}
use native.Mathlib.Nat.{sub-zero}
use borrow.Author.Rules.{sfits_of}
use Rattle.fields.specs.rule.Legal.{legal}
use Rattle.faults.proofs.Laws.{bit_here, bit_not, bit_on, bit_none}
use Rattle.faults.proofs.first_bit_failing.Goals as goal
use Rattle.faults.proofs.first_bit_failing.Goals.{After-is_legal, then-not-byte_passes+else-is_legal, else-not-byte_passes}

-- whether the row allows the category of a byte that fails
asked : (c : After-is_legal)
    → let args = c.args in
    c.is_legal.result ≡ legal args.t.now args.rows args.row
    (pos (c.loop-i.i + 1))
asked c =
    let args = c.args in
    c.is_legal.ensures ∙ ap (legal args.t.now args.rows args.row)
    (to_z-of_z {w = w64} (sfits_of c.cell_of.type_inv) ∙ c.cell_of.ensures)

pub returns-then-is_legal : goal.returns-then-is_legal
returns-then-is_legal c =
    let a = c.args in
    sym (bit_here a.x (legal a.t.now a.rows a.row) a.bytes.now (a.row.start - 1) a.row.width c.loop-i.i
    c.loop-i-test.true (sym c.byte_passes.ensures ∙ c.if-not-byte_passes.true)
    (sym (asked (goal.at.returns-then-is_legal c).After-is_legal) ∙ c.if-is_legal.true)) ∙ c.loop-i.invariant

pub loop-i-preserved : goal.loop-i-preserved
loop-i-preserved c =
    let a = c.args in
    let ok = legal a.t.now a.rows a.row in
    let at = a.row.start - 1 in
    let i = c.loop-i.i in
    elim c.if-not-byte_passes.branch [
      | then-not-byte_passes+else-is_legal w ↦
          let no : ok (pos (i + 1)) ≡ false =
          ap ok (sym (to_z-of_z {w = w64} (sfits_of w.cell_of.type_inv) ∙ w.cell_of.ensures)) ∙ sym w.is_legal.ensures
          ∙ w.if-is_legal.false in
          sym (bit_not a.x ok a.bytes.now at a.row.width i c.loop-i-test.true no) ∙ c.loop-i.invariant
      | else-not-byte_passes w ↦
          sym (bit_on a.x ok a.bytes.now at a.row.width i c.loop-i-test.true
          (sym c.byte_passes.ensures ∙ w.if-not-byte_passes.false)) ∙ c.loop-i.invariant
    ]

pub returns : goal.returns
returns c =
    let a = c.args in
    sym (bit_none a.x (legal a.t.now a.rows a.row) a.bytes.now (a.row.start - 1) a.row.width c.loop-i.i
    c.loop-i-test.false) ∙ c.loop-i.invariant

pub loop-i-init : goal.loop-i-init
loop-i-init c = rw sub-zero
