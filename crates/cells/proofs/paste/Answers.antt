use mathlib.Core.Path.{◌≡◌, ◌∙◌}
use native.Mathlib.Numerals.{add-one}
use native.Mathlib.Omega.{arith}
use borrow.Author.Rules.{sfits_of}
use lib.IntN.{pos}
use lib.ListN.{length}
use lib.Seq as Seq
use mir.Facts.{to_z-of_z}
use Rattle.cells.specs.rule.Cell.{pasted}
use Rattle.cells.proofs.paste.Goals as goal

pub loop-j-init : goal.loop-j-init
loop-j-init c = Seq.paste-zero c.args.t.now c.args.at c.args.src.now

pub loop-j-preserved : goal.loop-j-preserved
loop-j-preserved c =
    let j = c.loop-j.j in
    rw (to_z-of_z (sfits_of c.x-1.given), add-one j, c.loop-j.invariant)
    (Seq.paste-suc c.args.t.now c.args.at c.args.src.now j (pos 0) (omega arith) (omega arith))

pub returns : goal.returns
unfolding pasted
returns c =
    let src = c.args.src.now in
    let e : c.loop-j.j ≡ length src = omega arith in
    c.loop-j.invariant ∙ rw (e, Seq.take-length src)
