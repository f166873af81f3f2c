use mathlib.Core.Path.{◌≡◌, refl, ap, ◌∙◌}
use mathlib.Core.List.{◌∷◌}
use Prim.Native.Nat.{◌+◌}
use native.Mathlib.Omega.{arith}
use native.Mathlib.Numerals.{add-one}
use borrow.Author.Rules.{sfits_of}
use lib.IntN.{pos}
use lib.ListN.{length}
use mir.Facts.{to_z-of_z}
use native.Mathlib.Nat.{sub-zero}
use Rattle.sets.specs.Full.{always}
use Rattle.sets.proofs.BitLaws.{rest_set, member, no_member, set_end}
use Rattle.sets.proofs.FillLaws.{filled}
use Rattle.sets.proofs.bits.fill_each.Goals as goal
use Rattle.sets.proofs.bits.fill_each.Goals.{Then-bytes-at-eq49, then-bytes-at-eq49, else-bytes-at-eq49}

-- a category that is set: the members that are left
here : (c : Then-bytes-at-eq49) → let a = c.args in
    let i = c.loop-i.i in
    rest_set always a.w a.bytes.now a.at i ≡ pos (i + 1) ∷ rest_set always a.w a.bytes.now a.at (i + 1)
here c = member always c.args.w c.loop-i.i
    c.loop-i-test.true c.args.bytes.now
    c.args.at refl c.if-bytes-at-eq49.true

pub loop-i-preserved : goal.loop-i-preserved
loop-i-preserved c =
    let a = c.args in
    let l = c.loop-i in
    elim c.if-bytes-at-eq49.branch [
      | then-bytes-at-eq49 w ↦
          let m = member always a.w l.i c.loop-i-test.true a.bytes.now a.at refl w.if-bytes-at-eq49.true in
          let e = ap length m in
          rw (w.list-is, w.n-is) (
            omega arith,
            rw (to_z-of_z (sfits_of w.cell_of.type_inv), w.cell_of.ensures, add-one l.n) (rw m at l.invariant.1),
          )
      | else-bytes-at-eq49 w ↦
          rw (w.list-is, w.n-is, ← no_member always a.w l.i c.loop-i-test.true a.bytes.now a.at refl w.if-bytes-at-eq49.false) l.invariant
    ]

pub returns : goal.returns
returns c =
    let a = c.args in
    (rw (set_end always a.w a.bytes.now a.at c.loop-i.i c.loop-i-test.false) at c.loop-i.invariant.1)
    ∙ (rw (sub-zero a.w) (filled _ _ c.requires.bytes_in_bounds))

pub bounds-list-n : goal.bounds-list-n
bounds-list-n c = let e = ap length (here (goal.at.bounds-list-n c).Then-bytes-at-eq49) in omega arith
