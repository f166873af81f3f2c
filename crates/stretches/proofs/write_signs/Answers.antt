use mathlib.Core.Path.{refl, sym, ap, ◌∙◌}
use native.Mathlib.Omega.{arith}
use lib.ListN.{length}
use native.Mathlib.Numerals.{add-one}
use lib.ListN.{length-set}
use lib.Seq.{sets}
use mir.Facts.{to_z-of_z}
use borrow.Author.Rules.{sfits_of}
use Rattle.texts.specs.rule.Decode.{numbers_of}
use Rattle.texts.proofs.Measures.{next_stored, all_written}
use Rattle.stretches.proofs.Outcomes.{begins, told_one, told_over}
use Rattle.stretches.proofs.write_signs.Goals as goal

pub loop-k-init : goal.loop-k-init
loop-k-init c =
    let a = c.args in
    let b = begins a.latin a.d.now a.at c.start_at-c.result c.start_at-c.ensures c.requires.at_in_bounds in (
      ap (λ s. sets a.list.now 0 (numbers_of s)) (sym b.signs),
      omega (arith, ap length b.signs, c.requires.count_value),
      refl,
      b.next,
      b.small,
    )

pub next_sign-requires : goal.next_sign-requires
next_sign-requires c = (c.loop-k.invariant.3, c.loop-k.invariant.4)

pub offset_bounds-list-k : goal.offset_bounds-list-k
offset_bounds-list-k c = omega (
  arith,
  c.loop-k.invariant.2,
  c.requires.count_in_bounds,
)

pub bounds-list-k : goal.bounds-list-k
bounds-list-k c = omega (
  arith,
  c.loop-k.invariant.2,
  c.requires.count_in_bounds,
)

pub loop-k-preserved : goal.loop-k-preserved
loop-k-preserved c =
    let l = c.loop-k in
    let o = told_one _ _ c.next_sign.ensures c.in-One.is in (
      l.invariant.0 ∙ rw (to_z-of_z (sfits_of c.cell_of.type_inv), c.cell_of.ensures, c.number_of.ensures.0, add-one l.k)
          (next_stored _ _ o.split),
      omega (arith, ap length o.split, l.invariant.1),
      simp length-set l.invariant.2,
      o.next,
      o.small,
    )

pub returns-in-Over : goal.returns-in-Over
returns-in-Over c =
    let l = c.loop-k in
    let e = told_over c.next_sign.ensures c.in-Over.is in
    all_written _ _ _ _ _ _ l.invariant.0 (ap length e) c.requires.count_value c.requires.count_in_bounds

pub returns : goal.returns
returns c = let l = c.loop-k in all_written _ _ _ _ _ _ l.invariant.0 (omega (arith, l.invariant.1))
    c.requires.count_value c.requires.count_in_bounds

pub cell_of-requires : goal.cell_of-requires
cell_of-requires c = omega (arith, c.number_of.ensures.1)

pub shape_of-list-in-Over : goal.shape_of-list-in-Over
shape_of-list-in-Over c = c.loop-k.invariant.2

pub shape_of-list : goal.shape_of-list
shape_of-list c = c.loop-k.invariant.2
