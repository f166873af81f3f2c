use mathlib.Core.Path.{◌≡◌, ◌∙◌, sym, ap}
use mathlib.Core.List.{List, ◌∷◌}
use Prim.Native.Nat.{◌+◌, ◌<◌}
use native.Mathlib.Omega.{arith}
use native.Mathlib.Numerals.{add-one}
use lib.ListN.{length, length-set, get_or}
use lib.Seq.{sets}
use mir.Facts.{to_z-of_z}
use borrow.Author.Rules.{sfits_of}
use Rattle.scan.specs.rule.Text.{text}
use Rattle.signs.specs.declared.Sign.{Sign}
use Rattle.signs.specs.declared.Sign.TheVariants.{Byte}
use Rattle.signs.specs.rule.Sign.{sign_number}
use Rattle.marks.specs.declared.Inside.TheVariants.{Plain}
use Rattle.marks.specs.rule.Spelling.{decode_of}
use Rattle.texts.specs.rule.Decode.{numbers_of}
use Rattle.texts.specs.Measured.{Form}
use Rattle.texts.proofs.Measures.{decode_kept, decode_dropped, next_stored}
use Rattle.texts.proofs.Shorts.{was_form}
use Rattle.texts.proofs.copy_plain.Goals as goal
use Rattle.texts.proofs.copy_plain.Goals.{Else-e-at, Then-b-ge32}

-- ---- a form that was told: what it says is the next to store
form : (c : Else-e-at) → Form c.args.s.now
    c.loop-i.i c.form_end-e.result
form c = was_form c.form_end-e.ensures c.if-e-at.false

form_room : (c : Else-e-at) → c.loop-i.m < length c.loop-i.list
form_room c =
    let l = c.loop-i in let e = ap length (form c).says.split in
    omega (arith, l.invariant.1, l.invariant.2, c.requires.n_in_bounds)

-- ---- a byte that is kept is the next to store
here : (c : Then-b-ge32) → let d = c.args.s.now in
    let i = c.loop-i.i in
    decode_of Plain 0 (text d i) ≡ Byte (get_or d i 0) ∷ decode_of Plain 0 (text d (i + 1))
here c = decode_kept c.args.s.now
    c.loop-i.i c.loop-i-test.true c.if-b-ge32.true
    (sym c.marked.ensures ∙ c.if-marked.false)

room : (c : Then-b-ge32) → c.loop-i.m
    < length c.loop-i.list
room c = let l = c.loop-i in let e = ap length (here c) in
    omega (arith, l.invariant.1, l.invariant.2, c.requires.n_in_bounds)

pub returns-then-e-at : goal.returns-then-e-at
returns-then-e-at c = let l = c.loop-i in
    record { same_left = l.invariant.0; same_count = l.invariant.1; same_room = l.invariant.2; ahead = l.invariant.3 }

pub loop-i-smaller-then-marked : goal.loop-i-smaller-then-marked
loop-i-smaller-then-marked c = let s = (form (goal.at.loop-i-smaller-then-marked c).Else-e-at).says in omega (arith, s.ahead, s.within)

pub loop-i-preserved-then-marked : goal.loop-i-preserved-then-marked
loop-i-preserved-then-marked c =
    let l = c.loop-i in
    let s = (form (goal.at.loop-i-preserved-then-marked c).Else-e-at).says in
    let n = ap length s.split in (
      l.invariant.0
          ∙ rw (
            to_z-of_z (sfits_of c.cell_of.type_inv),
            c.cell_of.ensures,
            c.number_of.ensures.0,
            c.form_sign.ensures,
            add-one l.m,
          )
          (next_stored l.list l.m s.split),
      l.invariant.1 ∙ omega arith,
      simp length-set l.invariant.2,
      omega (arith, l.invariant.3),
    )

pub loop-i-preserved-then-b-ge32 : goal.loop-i-preserved-then-b-ge32
unfolding numbers_of sign_number
loop-i-preserved-then-b-ge32 c =
    let l = c.loop-i in
    let e = here (goal.at.loop-i-preserved-then-b-ge32 c).Then-b-ge32 in
    let n = ap length e in (
      l.invariant.0
          ∙ rw (
            to_z-of_z (sfits_of c.cell_of-then-b-ge32.type_inv),
            c.cell_of-then-b-ge32.ensures,
            c.number_of-then-b-ge32.ensures.0,
            add-one l.m,
          )
          (ap (λ (x : List Sign). sets l.list l.m (numbers_of x)) e),
      l.invariant.1 ∙ omega arith,
      simp length-set l.invariant.2,
      omega (arith, l.invariant.3),
    )

pub loop-i-preserved : goal.loop-i-preserved
loop-i-preserved c =
    let args = c.args in
    let l = c.loop-i in
    let low : get_or args.s.now l.i 0 < 32 = omega (arith, c.if-b-ge32.false) in
    let e = decode_dropped args.s.now l.i c.loop-i-test.true low in
    (rw e at l.invariant.0, rw e at l.invariant.1, l.invariant.2, l.invariant.3)

pub returns : goal.returns
returns c = let l = c.loop-i in record {
  same_left = l.invariant.0;
  same_count = l.invariant.1;
  same_room = l.invariant.2;
  ahead = l.invariant.3;
}

pub form_end-e-requires : goal.form_end-e-requires
form_end-e-requires c = record {
  classes = c.requires.classes;
  n_in_bounds = omega arith;
}

pub shape_of-list-then-e-at : goal.shape_of-list-then-e-at
shape_of-list-then-e-at c = c.loop-i.invariant.2

pub form_sign-requires : goal.form_sign-requires
form_sign-requires c = record {
  classes = c.requires.classes;
  form = form c;
}

pub cell_of-requires : goal.cell_of-requires
cell_of-requires c = omega (arith, c.number_of.ensures.1)

pub offset_bounds-list-m : goal.offset_bounds-list-m
offset_bounds-list-m c = omega (arith, form_room (goal.at.offset_bounds-list-m c).Else-e-at)

pub bounds-list-m : goal.bounds-list-m
bounds-list-m c = omega (arith, form_room (goal.at.bounds-list-m c).Else-e-at)

pub overflow_add-m : goal.overflow_add-m
overflow_add-m c = omega (arith, form_room (goal.at.overflow_add-m c).Else-e-at)

pub cell_of-requires-then-b-ge32 : goal.cell_of-requires-then-b-ge32
cell_of-requires-then-b-ge32 c = omega (arith, c.number_of-then-b-ge32.ensures.1)

pub offset_bounds-list-m-then-b-ge32 : goal.offset_bounds-list-m-then-b-ge32
offset_bounds-list-m-then-b-ge32 c = omega (arith, room (goal.at.offset_bounds-list-m-then-b-ge32 c).Then-b-ge32)

pub bounds-list-m-then-b-ge32 : goal.bounds-list-m-then-b-ge32
bounds-list-m-then-b-ge32 c = omega (arith, room (goal.at.bounds-list-m-then-b-ge32 c).Then-b-ge32)

pub overflow_add-m-then-b-ge32 : goal.overflow_add-m-then-b-ge32
overflow_add-m-then-b-ge32 c = omega (arith, room (goal.at.overflow_add-m-then-b-ge32 c).Then-b-ge32)

pub shape_of-list : goal.shape_of-list
shape_of-list c = c.loop-i.invariant.2
