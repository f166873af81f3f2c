use mathlib.Core.Path.{◌∙◌, sym, ap}
use Prim.Native.Nat.{◌+◌, ◌<◌}
use native.Mathlib.Omega.{arith}
use native.Mathlib.Numerals.{add-one}
use lib.ListN.{length, length-set, get_or}
use mir.Facts.{to_z-of_z}
use borrow.Author.Rules.{sfits_of}
use Rattle.signs.specs.declared.Sign.TheVariants.{Byte}
use Rattle.signs.specs.rule.Sign.{sign_number}
use Rattle.marks.specs.declared.Inside.TheVariants.{Pair}
use Rattle.marks.specs.rule.Spelling.{hex_pair}
use Rattle.texts.specs.Measured.{Says}
use Rattle.texts.proofs.Measures.{next_stored}
use Rattle.texts.proofs.Shorts.{pair_step}
use Rattle.texts.proofs.copy_pairs.Goals as goal
use Rattle.texts.proofs.copy_pairs.Goals.{Else-not-is_hex-2}

-- the pair is the next to store
here : (c : Else-not-is_hex-2)
    → let args = c.args in let d = args.s.now in
    let i = c.loop-i.i in
    Says d (Pair args.o) i (Byte (hex_pair (get_or d i 0) (get_or d (i + 1) 0))) (i + 2) (Pair args.o)
here c = pair_step _ _ _ (omega arith) (sym c.is_hex.ensures ∙ c.if-not-is_hex.false)
    (sym c.is_hex-in-loop-i.ensures ∙ c.if-not-is_hex-2.false)

room : (c : Else-not-is_hex-2) → c.loop-i.m < length c.loop-i.list
room c =
    let l = c.loop-i in let e = ap length (here c).split in
    omega (arith, l.invariant.1, l.invariant.2, c.requires.n_in_bounds)

pub returns-then-s-i-lt2 : goal.returns-then-s-i-lt2
returns-then-s-i-lt2 c = let l = c.loop-i in record
    { same_left = l.invariant.0; same_count = l.invariant.1; same_room = l.invariant.2; ahead = l.invariant.3 }

pub returns-then-not-is_hex : goal.returns-then-not-is_hex
returns-then-not-is_hex c = let l = c.loop-i in
    record { same_left = l.invariant.0; same_count = l.invariant.1; same_room = l.invariant.2; ahead = l.invariant.3 }

pub returns-then-not-is_hex-2 : goal.returns-then-not-is_hex-2
returns-then-not-is_hex-2 c = let l = c.loop-i in
    record { same_left = l.invariant.0; same_count = l.invariant.1; same_room = l.invariant.2; ahead = l.invariant.3 }

pub loop-i-preserved : goal.loop-i-preserved
unfolding sign_number
loop-i-preserved c =
    let l = c.loop-i in
    let s = here (goal.at.loop-i-preserved c).Else-not-is_hex-2 in
    let n = ap length s.split in (
      l.invariant.0
          ∙ rw (
            to_z-of_z (sfits_of c.cell_of.type_inv),
            c.cell_of.ensures,
            c.number_of.ensures.0,
            c.hex_value-high.ensures.0,
            c.hex_value.ensures.0,
            add-one l.m,
          )
          (next_stored l.list l.m s.split),
      l.invariant.1 ∙ omega arith,
      simp length-set l.invariant.2,
      omega (arith, l.invariant.3),
    )

pub returns : goal.returns
returns c = let l = c.loop-i in record {
  same_left = l.invariant.0;
  same_count = l.invariant.1;
  same_room = l.invariant.2;
  ahead = l.invariant.3;
}

pub shape_of-list-then-s-i-lt2 : goal.shape_of-list-then-s-i-lt2
shape_of-list-then-s-i-lt2 c = c.loop-i.invariant.2

pub is_hex-requires : goal.is_hex-requires
is_hex-requires c = c.requires.classes

pub shape_of-list-then-not-is_hex : goal.shape_of-list-then-not-is_hex
shape_of-list-then-not-is_hex c = c.loop-i.invariant.2

pub is_hex-requires-in-loop-i : goal.is_hex-requires-in-loop-i
is_hex-requires-in-loop-i c = c.requires.classes

pub shape_of-list-then-not-is_hex-2 : goal.shape_of-list-then-not-is_hex-2
shape_of-list-then-not-is_hex-2 c = c.loop-i.invariant.2

pub hex_value-high-requires : goal.hex_value-high-requires
hex_value-high-requires c = record {
  classes = c.requires.classes;
  b_value = sym c.is_hex.ensures ∙ c.if-not-is_hex.false;
}

pub overflow_mul-high : goal.overflow_mul-high
overflow_mul-high c = omega (arith, c.hex_value-high.ensures.1)

pub hex_value-requires : goal.hex_value-requires
hex_value-requires c = record {
  classes = c.requires.classes;
  b_value = sym c.is_hex-in-loop-i.ensures ∙ c.if-not-is_hex-2.false;
}

pub overflow_add-high : goal.overflow_add-high
overflow_add-high c = omega (arith, c.hex_value-high.ensures.1, c.hex_value.ensures.1)

pub cell_of-requires : goal.cell_of-requires
cell_of-requires c = omega (arith, c.number_of.ensures.1)

pub offset_bounds-list-m : goal.offset_bounds-list-m
offset_bounds-list-m c = omega (arith, room (goal.at.offset_bounds-list-m c).Else-not-is_hex-2)

pub bounds-list-m : goal.bounds-list-m
bounds-list-m c = omega (arith, room (goal.at.bounds-list-m c).Else-not-is_hex-2)

pub overflow_add-m : goal.overflow_add-m
overflow_add-m c = omega (arith, room (goal.at.overflow_add-m c).Else-not-is_hex-2)

pub shape_of-list : goal.shape_of-list
shape_of-list c = c.loop-i.invariant.2
