use mathlib.Core.Path.{refl, ◌∙◌}
use native.Mathlib.Omega.{arith}
use borrow.Author.Rules.{sfits_of}
use mir.Facts.{to_z-of_z}
use Rattle.lines.specs.Appended.{all_left, none_left, left_as, keeps_room}
use Rattle.lines.specs.Lines.{code_step, code_ends, codes_over}
use mir.Syntax.{w64}
use Rattle.lines.proofs.append_others.Goals as goal

pub append_byte-end-requires : goal.append_byte-end-requires
append_byte-end-requires c = let l = c.loop-j.invariant in
    omega (
      arith,
      l.0,
      l.1,
      c.requires.codes.0.limit,
      c.requires.codes.2,
      c.loop-j-test.true,
    )

pub append_number-end-requires : goal.append_number-end-requires
append_number-end-requires c =
    let s = c.requires in
    let l = c.loop-j.invariant in
    let b = c.append_byte-end.ensures in
    let t = c.loop-j-test.true in
    let f = s.codes.0.few c.loop-j.j t in record {
      tens = s.tens;
      z_bound = (
        rw (to_z-of_z (sfits_of c.number.type_inv), c.number.ensures) (omega arith),
        omega (arith, l.0, l.1, s.codes.0.limit, s.codes.2, b.ends, keeps_room b),
      );
    }

pub loop-j-preserved : goal.loop-j-preserved
loop-j-preserved c =
    let s = c.requires in
    let l = c.loop-j.invariant in
    let b = c.append_byte-end.ensures in
    let m = c.append_number-end.ensures in
    let t = c.loop-j-test.true in
    let e = to_z-of_z {w = w64} (sfits_of c.number.type_inv) ∙ c.number.ensures in (
      keeps_room m ∙ keeps_room b ∙ l.0,
      omega (arith, l.1, code_ends s.codes.0 t e m, b.ends),
      code_step s.codes.0 t e l.2 b m,
    )

pub returns : goal.returns
returns c =
    let l = c.loop-j.invariant in
    let a = c.args in record {
      appended = none_left (omega (arith, l.0, l.1, c.requires.codes.0.limit, c.requires.codes.2))
          (left_as (codes_over a.list.now a.n _ c.loop-j-test.false) l.2);
      upper_bound = omega (arith, l.1, c.requires.codes.0.limit);
    }

pub loop-j-init : goal.loop-j-init
loop-j-init c = (refl, omega arith, all_left _ _ _)

pub shape_of-out : goal.shape_of-out
shape_of-out c = c.loop-j.invariant.0
