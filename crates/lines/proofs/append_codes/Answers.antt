-- `lines::append_codes` meets its contract: `-`, or the first code and the others.
use mathlib.Core.Path.{sym, ap, ◌∙◌}
use Prim.Native.Nat.{◌<◌}
use native.Mathlib.Omega.{arith}
use borrow.Author.Rules.{sfits_of}
use mir.Facts.{to_z-of_z}
use Rattle.lines.specs.rule.Text.{number_text}
use Rattle.lines.specs.Appended.{then, keeps_room, as_text}
use Rattle.lines.specs.Lines.{codes_first, codes_none, code_ends}
use mir.Syntax.{w64}
use Rattle.lines.proofs.append_codes.Goals as goal

pub returns-then-n-eq0 : goal.returns-then-n-eq0
returns-then-n-eq0 c = record {
  appended = as_text c.append_byte.ensures (codes_none _ _ c.if-n-eq0.true);
  upper_bound = omega (arith, c.append_byte.ensures.ends);
}

pub append_number-end-requires : goal.append_number-end-requires
append_number-end-requires c =
    let s = c.requires in
    let f = s.codes.0.few 0 (omega (arith, c.if-n-eq0.false)) in record {
      tens = s.tens;
      z_bound = (rw (to_z-of_z (sfits_of c.number.type_inv), c.number.ensures) (omega arith), omega (arith, s.codes.1));
    }

pub append_others-requires : goal.append_others-requires
append_others-requires c =
    let s = c.requires in
    let b = c.append_number-end.ensures in
    let e = to_z-of_z {w = w64} (sfits_of c.number.type_inv) ∙ c.number.ensures in
    let h : 0 < c.args.n = omega (arith, c.if-n-eq0.false) in
    let k = code_ends s.codes.0 h e b in record {
      tens = s.tens;
      codes = (
        s.codes.0,
        omega (arith, c.if-n-eq0.false),
        omega (arith, s.codes.1, b.ends, keeps_room b),
      );
    }

pub returns : goal.returns
returns c =
    let s = c.requires in
    let a = c.args in
    let b = c.append_number-end.ensures in
    let o = c.append_others.ensures in
    let e = to_z-of_z {w = w64} (sfits_of c.number.type_inv) ∙ c.number.ensures in
    let h : 0 < a.n = omega (arith, c.if-n-eq0.false) in
    let k = code_ends s.codes.0 h e b in record {
      appended = as_text (then (as_text b (ap number_text e)) o.appended) (sym (codes_first a.list.now a.n
          (omega (arith, c.if-n-eq0.false)) s.codes.0.many));
      upper_bound = omega (arith, o.upper_bound, b.ends);
    }
