use mathlib.Core.Path.{sym}
use native.Mathlib.Omega.{arith}
use Rattle.sound.specs.Types.{single_good, multiple_good, quantity_good, type_unknown}
use Rattle.sound.proofs.type_good.Goals as goal

pub returns-in-1 : goal.returns-in-1
returns-in-1 c = rw (c.valued.ensures, c.undivided.ensures, c.whole.ensures)
    (sym (single_good _ c.in-1.is))

pub returns-in-2 : goal.returns-in-2
returns-in-2 c = rw (c.valued-in-2.ensures, c.whole-in-2.ensures)
    (sym (multiple_good _ c.in-2.is))

pub returns-in-3 : goal.returns-in-3
returns-in-3 c = rw (c.valued-in-3.ensures, c.format_good.ensures, c.undivided-in-3.ensures)
    (sym (quantity_good _ c.in-3.is))

pub returns-in_default : goal.returns-in_default
returns-in_default c =
    let r = c.in_default.in_default-own.rest in
    let l = c.requires in
    sym (type_unknown c.args.c r.0.0.1 r.0.1 r.1 (λ q. omega arith) (λ q. omega arith))
