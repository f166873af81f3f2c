-- `number_fields::whole_from` meets its contract.
use native.Mathlib.Omega.{arith}
use Rattle.number_fields.specs.Reads.{whole_none, whole_one, whole_more}
use Rattle.number_fields.proofs.whole_from.Goals as goal

pub returns-then-not-is_digit : goal.returns-then-not-is_digit
returns-then-not-is_digit c = whole_none _ _ c.requires

pub overflow_sub-n : goal.overflow_sub-n
overflow_sub-n c = let d = c.is_digit.ensures c.if-not-is_digit.false in omega (arith, d.0)

pub overflow_cast-n : goal.overflow_cast-n
overflow_cast-n c = let d = c.is_digit.ensures c.if-not-is_digit.false in omega (arith, d.0, d.1)

pub returns-then-n-eq0 : goal.returns-then-n-eq0
returns-then-n-eq0 c =
    let d = c.is_digit.ensures c.if-not-is_digit.false in
    whole_one _ _ c.requires d.0 d.1

pub digits_from-requires : goal.digits_from-requires
digits_from-requires c =
    let d = c.is_digit.ensures c.if-not-is_digit.false in
    (omega (arith, c.requires), omega (arith, d.0, d.1))

pub returns : goal.returns
returns c =
    let d = c.is_digit.ensures c.if-not-is_digit.false in
    whole_more _ _ c.requires d.0 d.1 c.if-n-eq0.false c.digits_from.ensures
