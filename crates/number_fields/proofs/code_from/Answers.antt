-- `number_fields::code_from` meets its contract.
use native.Mathlib.Omega.{arith}
use Rattle.number_fields.specs.Reads.{code_none, code_first}
use Rattle.number_fields.proofs.code_from.Goals as goal

pub overflow_sub-b : goal.overflow_sub-b
overflow_sub-b c = let e = c.is_digit.ensures c.if-not-is_digit.false in omega (arith, e.0)

pub overflow_cast-b : goal.overflow_cast-b
overflow_cast-b c = let e = c.is_digit.ensures c.if-not-is_digit.false in omega (arith, e.0, e.1)

pub code_more-requires : goal.code_more-requires
code_more-requires c =
    let e = c.is_digit.ensures c.if-not-is_digit.false in (
      omega (arith, c.if-len-at.false, c.if-len-lt-AHEAD.false),
      omega (arith, e.0, c.if-b-eq48.false),
      omega (arith, e.0, e.1),
      code_first _ _ (omega (arith, c.if-len-at.false, c.if-len-lt-AHEAD.false)) e.0 e.1,
    )

pub returns-then-len-lt-AHEAD : goal.returns-then-len-lt-AHEAD
returns-then-len-lt-AHEAD c = code_none _ _

pub returns-then-len-at : goal.returns-then-len-at
returns-then-len-at c = code_none _ _

pub returns-then-not-is_digit : goal.returns-then-not-is_digit
returns-then-not-is_digit c = code_none _ _

pub returns-then-b-eq48 : goal.returns-then-b-eq48
returns-then-b-eq48 c = code_none _ _
