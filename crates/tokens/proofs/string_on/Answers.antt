use native.Mathlib.Omega.{arith}
use Rattle.tokens.specs.Gap.{gap_on}
use Rattle.tokens.specs.Token.{string_on}
use Rattle.tokens.proofs.Gaps.{gap_token}
use Rattle.tokens.proofs.string_on.Goals as goal

-- the closing quote was found at a look
pub overflow_add-result : goal.overflow_add-result
overflow_add-result c = let z = c.closing-m.ensures c.if-m-d.true in omega arith

pub overflow_sub-result : goal.overflow_sub-result
overflow_sub-result c = let z = c.closing-m.ensures c.if-m-d.true in omega arith

pub overflow_sub-result-then-m-d : goal.overflow_sub-result-then-m-d
overflow_sub-result-then-m-d c = let z = c.closing-m.ensures c.if-m-d.true in omega arith

pub returns-then-m-d : goal.returns-then-m-d
unfolding string_on gap_on
returns-then-m-d c =
    let z = c.closing-m.ensures c.if-m-d.true in
    let p = c.pass_blanks-q in
    rw (
      c.in-Ok.is,
      p.ensures.0,
      gap_token c.args.d.now p.result (omega arith) (omega arith)
          (λ e. omega arith),
      z.2,
    )

pub returns-else-m-d : goal.returns-else-m-d
unfolding string_on gap_on
returns-else-m-d c = rw (c.in-Ok.is, c.pass_blanks-q.ensures.0)
    c.string_apart.ensures

pub returns-in-Err : goal.returns-in-Err
unfolding string_on gap_on
returns-in-Err c = rw c.in-Err.is

pub string_apart-requires : goal.string_apart-requires
string_apart-requires c = c.requires
