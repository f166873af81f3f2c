-- `value_fields::send_hundreds` meets its contract.
use mathlib.Core.Path.{sym, ap}
use native.Mathlib.Omega.{arith}
use Rattle.sink.specs.Sent.{sent_as, nothing_sent}
use Rattle.value_fields.specs.rule.Values.{codes_behind}
use Rattle.value_fields.specs.Legal.{bits_over}
use Rattle.value_fields.proofs.send_hundreds.Goals as goal

pub returns-then-w-lt100 : goal.returns-then-w-lt100
unfolding codes_behind
returns-then-w-lt100 c =
    let a = c.args in
    sent_as (nothing_sent _ _ _) (sym (ap codes_behind (bits_over a.w a.bytes.now a.p 99 (omega (arith, c.if-w-lt100.true)))))
