-- `bare_digits::send_code` meets its contract: what follows the spaces, and the zeros behind them.
use mathlib.Core.Path.{◌≡◌, sym, ap, ◌∙◌}
use mathlib.Core.List.{List}
use Prim.Native.Nat.{ℕ, ◌+◌, ◌-◌, ◌≤◌}
use native.Mathlib.Omega.{arith}
use lib.ListN.{length, take, drop, length-drop}
use lib.Seq.{drop-drop}
use Rattle.fields.specs.rule.Number.{unspaced}
use Rattle.numbers.proofs.Laws.{rest_is}
use Rattle.sink.specs.Sent.{sent_as}
use Rattle.bare_digits.specs.Bare.{unled, unled_spaces}
use Rattle.bare_digits.proofs.send_code.Goals as goal

left : (s : List ℕ) (p r : ℕ) → p ≤ length s → unled 32 s ≡ drop p s
    → r ≤ length (take (length s - p) (drop p s))
    → unled 48 (take (length s - p) (drop p s)) ≡ drop r (take (length s - p) (drop p s))
    → take (length s - (p + r)) (drop (p + r) s) ≡ unled 48 (unspaced s)
left s p r h e g f =
    let k : r ≤ length (drop p s) = rw (rest_is s p h) at g in
    let d = length-drop p s in
    rest_is s (p + r) (omega arith) ∙ sym (drop-drop r p s)
    ∙ sym (ap (unled 48) (sym (unled_spaces s) ∙ e) ∙ rw (rest_is s p h) at f)

pub returns : goal.returns
returns c =
    sent_as c.send_bytes.ensures (left c.args.s.now c.leading-p.result
    c.leading.result c.leading-p.ensures.0 c.leading-p.ensures.1 c.leading.ensures.0
    c.leading.ensures.1)
