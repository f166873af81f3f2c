-- `numbers::amount` meets its contract: too short, bad digits, no point where it has its place, or a number.
use mathlib.Core.Path.{◌≡◌, sym, ap, ◌∙◌}
use Prim.Native.Nat.{◌+◌, ◌-◌, ◌≤◌, ◌<◌}
use native.Mathlib.Omega.{arith}
use borrow.Author.Rules.{sfits_of}
use borrow.Author.Tests.{ltb-true, ltb-false}
use lib.ListN.{length, take, length-take}
use mir.Facts.{to_z-of_z}
use Rattle.widths.specs.rule.Width.{tail_of, least_whole}
use Rattle.widths.specs.Width.{tail_point, tail_few}
use Rattle.fields.specs.rule.Number.{says}
use Rattle.numbers.specs.Numeral.{said_of, decimals_read}
use Rattle.numbers.proofs.Laws.{rest_is, few_digits, value_small, amount_short, amount_bad, amount_plain, amount_pointless}
use Rattle.numbers.proofs.Laws.{amount_decimals, decimals_room}
use mir.Syntax.{w64}
use Rattle.numbers.proofs.amount.Goals as goal
use Rattle.numbers.proofs.amount.Goals.{Else-f-eq0, Else-too_short}

-- where the point has its place: before the tail
place : (c : Else-too_short) → length c.args.s.now - c.tail-tail.result
    ≡ length c.args.s.now - tail_of c.args.f
place c = rw c.tail-tail.ensures

room : (c : Else-too_short) → least_whole c.args.f + tail_of c.args.f
    ≤ length c.args.s.now
room c = ltb-false _ _ (sym c.too_short.ensures ∙ c.if-too_short.false)

short : (c : Else-too_short) → length (take (length c.args.s.now - c.tail-tail.result)
    c.args.s.now) ≤ 17
short c = simp length-take (omega arith)

-- where the block has a point, its place lies before the end
inner : (c : Else-f-eq0) → length c.args.s.now -
    c.tail-tail.result
    < length c.args.s.now
inner c =
    let t = tail_point c.args.f c.if-f-eq0.false in omega (
      arith,
      c.tail-tail.ensures,
      room (goal.at.Else-f-eq0 c).Else-too_short,
    )

pub returns-then-too_short : goal.returns-then-too_short
unfolding said_of
returns-then-too_short c = sym (amount_short _ _ _ (ltb-true _ _ (sym c.too_short.ensures ∙ c.if-too_short.true)))

pub too_short-requires : goal.too_short-requires
too_short-requires c = (c.tail-tail.ensures, rw c.tail-tail.ensures (tail_few _ c.requires.format_facts.few))

pub digits_after-requires : goal.digits_after-requires
digits_after-requires c =
    let l = short (goal.at.digits_after-requires c).Else-too_short in few_digits (take
    (length c.args.s.now - c.tail-tail.result)
    c.args.s.now) (omega arith)

pub signed-requires : goal.signed-requires
signed-requires c = value_small _ _ (short (goal.at.signed-requires c).Else-too_short)
    (sym c.digits_after.ensures ∙ c.in-Some.is)

pub returns-then-f-eq0 : goal.returns-then-f-eq0
unfolding said_of
returns-then-f-eq0 c =
    ap says (to_z-of_z {w = w64} (sfits_of c.signed.type_inv) ∙ c.signed.ensures)
    ∙ sym (amount_plain _ _ _ _ (place (goal.at.returns-then-f-eq0 c).Else-too_short) (room (goal.at.returns-then-f-eq0 c).Else-too_short) _
    (sym c.digits_after.ensures ∙ c.in-Some.is) c.if-f-eq0.true
    (c.requires.format_facts.plain c.if-f-eq0.true))

pub returns-then-s-k-ne46 : goal.returns-then-s-k-ne46
unfolding said_of
returns-then-s-k-ne46 c =
    sym (amount_pointless _ _ _ _ (place (goal.at.returns-then-s-k-ne46 c).Else-too_short)
    (room (goal.at.returns-then-s-k-ne46 c).Else-too_short) _
    (sym c.digits_after.ensures ∙ c.in-Some.is) c.if-f-eq0.false c.if-s-k-ne46.true)

pub bounds-s-k : goal.bounds-s-k
bounds-s-k c = inner (goal.at.bounds-s-k c).Else-f-eq0

pub decimals_after-requires : goal.decimals_after-requires
decimals_after-requires c =
    let args = c.args in
    let h = inner (goal.at.decimals_after-requires c).Else-f-eq0 in
    decimals_room args.s.now (length args.s.now - c.tail-tail.result) _ (omega arith)
    (omega arith) (sym c.digits_after.ensures ∙ c.in-Some.is)

pub returns-else-s-k-ne46 : goal.returns-else-s-k-ne46
returns-else-s-k-ne46 c =
    let args = c.args in
    let h = inner (goal.at.returns-else-s-k-ne46 c).Else-f-eq0 in
    c.decimals_after.ensures ∙ ap (decimals_read args.minus c.in-Some.whole)
    (rest_is args.s.now (length args.s.now - c.tail-tail.result + 1) (omega arith))
    ∙ sym (amount_decimals _ _ _ _ (place (goal.at.returns-else-s-k-ne46 c).Else-too_short)
    (room (goal.at.returns-else-s-k-ne46 c).Else-too_short) _ (sym c.digits_after.ensures
    ∙ c.in-Some.is) c.if-f-eq0.false c.if-s-k-ne46.false)

pub returns-in-None : goal.returns-in-None
unfolding said_of
returns-in-None c = sym (amount_bad _ _ _ _ (place (goal.at.returns-in-None c).Else-too_short)
    (room (goal.at.returns-in-None c).Else-too_short)
    (sym c.digits_after.ensures ∙ c.in-None.is))
