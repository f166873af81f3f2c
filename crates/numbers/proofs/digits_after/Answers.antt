use mathlib.Core.Path.{◌≡◌, sym, ◌∙◌}
use mathlib.Core.Bool.{true, false, and-false}
use mathlib.Core.List.{List}
use Prim.Native.Nat.{ℕ, suc, ◌+◌, ◌-◌, ◌*◌, ◌^◌, ◌≤◌, ◌<◌}
use native.Mathlib.Numerals.{add-one}
use borrow.Author.Tests.{le-leb, lt-leb}
use lib.Dec.{leb}
use lib.ListN.{length, get_or, drop, drop_of_length-le}
use lib.Seq.{drop-cons}
use Rattle.ascii.specs.rule.Class.{within}
use Rattle.fields.specs.rule.Number.{digits_only, decimal_from}
use Rattle.numbers.specs.Numeral.{digits_read}
use Rattle.numbers.specs.Room.{step_room, room_small}
use Rattle.std.specs.Prelude.{Some, None}
use native.Mathlib.Omega.{arith}
use Rattle.numbers.proofs.digits_after.Goals as goal

digit : (n : ℕ) (s : List ℕ) (i : ℕ) (h : i < length s) → within 48 57 (get_or s i 0) ≡ true → digits_read n (drop i s)
    ≡ digits_read (n * 10 + (get_or s i 0 - 48)) (drop (i + 1) s)
unfolding digits_read digits_only decimal_from
digit n s i h e = rw (drop-cons s i 0, e, add-one)

not_digit : (n : ℕ) (s : List ℕ) (i : ℕ) (h : i < length s) → within 48 57 (get_or s i 0) ≡ false → digits_read n (drop i s) ≡ None
unfolding digits_read digits_only
not_digit n s i h e = rw (drop-cons s i 0, e)

none : (n : ℕ) (s : List ℕ) (i : ℕ) → length s ≤ i → digits_read n (drop i s) ≡ Some n
unfolding digits_read digits_only decimal_from
none n s i h = rw (drop_of_length-le _ h)

above : (b : ℕ) → 57 < b → within 48 57 b ≡ false
above b h = rw (lt-leb b 57 h) (and-false (leb 48 b))

pub returns-then-b-lt48 : goal.returns-then-b-lt48
returns-then-b-lt48 c = sym (not_digit _ _ _ c.loop-b-test.true (rw (lt-leb _ _ c.if-b-lt48.true))) ∙ c.loop-b.invariant.1

pub returns-then-b-gt57 : goal.returns-then-b-gt57
returns-then-b-gt57 c = sym (not_digit _ _ _ c.loop-b-test.true (above _ c.if-b-gt57.true)) ∙ c.loop-b.invariant.1

pub overflow_mul-value : goal.overflow_mul-value
overflow_mul-value c = omega (arith, room_small c.loop-b.value (length c.args.s.now - c.loop-b.b-index) (10 ^ 18) c.loop-b.invariant.0)

pub overflow_add-value : goal.overflow_add-value
overflow_add-value c = omega (
  arith,
  room_small c.loop-b.value (length c.args.s.now - c.loop-b.b-index) (10 ^ 18)
      c.loop-b.invariant.0,
)

pub loop-b-preserved : goal.loop-b-preserved
loop-b-preserved c =
    let s = c.args.s.now in
    let b = get_or s c.loop-b.b-index 0 in
    let e : length s - c.loop-b.b-index ≡ suc (length s - (c.loop-b.b-index + 1)) = omega arith in
    let r : (c.loop-b.value + 1) * 10 ^ suc (length s - (c.loop-b.b-index + 1)) ≤ 10 ^ 18 = rw e at c.loop-b.invariant.0 in
    let v : c.loop-b.value * 10 + c.from.result - 48 ≡ c.loop-b.value * 10 + (b - 48) = omega (arith, c.from.ensures) in (
      rw v (step_room _ _ _ _ (omega arith) r),
      rw v (sym (digit _ _ _ c.loop-b-test.true
          (rw (le-leb _ _ c.if-b-lt48.false, le-leb _ _ c.if-b-gt57.false))) ∙ c.loop-b.invariant.1),
    )

pub returns : goal.returns
returns c = sym (none _ _ _ c.loop-b-test.false) ∙ c.loop-b.invariant.1
