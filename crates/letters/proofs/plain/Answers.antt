use mathlib.Core.Path.{◌≡◌, sym, ◌∙◌}
use mathlib.Core.Bool.{true, false}
use mathlib.Core.List.{List}
use Prim.Native.Nat.{ℕ, ◌+◌, ◌≤◌, ◌<◌}
use native.Mathlib.Numerals.{add-one}
use borrow.Author.Tests.{le-leb, lt-leb}
use lib.ListN.{length, get_or, drop}
use Rattle.fields.specs.rule.Field.{all_plain}
use lib.ListN.{drop_of_length-le}
use lib.Seq.{drop-cons}
use Rattle.letters.proofs.plain.Goals as goal

good : (s : List ℕ) (i : ℕ) (h : i < length s) → 32 ≤ get_or s i 0 → all_plain (drop i s) ≡ all_plain (drop (i + 1) s)
unfolding all_plain
good s i h e = rw (drop-cons s i 0, le-leb _ _ e, add-one)

bad : (s : List ℕ) (i : ℕ) (h : i < length s) → get_or s i 0 < 32 → all_plain (drop i s) ≡ false
unfolding all_plain
bad s i h e = rw (drop-cons s i 0, lt-leb _ _ e)

none : (s : List ℕ) (i : ℕ) → length s ≤ i → all_plain (drop i s) ≡ true
unfolding all_plain
none s i h = rw (drop_of_length-le _ h)

pub returns-then-b-lt32 : goal.returns-then-b-lt32
returns-then-b-lt32 c = sym (bad _ _ c.loop-b-test.true c.if-b-lt32.true) ∙ c.loop-b.invariant

pub loop-b-preserved : goal.loop-b-preserved
loop-b-preserved c = sym (good _ _ c.loop-b-test.true c.if-b-lt32.false) ∙ c.loop-b.invariant

pub returns : goal.returns
returns c = sym (none _ _ c.loop-b-test.false) ∙ c.loop-b.invariant
