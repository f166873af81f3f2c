-- `writes::texts::text_fits` meets its contract.
use mathlib.Core.Path.{◌≡◌, sym, ◌∙◌}
use mathlib.Core.Bool.{false, and-true, and-false}
use mathlib.Core.List.{List}
use Prim.Native.Nat.{ℕ, ◌-◌, ◌≤◌, ◌<◌}
use native.Mathlib.Omega.{arith}
use borrow.Author.Tests.{lt-ltb, le-ltb, lt-leb, le-leb}
use lib.Dec.{ltb}
use lib.ListN.{length, get_or}
use Rattle.fields.specs.rule.Field.{all_plain, text_fits}
use Rattle.writes.proofs.texts.text_fits.Goals as goal

empty : (w : ℕ) (s : List ℕ) → length s ≡ 0 → false ≡ text_fits w s
unfolding text_fits
empty w s e = rw (le-ltb 0 (length s) (omega arith))

wide : (w : ℕ) (s : List ℕ) → w < length s → false ≡ text_fits w s
unfolding text_fits
wide w s h = rw (lt-leb (length s) w h) (sym (and-false (ltb 0 (length s))))

ended : (w : ℕ) (s : List ℕ) → get_or s (length s - 1) 0 ≤ 32 → length s ≤ w → 0 < length s → false ≡ text_fits w s
unfolding text_fits
ended w s h l p = rw (lt-ltb 0 (length s) p, le-leb (length s) w l, le-ltb 32 (get_or s (length s - 1) 0) h) (sym (and-false (all_plain s)))

plain : (w : ℕ) (s : List ℕ) → 32 < get_or s (length s - 1) 0 → length s ≤ w → 0 < length s → all_plain s ≡ text_fits w s
unfolding text_fits
plain w s h l p = rw (lt-ltb 0 (length s) p, le-leb (length s) w l, lt-ltb 32 (get_or s (length s - 1) 0) h) (sym (and-true (all_plain s)))

pub returns-then-text-n-le32 : goal.returns-then-text-n-le32
returns-then-text-n-le32 c = ended _ _ c.if-text-n-le32.true c.if-w-n.false (omega arith)

pub returns : goal.returns
returns c = c.plain.ensures ∙ plain _ _ c.if-text-n-le32.false c.if-w-n.false (omega arith)

pub returns-then-n-eq0 : goal.returns-then-n-eq0
returns-then-n-eq0 c = empty _ _ c.if-n-eq0.true

pub returns-then-w-n : goal.returns-then-w-n
returns-then-w-n c = wide _ _ c.if-w-n.true
