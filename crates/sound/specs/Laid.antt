-- Lines laid one over the other: where what they make is low, each of them is plain; and what holds of all lines holds of a row's.
use Rattle.std.specs.Prelude.{◌≡◌, Bool, true, List, ℕ, ◌+◌, ◌≤◌, ◌<◌, ℤ}
use Rattle.std.proofs.Common.{zero-add, arith, le-leb}
use Rattle.std.specs.Int.Bits.{bit_or, or_add_and}
use Rattle.std.proofs.lemmas.Nat.{and_le_l, and_le_r}
use Rattle.below.specs.rule.Below.{all_below}
use Rattle.below.specs.Below.{all_none, all_more, all_at_lem, all_of}
use Rattle.layout.specs.rule.Layout.{line_base, line_at}
use Rattle.layout.specs.declared.Line.{Line}
use Rattle.sound.specs.declared.Laid.{Laid}
use Rattle.sound.specs.rule.Sound.{line_plain, plain_at, lines_plain}

-- line k is plain
abbrev pub line_ok : List ℤ → ℕ → ℕ → Bool
line_ok t v k = line_plain (line_at t (line_base v k))

-- what the first k lines make: where it is low, they are plain
pub record Over (t : List ℤ) (v k : ℕ) (l : Laid) : Type 0 where
  pub plain : l.special ≤ 1 → l.text ≤ 1048575 → l.text_len ≤ 1048575 → all_below k (line_ok t v) ≡ true

-- ---- laws
-- one over another is below neither
or_left : (a b : ℕ) → a ≤ bit_or a b
or_left a b = omega (arith, or_add_and a b, and_le_r a b)

or_right : (a b : ℕ) → b ≤ bit_or a b
or_right a b = omega (arith, or_add_and a b, and_le_l a b)

plain_low : (l : Line) → l.special ≤ 1 → l.text ≤ 1048575 → l.text_len ≤ 1048575 → line_plain l ≡ true
plain_low l x y z = rw (le-leb l.special 1 x, le-leb l.text 1048576 (omega arith), le-leb l.text_len 1048576 (omega arith))

pub over_none : (t : List ℤ) (v : ℕ) (l : Laid) → Over t v 0 l
over_none t v l = record { plain = λ x y z. all_none (line_ok t v) }

pub over_more : (t : List ℤ) (v k : ℕ) (l : Laid) (n : Line) → n ≡ line_at t (line_base v k) → Over t v k l
    → Over t v (k + 1) (record {
      special = bit_or l.special n.special;
      text = bit_or l.text n.text;
      text_len = bit_or l.text_len n.text_len;
    })
over_more t v k l n e o = record {
  plain = λ x y z. all_more (line_ok t v) k
      (o.plain (omega (arith, or_left l.special n.special)) (omega (arith, or_left l.text n.text))
      (omega (arith, or_left l.text_len n.text_len)))
      (rw e at (plain_low n (omega (arith, or_right l.special n.special)) (omega (arith, or_right l.text n.text))
      (omega (arith, or_right l.text_len n.text_len))));
}

pub over_same : {t : List ℤ} {v k j : ℕ} {l : Laid} → k ≡ j → Over t v k l → Over t v j l
over_same {t} {v} {k} {j} {l} e o = rw e at o

-- all that is laid is low
pub over_low : {t : List ℤ} {v e : ℕ} {l : Laid} → Over t v e l → l.special < 2 → l.text < 1048576 → l.text_len < 1048576
    → lines_plain t v 0 e ≡ true
unfolding lines_plain
over_low {t} {v} {e} o x y z =
    all_of (plain_at t v 0) e (λ k h. rw (zero-add k) (all_at_lem (line_ok t v) e k h (o.plain (omega arith) (omega arith) (omega arith))))

-- all lines are plain, so a row's are
pub lines_part : (t : List ℤ) (v e b n : ℕ) → b + n ≤ e → lines_plain t v 0 e ≡ true → lines_plain t v b n ≡ true
unfolding lines_plain
lines_part t v e b n h g =
    all_of (plain_at t v b) n (λ k l. rw (zero-add (b + k)) at (all_at_lem (plain_at t v 0) e (b + k) (omega arith) g))
