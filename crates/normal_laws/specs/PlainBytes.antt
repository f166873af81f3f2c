-- The bytes of a value that fits are none below 32.
use Rattle.std.specs.Prelude.{◌≡◌, Bool, true, false, cond, List, [], ◌∷◌, ◌++◌, ℕ, zero, suc, ◌+◌, ◌-◌, ◌/◌, ◌%◌, ◌^◌, ◌≤◌, eqb}
use Rattle.std.specs.Prelude.{leb, ℤ, pos, length}
use Rattle.std.proofs.Common.{arith, leb-true}
use Rattle.below.specs.Below.{and_left, and_right}
use Rattle.cells.specs.rule.Cell.{signed_of}
use Rattle.layout.specs.declared.Format.{Format}
use Rattle.layout.specs.declared.Row.{Row}
use Rattle.layout.specs.declared.Kind.{Kind}
use Rattle.layout.specs.declared.Kind.TheVariants.{Single, Multiple, Quantity, Character, Logical}
use Rattle.layout.specs.declared.Spread.TheVariants.{Bits, Fields}
use Rattle.widths.specs.rule.Width.{tail_of}
use Rattle.fields.specs.rule.Number.{padded, amount_bytes, quantity_bytes, code_bytes}
use Rattle.fields.specs.rule.Field.{Value, missing, number, members, text, truth, spaces, bit_bytes, spread_bytes, text_bytes, truth_bytes}
use Rattle.fields.specs.rule.Field.{is_member, all_plain, text_fits}
use Rattle.fields.specs.rule.Row.{fits, fits_by, bytes_by, places_by, categories}
use Rattle.fieldlaws.specs.BackLaws.{fit_legal}
use Rattle.fieldlaws.specs.TextLaws.{fitting}

-- every byte is 32 or more
pub data High : List ℕ → Type 0 where
  none : High []
  more : (b : ℕ) {s : List ℕ} → 32 ≤ b → High s → High (b ∷ s)

high_both : {s r : List ℕ} → High s → High r → High (s ++ r)
high_both none h = h
high_both (more b k g) h = more b k (high_both g h)

high_spaces : (n : ℕ) → High (spaces n)
unfolding spaces
high_spaces zero = none
high_spaces (suc n) = more 32 (omega arith) (high_spaces n)

high_digits : (k n : ℕ) → High (padded k n)
unfolding padded
high_digits zero n = none
high_digits (suc k) n = more (48 + n / 10 ^ k % 10) (omega arith) (high_digits k n)

high_amount : (f : Format) (w n : ℕ) → High (amount_bytes f w n)
unfolding amount_bytes
high_amount f w n = high_both (high_digits (w - tail_of f) (n / 10 ^ f.decimals)) (tail (eqb f.point 0))
  where
    tail : (b : Bool) → High (cond b [] (46 ∷ padded f.decimals n))
    tail true = none
    tail false = more 46 (omega arith) (high_digits f.decimals n)

high_quantity : (f : Format) (w : ℕ) (z : ℤ) → High (quantity_bytes f w z)
unfolding quantity_bytes
high_quantity f w z = go (signed_of z).minus
  where
    go : (b : Bool) → High (cond b (45 ∷ amount_bytes f (w - 1) (signed_of z).size) (amount_bytes f w (signed_of z).size))
    go true = more 45 (omega arith) (high_amount f (w - 1) (signed_of z).size)
    go false = high_amount f w (signed_of z).size

high_code : (w : ℕ) (z : ℤ) → High (code_bytes w z)
unfolding code_bytes
high_code w z = high_digits w (signed_of z).size

high_bit : (b : Bool) {s : List ℕ} → High s → High (cond b 49 48 ∷ s)
high_bit true h = more 49 (omega arith) h
high_bit false h = more 48 (omega arith) h

high_bits : (ms : List ℤ) (cs : List ℕ) → High (bit_bytes ms cs)
unfolding bit_bytes
high_bits ms [] = none
high_bits ms (c ∷ cs) = high_bit (is_member ms (pos c)) (high_bits ms cs)

high_spread : (w n : ℕ) (ms : List ℤ) → High (spread_bytes w n ms)
unfolding spread_bytes
high_spread w zero ms = none
high_spread w (suc n) [] = high_both (high_code w (pos 0)) (high_spread w n [])
high_spread w (suc n) (m ∷ ms) = high_both (high_code w m) (high_spread w n ms)

high_plain : (s : List ℕ) → all_plain s ≡ true → High s
unfolding all_plain
high_plain [] e = none
high_plain (b ∷ s) e = more b (leb-true 32 b (and_left (leb 32 b) (all_plain s) e)) (high_plain s (and_right (leb 32 b) (all_plain s) e))

high_text : (w : ℕ) (s : List ℕ) → text_fits w s ≡ true → High (text_bytes w s)
unfolding text_bytes
high_text w s e = high_both (high_plain s (fitting w s e).plain) (high_spaces (w - length s))

-- THE LAW, for every kind
pub high_bytes : (k : Kind) (t : List ℤ) (v : ℕ) (r : Row) (x : Value) → fits_by k t v r x ≡ fits → High (bytes_by k t v r x)
unfolding bytes_by fits_by truth_bytes
high_bytes k t v r missing e = high_spaces (length (places_by k t v r))
high_bytes Single t v r (number z) e = high_code r.width z
high_bytes (Quantity f) t v r (number z) e = high_quantity f r.width z
high_bytes (Multiple s) t v r (number z) e = none
high_bytes Character t v r (number z) e = none
high_bytes Logical t v r (number z) e = none
high_bytes (Multiple Bits) t v r (members ms) e = high_bits ms (categories t v r)
high_bytes (Multiple (Fields n b)) t v r (members ms) e = high_spread r.width n ms
high_bytes Single t v r (members ms) e = none
high_bytes (Quantity f) t v r (members ms) e = none
high_bytes Character t v r (members ms) e = none
high_bytes Logical t v r (members ms) e = none
high_bytes Character t v r (text s) e = high_text r.width s (fit_legal (text_fits r.width s) e)
high_bytes Single t v r (text s) e = none
high_bytes (Multiple m) t v r (text s) e = none
high_bytes (Quantity f) t v r (text s) e = none
high_bytes Logical t v r (text s) e = none
high_bytes Logical t v r (truth b) e = high_bit b none
high_bytes Single t v r (truth b) e = none
high_bytes (Multiple m) t v r (truth b) e = none
high_bytes (Quantity f) t v r (truth b) e = none
high_bytes Character t v r (truth b) e = none
