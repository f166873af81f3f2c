-- What follows from rule/Entry.antt, and what the code keeps.
-- Assumes nothing.
use Rattle.std.specs.Prelude.{◌≡◌, refl, not, List, [], ◌∷◌, ◌++◌, ℕ, suc, ◌+◌, ◌*◌, ◌≤◌, T, length, set}
use Rattle.std.proofs.Common.{sym, ap, ◌∙◌, append_assoc, append-nil, arith, length-append}
use Rattle.std.specs.Float.{binary64}
use Rattle.std.specs.Float.Ieee.{is_nan, to_bits, fits}
use Rattle.quotient.specs.Limits as limits
use Rattle.quotient.specs.Order.{value_fits}
use Rattle.quotient.proofs.Order.{value_real}
use Rattle.little.specs.rule.Bytes.{little_bytes, put_at}
use Rattle.little.specs.Bytes.{bytes_count}
use Rattle.little.specs.Runs.{put_next, put_either, length_put_at}
use Rattle.matrix.specs.declared.Entry.{Entry}
use Rattle.matrix.specs.declared.Entry.TheVariants.{Absent, Scaled}
use Rattle.matrix.specs.declared.Cell.{Cell}
use Rattle.matrix.specs.rule.Entry.{presence_of, float_of, flags_of, value_bytes}
use Rattle.matrix.specs.Put.{put_entries}

-- a number and a power that are converted exactly
unfoldable pub EntryGood : Entry → Type 0
EntryGood Absent = Unit {0}
EntryGood (Scaled z p) = limits.Scaled z × limits.Power p

unfoldable pub cell_of : Entry → Cell
cell_of e = record { present = presence_of e; value = float_of e }

-- ---- laws
-- a value is no NaN, and the format holds it
pub entry_real : (e : Entry) → EntryGood e → T (not (is_nan (float_of e)))
unfolding EntryGood float_of is_nan
entry_real Absent g = tt
entry_real (Scaled z p) g = value_real z p g.0 g.1

pub entry_fits : (e : Entry) → T (fits binary64 (float_of e))
unfolding float_of fits
entry_fits Absent = tt
entry_fits (Scaled z p) = value_fits z p

pub length_flags : (es : List Entry) → length (flags_of es) ≡ length es
unfolding flags_of
length_flags [] = refl
length_flags (e ∷ es) = ap suc (length_flags es)

pub length_values : (es : List Entry) → length (value_bytes es) ≡ 8 * length es
unfolding value_bytes
length_values [] = refl
length_values (e ∷ es) =
    omega (
      arith,
      length-append (little_bytes 8 (to_bits binary64 (float_of e))) (value_bytes es),
      bytes_count 8 (to_bits binary64 (float_of e)),
      length_values es,
    )

pub flags_append : (xs ys : List Entry) → flags_of (xs ++ ys) ≡ flags_of xs ++ flags_of ys
unfolding flags_of
flags_append [] ys = refl
flags_append (x ∷ xs) ys = ap (λ (l : List ℕ). presence_of x ∷ l) (flags_append xs ys)

pub values_append : (xs ys : List Entry) → value_bytes (xs ++ ys) ≡ value_bytes xs ++ value_bytes ys
unfolding value_bytes
values_append [] ys = refl
values_append (x ∷ xs) ys =
    let b = little_bytes 8 (to_bits binary64 (float_of x)) in
    ap (λ (l : List ℕ). b ++ l) (values_append xs ys) ∙ sym (append_assoc b (value_bytes xs) (value_bytes ys))

-- entries put, and then those behind them, are all of them put
pub entries_then : (r : List ℕ) (f v : ℕ) (xs ys : List Entry) → f + (length xs + length ys) ≤ v
    → put_entries (put_entries r f v xs) (f + length xs) (v + 8 * length xs) ys ≡ put_entries r f v (xs ++ ys)
entries_then r f v xs ys h =
    let a = flags_of xs in
    let b = flags_of ys in
    let x = value_bytes xs in
    let y = value_bytes ys in
    let la = length_flags xs in
    let lb = length_flags ys in
    let lx = length_values xs in
    rw (flags_append xs ys, values_append xs ys)
    (ap (λ (l : List ℕ). put_at l (v + 8 * length xs) y) (put_either (put_at r f a) (f + length xs) b v x (omega arith))
    ∙ ap (λ (l : List ℕ). put_at (put_at l v x) (v + 8 * length xs) y) (put_next r f a (f + length xs) b (omega arith))
    ∙ put_next (put_at r f (a ++ b)) v x (v + 8 * length xs) y (omega arith))

pub length_entries : (r : List ℕ) (f v : ℕ) (es : List Entry) → length (put_entries r f v es) ≡ length r
length_entries r f v es = length_put_at (put_at r f (flags_of es)) v (value_bytes es) ∙ length_put_at r f (flags_of es)

pub entries_none : (r : List ℕ) (f v : ℕ) → put_entries r f v [] ≡ r
unfolding flags_of value_bytes put_at
entries_none r f v = refl

-- one entry
byte_put : (r : List ℕ) (f b : ℕ) → set r f b ≡ put_at r f (b ∷ [])
unfolding put_at
byte_put r f b = refl

pub entry_put : (r : List ℕ) (f v : ℕ) (e : Entry)
    → put_at (set r f (presence_of e)) v (little_bytes 8 (to_bits binary64 (float_of e))) ≡ put_entries r f v (e ∷ [])
unfolding flags_of value_bytes
entry_put r f v e =
    rw (append-nil (little_bytes 8 (to_bits binary64 (float_of e))))
    (ap (λ (l : List ℕ). put_at l v (little_bytes 8 (to_bits binary64 (float_of e)))) (byte_put r f (presence_of e)))
