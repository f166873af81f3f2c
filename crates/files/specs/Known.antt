-- A record's first byte below 32 that is known, or that it has none: what it says of the record's verdict.
use Rattle.std.specs.Prelude.{◌≡◌, true, false, List, ℕ, ◌+◌, ◌-◌, ◌≤◌, ◌<◌, ℤ, length, drop, Some, None}
use Rattle.std.proofs.Common.{sym, ◌∙◌, arith, length-take, length-drop, get_or-drop, get_or-take}
use Rattle.lows.specs.rule.Lows.{low_at}
use Rattle.lows.specs.Lows.{Clear}
use Rattle.cuts.specs.Cut.{FirstLow}
use Rattle.cuts.specs.declared.Terminator.{Terminator}
use Rattle.cuts.specs.rule.Records.{records_from}
use Rattle.cuts.specs.Records.{part, PlainNext, EndedAt}
use Rattle.readings.specs.Ready.{Plain}
use Rattle.records.proofs.Laws.{first_here, first_clear, first_of_plain}
use Rattle.records.specs.rule.First.{first_from, bad_row, row_fault}
use Rattle.records.specs.rule.Verdict.{rows_verdict, byte_verdict, row_verdict, sound, low_byte, bad_field}
use Rattle.files.specs.rule.File.{record_verdict, go_on, first_length, records_verdict}
use Rattle.files.specs.File.{records_next}

-- no byte below 32 stands before a place of the record, but there, where the place is within it
pub record LowKnown (bytes : List ℕ) (low : ℕ) : Type 0 where
  pub before : (j : ℕ) → j < low → j < length bytes → low_at bytes j ≡ false
  pub here : low < length bytes → low_at bytes low ≡ true

-- ---- laws
-- of all its bytes the first
pub first_known : {bytes : List ℕ} {low : ℕ} → FirstLow bytes 0 low → LowKnown bytes low
first_known f = record { before = λ j a b. f.clear.plain j (omega arith) a; here = f.low }

-- a byte of a part is one of the whole
part_byte : (d : List ℕ) (a e j : ℕ) → j < e - a → low_at (part d a e) j ≡ low_at d (a + j)
part_byte d a e j h = rw (get_or-take (e - a) (drop a d) j 0 h, get_or-drop a d j 0)

-- of a part of data where the first from its start on is known
pub part_known : {d : List ℕ} {from low end : ℕ} → Clear d from low → (low < length d → low_at d low ≡ true) → end ≤ length d
    → LowKnown (part d from end) (low - from)
part_known {d} {from} {low} {end} c l e =
    let n : length (part d from end) ≡ end - from = rw (length-take, length-drop) (omega arith) in
    record {
      before = λ j a b. part_byte d from end j (rw n at b) ∙ c.plain (from + j) (omega arith) (omega arith);
      here = λ b. let m : low - from < end - from = rw n at b in
          let q : from + (low - from) ≡ low = omega (arith, c.on) in
          part_byte d from end (low - from) m ∙ rw q (l (omega arith));
    }

-- a record with none
pub known_plain : {bytes : List ℕ} {low : ℕ} → LowKnown bytes low → length bytes ≤ low → Plain bytes
known_plain k h j b = k.before j (omega arith) b

-- a record with one is refused for it
pub known_low : (t : List ℤ) (v : ℕ) {bytes : List ℕ} {low : ℕ} → LowKnown bytes low → low < length bytes
    → rows_verdict t v bytes ≡ low_byte low
unfolding rows_verdict byte_verdict
known_low t v {bytes} {low} k h =
    let e : first_from (low_at bytes) 0 (length bytes) ≡ Some low =
    sym (first_clear (low_at bytes) (length bytes) low (omega arith) (λ j a b. k.before j b (omega arith)))
    ∙ first_here (low_at bytes) (length bytes) low h (k.here h) in
    rw e

-- a record with none is judged by its lowest illegal row
module _ (t : List ℤ) (v : ℕ) (bytes : List ℕ) (p : Plain bytes) where
  pub row_refused : {i : ℕ} → first_from (bad_row t v bytes) 0 v ≡ Some i → rows_verdict t v bytes ≡ bad_field i (row_fault t v bytes i)
  unfolding rows_verdict byte_verdict row_verdict
  row_refused e = rw (first_of_plain bytes p, e)

  pub rows_sound : first_from (bad_row t v bytes) 0 v ≡ None → rows_verdict t v bytes ≡ sound
  unfolding rows_verdict byte_verdict row_verdict
  rows_sound e = rw (first_of_plain bytes p, e)

-- no byte below 32 stands in a stretch that is such a record
pub plain_clear : {d : List ℕ} {w : Terminator} {from size : ℕ} → PlainNext d w from size → Clear d from (from + size)
plain_clear {d} {w} {from} {size} p = record {
  on = omega arith;
  within = omega (arith, p.inside);
  plain = λ j a b. let q : from + (j - from) ≡ j = omega arith in
      rw q at (sym (part_byte d from (from + size) (j - from) (omega arith)) ∙ p.plain (j - from) (rw p.long (omega arith)));
}

-- the verdict on a file's records, by its first
pub first_of_lem : (t : List ℤ) (d : List ℕ) (w : Terminator) {a e n : ℕ} → EndedAt d w 0 (records_from w d) a e n
    → records_verdict t 0 0 (records_from w d)
    ≡ go_on (record_verdict t (length (part d 0 e)) (part d 0 e)) 0 (records_verdict t 1 (length (part d 0 e)) (records_from w (drop n d)))
unfolding first_length
first_of_lem t d w x = records_next t 0 0 (records_from w d) x.records
