-- The round trip by the lines: the text of a table's names and of sound records' lines is accepted, and its records read as those.
use Rattle.std.specs.Prelude.{◌≡◌, refl, true, false, ℤ, length}
use Rattle.std.proofs.Common.{◌∙◌, arith, eq-eqb}
use Rattle.std.proofs.Math.Path.{ap}
use mathlib.Core.List.{List, [], ◌∷◌}
use Prim.Native.Nat.{ℕ, zero, suc, ◌+◌, ◌≤◌, ◌<◌}
use Rattle.cuts.specs.rule.Records.{Records, over, unended, record_and}
use Rattle.sets.specs.rule.Sets.{is_illegal}
use Rattle.sound.specs.rule.Rows.{rows_of}
use Rattle.records.specs.rule.Value.{reading_at}
use Rattle.records.specs.rule.Verdict.{verdict_of, sound}
use Rattle.read_laws.specs.Refused.{sound_passes}
use Rattle.file_laws.specs.rule.Files.{records_before, AllSound, one_more}
use Rattle.commas.specs.rule.Csv.{each, csv_bytes}
use Rattle.value_fields.specs.rule.Values.{row_field}
use Rattle.record_lines.specs.rule.Lines.{record_line, records_lines}
use Rattle.csv_laws.specs.rule.Grammar.{all_of}
use Rattle.csv_laws.specs.Complete.{text_read_fresh, written_text, Filled, no_more, and_filled}
use Rattle.import_rule.specs.rule.Line.{LineSays, builds}
use Rattle.import_rule.specs.rule.Text.{TextSays, accepts, and_record, after_line, lines_say, same_bytes, differ_at, names_then}
use Rattle.import_rule.specs.rule.Text.{names_say}
use Rattle.import_rule.specs.rule.Text.{text_says}
use Rattle.import_laws.specs.rule.Trip.{Table, none_left, one_by_one, ReadBack}
use Rattle.import_laws.specs.Built.{line_built}

-- ---- the records' lines
line_accepted : (k : ℕ) (s : List ℕ) {x : TextSays} {ss : List (List ℕ)} → x ≡ accepts ss → after_line k (builds s) x ≡ accepts (s ∷ ss)
unfolding after_line and_record
line_accepted k s e = rw e

one_filled : (f : ℕ → List ℕ) (n : ℕ) → 1 ≤ n → {ls : List (List (List ℕ))} → Filled ls → Filled (each f 0 n ∷ ls)
unfolding each
one_filled f zero h r = absurd (omega arith)
one_filled f (suc n) h r = and_filled r

module _ {t : List ℤ} (g : Table t) where
  legal_of : (r : List ℕ) → verdict_of t r ≡ sound → (i : ℕ) → i < rows_of t → is_illegal (reading_at t i r) ≡ false
  legal_of r e = (sound_passes t g.formed r e).legal_rows

  pub lines_imported : {first : ℕ} (rs : List (List ℕ)) → AllSound t first rs → (n k : ℕ) → n ≡ length rs
      → ReadBack t rs (lines_say t k (all_of (records_lines t n (records_before rs over))))
  unfolding records_before records_lines all_of lines_say
  lines_imported [] a zero k e = record { records = []; is = refl; reads = none_left }
  lines_imported [] a (suc n) k e = absurd (omega arith)
  lines_imported (r ∷ rs) a zero k e = absurd (omega arith)
  lines_imported (r ∷ rs) (one_more l q a) (suc n) k e =
      let b = line_built g r (legal_of r q) in
      let w = lines_imported rs a n (k + 1) (omega arith) in
      record {
        records = b.bytes ∷ w.records;
        is = ap (λ (x : LineSays). after_line k x (lines_say t (k + 1) (all_of (records_lines t n (records_before rs over))))) b.is
            ∙ line_accepted k b.bytes w.is;
        reads = one_by_one b.reads.size b.reads.reads w.reads;
      }

  -- ---- the lines are not empty
  filled : (some : 1 ≤ rows_of t) (n : ℕ) (rs : Records) → Filled (records_lines t n rs)
  unfolding records_lines record_line
  filled some zero rs = no_more
  filled some (suc n) over = no_more
  filled some (suc n) (unended r) = no_more
  filled some (suc n) (record_and r rs) = one_filled (row_field t r) (rows_of t) some (filled some n rs)

-- ---- names
pub same_same : (s : List ℕ) → same_bytes s s ≡ true
unfolding same_bytes
same_same [] = refl
same_same (b ∷ s) = rw (eq-eqb b b refl) (same_same s)

pub none_differ : (c : ℕ) (ms : List (List ℕ)) → differ_at c ms ms ≡ 0
unfolding differ_at
none_differ c [] = refl
none_differ c (m ∷ ms) = rw (same_same m) (none_differ (c + 1) ms)

-- THE ROUND TRIP, by the lines: the text of these names and of these records' lines is accepted, and the records read as those
pub round_trip : {t : List ℤ} → Table t → 1 ≤ rows_of t → {first : ℕ} (names : ℕ → List ℕ) (rs : List (List ℕ)) → AllSound t first rs
    → ReadBack t rs (text_says t (each names 0 (rows_of t))
    (csv_bytes (each names 0 (rows_of t) ∷ records_lines t (length rs) (records_before rs over))))
unfolding text_says names_say names_then
round_trip {t} g some names rs a =
    let ls = records_lines t (length rs) (records_before rs over) in
    let e = text_read_fresh (written_text (one_filled names (rows_of t) some (filled g some (length rs) (records_before rs over)))) in
    let w = lines_imported g rs a (length rs) 2 refl in
    record {
      records = w.records;
      is = ap (names_say t (each names 0 (rows_of t))) e
          ∙ rw (none_differ 1 (each names 0 (rows_of t))) w.is;
      reads = w.reads;
    }
