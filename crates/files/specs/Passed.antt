-- Sound records that are passed without a search for their ends: the verdict on a file is that on what is left.
use Rattle.std.specs.Prelude.{◌≡◌, refl, Bool, true, false, cond, List, ℕ, zero, suc, ◌+◌, ◌*◌, ◌≤◌, ◌<◌, eqb, leb, ℤ, length, drop}
use Rattle.std.proofs.Common.{sym, ap, ◌∙◌, zero-mul, suc-mul, arith, eqb-true, leb-true, ne_eqb}
use Rattle.below.specs.Below.{holds_not}
use Rattle.lows.specs.Lows.{Clear, clear_none}
use Rattle.cuts.specs.declared.Terminator.{Terminator}
use Rattle.cuts.specs.rule.Records.{records_from}
use Rattle.cuts.specs.Records.{part, next_ended, PlainNext}
use Rattle.sound.specs.rule.Rows.{rows_of, length_of}
use Rattle.records.specs.rule.Verdict.{Verdict, refused, rows_verdict}
use Rattle.files.specs.rule.File.{record_verdict, records_verdict, first_length, is_sound}
use Rattle.files.specs.File.{verdict_rows, records_next, go_sound}
use Rattle.files.specs.declared.Place.{Place}

-- the next record from a place on has `first` bytes and is sound
pub record SoundNext (t : List ℤ) (d : List ℕ) (w : Terminator) (first from : ℕ) : Type 0 where
  pub next : PlainNext d w from first
  pub sound : is_sound (record_verdict t first (part d from (from + first))) ≡ true

-- from a place of a file, behind n records, to another: the verdict on the records that are left, each after its count of others, is the
-- same
pub record Passed (t : List ℤ) (d : List ℕ) (w : Terminator) (first from n : ℕ) (b : Place) : Type 0 where
  pub on : from ≤ b.from
  pub more : n ≤ b.n
  pub fewer : b.n ≤ b.from + 1
  pub clear : b.from < length d → Clear d b.from b.clear
  pub same : records_verdict t n first (records_from w (drop from d))
      ≡ records_verdict t b.n first (records_from w (drop b.from d))

-- ---- laws
first_known : (n first size : ℕ) → 1 ≤ n → first_length n first size ≡ first
unfolding first_length
first_known n first size h = rw (ne_eqb n 0 (λ e. omega arith))

pub sound_next : (t : List ℤ) (d : List ℕ) (w : Terminator) (first from : ℕ) → PlainNext d w from first → length_of t ≤ first
    → {v : Verdict}
    → v ≡ rows_verdict t (rows_of t) (part d from (from + first)) → is_sound v ≡ true → SoundNext t d w first from
sound_next t d w first from p l e s = record {
  next = p;
  sound = ap is_sound (verdict_rows t first (part d from (from + first)) p.long (rw p.long l) ∙ sym e) ∙ s;
}

-- no way at all
pub passed_none : (t : List ℤ) (d : List ℕ) (w : Terminator) (first from n : ℕ) → n ≤ from + 1
    → Passed t d w first from n (record { from = from; clear = from; n = n })
passed_none t d w first from n h = record {
  on = omega arith;
  more = omega arith;
  fewer = h;
  clear = λ l. clear_none d from (omega arith);
  same = refl;
}

-- one way behind the other
pub passed_on : {t : List ℤ} {d : List ℕ} {w : Terminator} {first from n : ℕ} {b c : Place} → Passed t d w first from n b
    → Passed t d w first b.from b.n c → Passed t d w first from n c
passed_on p q = record {
  on = omega (arith, p.on, q.on);
  more = omega (arith, p.more, q.more);
  fewer = q.fewer;
  clear = q.clear;
  same = p.same ∙ q.same;
}

-- a sound record is passed
pub sound_on : (t : List ℤ) (d : List ℕ) (w : Terminator) (first from n : ℕ) → 1 ≤ n → SoundNext t d w first from
    → records_verdict t n first (records_from w (drop from d))
    ≡ records_verdict t (n + 1) first (records_from w (drop (from + first + w.size) d))
sound_on t d w first from n h s =
    let r = part d from (from + first) in
    let e = next_ended d w from s.next.ends in
    let f : first_length n first (length r) ≡ first = first_known n first (length r) h in
    records_next t n first (records_from w (drop from d)) e.records
    ∙ rw f (go_sound (record_verdict t first r) n (records_verdict t (n + 1) first (records_from w (drop (from + first + w.size) d)))
    s.sound)

-- many sound records, one behind the other, are passed
pub sound_many : (t : List ℤ) (d : List ℕ) (w : Terminator) (first from n : ℕ) → 1 ≤ n → (m : ℕ)
    → ((k : ℕ) → k < m → SoundNext t d w first (from + k * (first + w.size)))
    → records_verdict t n first (records_from w (drop from d))
    ≡ records_verdict t (n + m) first (records_from w (drop (from + m * (first + w.size)) d))
sound_many t d w first from n h zero s =
    let a : n + 0 ≡ n = omega arith in
    let b : from + 0 * (first + w.size) ≡ from = omega (arith, zero-mul (first + w.size)) in
    rw (a, b)
sound_many t d w first from n h (suc m) s =
    let a : n + m + 1 ≡ n + suc m = omega arith in
    let b : from + m * (first + w.size) + first + w.size ≡ from + suc m * (first + w.size) =
    omega (arith, suc-mul m (first + w.size)) in
    sound_many t d w first from n h m (λ k l. s k (omega arith))
    ∙ sound_on t d w first (from + m * (first + w.size)) (n + m) (omega arith) (s m (omega arith)) ∙ rw (a, b)

-- a sound record is long enough, and as long as the first
pub sound_long : (t : List ℤ) (first : ℕ) (r : List ℕ) → is_sound (record_verdict t first r) ≡ true → length_of t ≤ first
unfolding record_verdict is_sound
sound_long t first r e = go (eqb (length r) first) (leb (length_of t) (length r)) refl refl e
  where
    go : (p q : Bool) → eqb (length r) first ≡ p → leb (length_of t) (length r) ≡ q
        → is_sound (cond p (cond q (rows_verdict t (rows_of t) r) (refused 22)) (refused 31)) ≡ true → length_of t ≤ first
    go true true a b g = let x = eqb-true (length r) first a in let y = leb-true (length_of t) (length r) b in omega arith
    go true false a b g = holds_not g refl
    go false q a b g = holds_not g refl
