-- What the code keeps: which rows stand as they would be written, and what a row must give to be written back.
use Rattle.std.specs.Prelude.{◌≡◌, refl, ◌⊎◌, Bool, true, false, List, ℕ, ◌+◌, ◌*◌, ◌^◌, ◌≤◌, ◌<◌, ltb, ℤ}
use Rattle.std.specs.Prelude.{length, take}
use Rattle.std.proofs.Common.{⊎_elim, le-mul_of_pos_right, arith, ltb-false}
use Rattle.std.proofs.Math.Nat.{pow-le-pow_right}
use Rattle.below.specs.Below.{holds_not}
use Rattle.layout.specs.rule.Layout.{most_rows, lines_base}
use Rattle.layout.specs.rule.Row.{row_at}
use Rattle.layout.specs.declared.Row.{Row}
use Rattle.layout.specs.declared.Kind.{Kind}
use Rattle.layout.specs.declared.Kind.TheVariants.{Single, Multiple, Quantity, Character, Logical}
use Rattle.layout.specs.declared.Spread.TheVariants.{Bits, Fields}
use Rattle.fields.specs.rule.Field.{missing, number, members, holds, set_fits}
use Rattle.fields.specs.rule.Legal.{legal}
use Rattle.fields.specs.rule.Row.{reading_of, fits, other_type, fits_by}
use Rattle.fields.specs.Facts.{RowFacts}
use Rattle.fieldlaws.specs.BackLaws.{Limits, limits, fit_set, spread_members}
use Rattle.fieldlaws.specs.RisingLaws.{Rising, none, skip, keep}
use Rattle.fieldlaws.specs.Corrections.{read_fits}
use Rattle.readings.specs.Ready.{RowReady, ready_of}
use Rattle.readings.specs.declared.Answer.{Answer}
use Rattle.readings.specs.declared.Answer.TheVariants.{Missing, Number, Set, Text, Truth, BadTable, NoRow, ShortRecord, Illegal, ShortList}
use Rattle.normal.specs.rule.Normal.{back_of}
use Rattle.writes.specs.Write.{Ready, ready}
use Rattle.sharing.specs.Known.{TableKnown}

-- bitstrings, texts and truths have one form each: what is read is written as it stands
abbrev pub stays : Kind → Bool
stays Single = false
stays (Multiple Bits) = true
stays (Multiple (Fields n b)) = false
stays (Quantity f) = false
stays Character = true
stays Logical = true

-- what a row was read as: a set's members stand at the start of the list, and where there is nothing to write nothing is written back
abbrev pub HeldAs : List ℤ → ℕ → Row → List ℕ → List ℤ → Answer → Type 0
HeldAs t v r s list Missing = reading_of t v r s ≡ holds missing
HeldAs t v r s list (Number z) = reading_of t v r s ≡ holds (number z)
HeldAs t v r s list (Set n) = (n ≤ length list) × (reading_of t v r s ≡ holds (members (take n list)))
HeldAs t v r s list (Text p n) = back_of t v r s ≡ s
HeldAs t v r s list (Truth b) = back_of t v r s ≡ s
HeldAs t v r s list BadTable = back_of t v r s ≡ s
HeldAs t v r s list NoRow = back_of t v r s ≡ s
HeldAs t v r s list ShortRecord = back_of t v r s ≡ s
HeldAs t v r s list Illegal = back_of t v r s ≡ s
HeldAs t v r s list ShortList = back_of t v r s ≡ s

-- a row in a record of so many bytes, with a list for so many members
pub record Settles (t : List ℤ) (v : ℕ) (r : Row) (size room : ℕ) : Type 0 where
  pub read : RowReady t v r size
  pub write : Ready r.kind t v size r
  pub few : (s : List ℕ) (ms : List ℤ) → stays r.kind ≡ false → reading_of t v r s ≡ holds (members ms) → length ms ≤ room

pub record TableSettles (t : List ℤ) (v size room : ℕ) : Type 0 where
  pub few : v ≤ most_rows
  pub stand : lines_base v ≤ length t
  pub row : (i : ℕ) → i < v → Settles t v (row_at t i) size room

-- ---- laws
-- of n numbers there are no more than n
rising_few : {c n : ℕ} {ms : List ℤ} → Rising c n ms → length ms ≤ n
rising_few none = omega arith
rising_few (skip r) = let h = rising_few r in omega arith
rising_few (keep r) = let h = rising_few r in omega arith

no_other : {A : Type 0} → other_type ≡ fits → A
no_other e = let z : ◌≡◌ {A = ℕ} 0 1 = cc in absurd (omega arith)

-- a set that fits a spread has at most as many members as there are bytes in its position, and at most 9,999
few_by : (k : Kind) (t : List ℤ) (v len : ℕ) (r : Row) → Limits k t v r → r.start + 0 ≤ r.finish + 1 → r.finish ≤ len → 1 ≤ r.start
    → (ms : List ℤ) → stays k ≡ false → fits_by k t v r (members ms) ≡ fits → (length ms ≤ len) × (length ms ≤ 9999)
unfolding fits_by
few_by Single t v len r l o h p ms s e = no_other e
few_by (Quantity f) t v len r l o h p ms s e = no_other e
few_by (Multiple Bits) t v len r l o h p ms s e = holds_not refl s
few_by Character t v len r l o h p ms s e = holds_not refl s
few_by Logical t v len r l o h p ms s e = holds_not refl s
few_by (Multiple (Fields n b)) t v len r l o h p ms s e =
    let g = fit_set (set_fits (legal t v r) ms) (ltb n (length ms)) e in
    let u : length ms ≤ n = ltb-false n (length ms) g.1 in
    let w = l.kind in
    let x = w.room in let y = w.some in let z = w.holds in
    let m : n ≤ n * b = le-mul_of_pos_right n (omega arith) in
    let k = rising_few (spread_members t v r n b l ms g.0) in
    let q : 10 ^ r.width ≤ 10 ^ 4 = pow-le-pow_right {n = 10} (omega arith) w.few in
    (omega arith, omega arith)

pub settles_of : {t : List ℤ} {v len : ℕ} {r : Row} (size room : ℕ) → RowFacts t v len r → len ≤ size → (len ≤ room) ⊎ (9999 ≤ room)
    → Settles t v r size room
settles_of {t} {v} {len} {r} size room f h m = record {
  read = ready_of f size h;
  write = ready size f h;
  few = λ s ms y e.
      let a = f.position.ordered in
      let b = few_by r.kind t v len r (limits f) (omega arith) f.position.inside f.position.from_one ms y
      (read_fits t v r (members ms) s e) in
      ⊎_elim (λ l. let c = b.0 in omega arith) (λ l. let c = b.1 in omega arith) m;
}

pub table_settles : {t : List ℤ} {v len : ℕ} (size room : ℕ) → TableKnown t v len → len ≤ size → (len ≤ room) ⊎ (9999 ≤ room)
    → TableSettles t v size room
table_settles size room k h m = record { few = k.few; stand = k.stand; row = λ i l. settles_of size room (k.row i l) h m }
