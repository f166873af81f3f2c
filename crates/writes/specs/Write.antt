-- What follows from rule/Write.antt, and what the code keeps.
use Rattle.std.specs.Prelude.{◌≡◌, Bool, true, false, List, ℕ, ◌≤◌, ℤ}
use Rattle.std.proofs.Common.{arith}
use Rattle.std.specs.Int.Signed.{le_z}
use Rattle.places.specs.rule.Places.{put}
use Rattle.layout.specs.declared.Kind.{Kind}
use Rattle.layout.specs.declared.Kind.TheVariants.{Single, Multiple, Quantity, Character, Logical}
use Rattle.layout.specs.declared.Row.{Row}
use Rattle.widths.specs.rule.Width.{need, lowest, highest}
use Rattle.fields.specs.rule.Legal.{legal}
use Rattle.fields.specs.rule.Row.{Fit, fits, other_type, not_legal, too_many, fits_by, bytes_by, places_by}
use Rattle.fields.specs.rule.Field.{set_fits}
use Rattle.fields.specs.Facts.{LineFacts, KindFacts, RowFacts}
use Rattle.sets.specs.Full.{EachLegal}
use Rattle.writes.specs.declared.Value.{Value}
use Rattle.writes.specs.declared.Value.TheVariants.{Missing, Set}
use Rattle.writes.specs.declared.Wrote.{Wrote}
use Rattle.writes.specs.declared.Wrote.TheVariants.{Done, OtherType, NotLegal, TooMany}
use Rattle.writes.specs.rule.Write.{lent_value}

-- whether a row of the kind takes numbers
abbrev pub takes_numbers : Kind → Bool
takes_numbers Single = true
takes_numbers (Multiple s) = false
takes_numbers (Quantity f) = true
takes_numbers Character = false
takes_numbers Logical = false

-- what is given to a row of sets: a missing value or a set
abbrev pub set_or : Bool → Value
set_or true = Missing
set_or false = Set

-- the answer by whether the value fits
unfoldable pub answer_by : Fit → Wrote
answer_by fits = Done
answer_by other_type = OtherType
answer_by not_legal = NotLegal
answer_by too_many = TooMany

-- and the record: a value that fits leaves new, a refusal old
unfoldable pub left_by : Fit → List ℕ → List ℕ → List ℕ
left_by fits new old = new
left_by other_type new old = old
left_by not_legal new old = old
left_by too_many new old = old

-- a write to a row of the kind k
pub record WrittenBy (k : Kind) (t : List ℤ) (v : ℕ) (r : Row) (value : Value) (list : List ℤ) (text : List ℕ) (old new : List ℕ)
    (answer : Wrote) : Type 0 where
  pub says : answer ≡ answer_by (fits_by k t v r (lent_value value list text))
  pub leaves : new
      ≡ left_by (fits_by k t v r (lent_value value list text))
      (put old (places_by k t v r) (bytes_by k t v r (lent_value value list text))) old

-- what a writer needs of a row of the kind k, in a record of n bytes
pub record Ready (k : Kind) (t : List ℤ) (v n : ℕ) (r : Row) : Type 0 where
  pub lines : LineFacts t v r
  pub from_one : 1 ≤ r.start
  pub ordered : r.start ≤ r.finish
  pub inside : r.finish ≤ n
  pub low : r.finish ≤ 16384
  pub kind : KindFacts k r
  pub least : (z : ℤ) → legal t v r z ≡ true → le_z (lowest k) z ≡ true
  pub most : (z : ℤ) → legal t v r z ≡ true → le_z z (highest k) ≡ true
  pub room : (z : ℤ) → legal t v r z ≡ true → need k z ≤ r.width

-- a row of a well-formed table is ready, in a record of the least length or more
pub ready : {t : List ℤ} {v len : ℕ} {r : Row} (n : ℕ) → RowFacts t v len r → len ≤ n → Ready r.kind t v n r
ready n f h = record {
  lines = f.lines;
  from_one = f.position.from_one;
  ordered = f.position.ordered;
  inside = omega (arith, f.position.inside);
  low = omega (arith, f.position.inside, f.position.low);
  kind = f.kind;
  least = f.least;
  most = f.most;
  room = f.fits;
}

-- each category from 1 to w is legal, and the set may be written
pub record EachFits (t : List ℤ) (v : ℕ) (r : Row) (w : ℕ) (ms : List ℤ) : Type 0 where
  pub each : EachLegal t v r w
  pub fits : set_fits (legal t v r) ms ≡ true
