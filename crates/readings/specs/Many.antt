-- Many records of one length, one behind the other: where each stands, and that a row is legal in all of them.
use Rattle.std.specs.Prelude.{◌≡◌, false, List, ℕ, ◌+◌, ◌-◌, ◌*◌, ◌≤◌, ◌<◌, ℤ, length, get_or, take, drop}
use Rattle.std.proofs.Common.{ap, ◌∙◌, suc-mul, add-one, arith, below_more, length-take, length-drop, get_or-take}
use Rattle.std.proofs.Common.{get_or-drop}
use Rattle.layout.specs.declared.Row.{Row}
use Rattle.fields.specs.rule.Row.{reading_of}
use Rattle.sets.specs.rule.Sets.{is_illegal}
use Rattle.readings.specs.Ready.{Plain, RowReady}
use Rattle.readings.specs.declared.many.Batch.{Batch}

-- the record of so many bytes from a place on, and record k
abbrev pub bytes_at : List ℕ → ℕ → ℕ → List ℕ
bytes_at d a n = take (a + n - a) (drop a d)

abbrev pub begin : Batch → ℕ → ℕ
begin b k = b.from + k * b.step

abbrev pub bytes_of : List ℕ → Batch → ℕ → List ℕ
bytes_of d b k = bytes_at d (begin b k) b.size

-- each has a byte behind it, and the next begins at most two bytes behind
pub record Standing (d : List ℕ) (b : Batch) : Type 0 where
  pub near : b.step ≤ b.size + 2
  pub inside : (k : ℕ) → k < b.count → begin b k + b.size < length d

-- none has a byte below 32
abbrev pub AllPlain : List ℕ → Batch → Type 0
AllPlain d b = (k : ℕ) → k < b.count → Plain (bytes_of d b k)

-- a row is legal in the first so many, and in all
abbrev pub LegalTo : List ℤ → ℕ → Row → List ℕ → Batch → ℕ → Type 0
LegalTo t v r d b n = (k : ℕ) → k < n → is_illegal (reading_of t v r (bytes_of d b k)) ≡ false

abbrev pub LegalIn : List ℤ → ℕ → Row → List ℕ → Batch → Type 0
LegalIn t v r d b = LegalTo t v r d b b.count

-- ---- laws
pub begin_more : (b : Batch) (k : ℕ) → begin b k + b.step ≡ begin b (k + 1)
begin_more b k = rw (add-one k, suc-mul k b.step) (omega arith)

pub bytes_long : (d : List ℕ) (a n : ℕ) → a + n < length d → length (bytes_at d a n) ≡ n
bytes_long d a n h = rw (length-take, length-drop) (omega arith)

pub byte_at : (d : List ℕ) (a n j : ℕ) → j < n → get_or (bytes_at d a n) j 0 ≡ get_or d (a + j) 0
byte_at d a n j h = get_or-take (a + n - a) (drop a d) j 0 (omega arith) ∙ get_or-drop a d j 0

-- what a row must give is the same for each
pub ready_at : {t : List ℤ} {v : ℕ} {r : Row} {n : ℕ} (d : List ℕ) (a : ℕ) → RowReady t v r n → a + n < length d
    → RowReady t v r (length (bytes_at d a n))
ready_at d a p h = rw (bytes_long d a _ h) p

-- ---- the records one by one: the k-th begins at `at`, and the row is legal in those before it
pub record Passed (t : List ℤ) (v : ℕ) (r : Row) (d : List ℕ) (b : Batch) (at k : ℕ) : Type 0 where
  pub stands : at ≡ begin b k
  pub legal : LegalTo t v r d b k

module _ {t : List ℤ} {v : ℕ} {r : Row} {d : List ℕ} {b : Batch} where
  module _ {at k : ℕ} (p : Passed t v r d b at k) where
    -- the next lies in the data
    pub next_inside : Standing d b → k < b.count → at + b.size < length d
    next_inside s l = rw p.stands (s.inside k l)

    pub one_passed : is_illegal (reading_of t v r (bytes_at d at b.size)) ≡ false → Passed t v r d b (at + b.step) (k + 1)
    one_passed g = record {
      stands = ap (λ (x : ℕ). x + b.step) p.stands ∙ begin_more b k;
      legal = below_more _ _ p.legal (rw p.stands at g);
    }

    pub all_passed : b.count ≤ k → LegalIn t v r d b
    all_passed l j i = p.legal j (omega arith)

-- one record more, and all of them, with the place beside
pub legal_more : (t : List ℤ) (v : ℕ) (r : Row) (d : List ℕ) (b : Batch) (k at : ℕ) → at ≡ begin b k → LegalTo t v r d b k
    → is_illegal (reading_of t v r (bytes_at d at b.size)) ≡ false → LegalTo t v r d b (k + 1)
legal_more t v r d b k at e h g = below_more _ _ h (rw e at g)

pub legal_all : (t : List ℤ) (v : ℕ) (r : Row) (d : List ℕ) (b : Batch) (k : ℕ) → LegalTo t v r d b k → b.count ≤ k → LegalIn t v r d b
legal_all t v r d b k h l j i = h j (omega arith)
