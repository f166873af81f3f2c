-- THE LIST IS IN INPUT ORDER AND COMPLETE: place and kind rise, and an entry stands in it exactly when it is due.
use Rattle.std.specs.Prelude.{◌≡◌, refl, Bool, true, false, cond, List, [], ◌∷◌, ◌++◌, ℕ, zero, suc, ◌+◌, ◌-◌, ◌*◌, ◌≤◌, ◌<◌, eqb, ltb, ℤ}
use Rattle.std.specs.Prelude.{length, get_or}
use Rattle.std.proofs.Common.{sym, ap, ◌∙◌, arith, eqb-true, eq-eqb, ne_eqb, ltb-true, lt-ltb}
use Rattle.std.proofs.lemmas.Bool.{eqb-false}
use Rattle.below.specs.Below.{holds_not}
use Rattle.cuts.specs.declared.Terminator.{Terminator}
use Rattle.pieces.specs.rule.Pieces.{boundary_at, Piece, piece, first_piece, pieces_behind, onto, cut_from, pieces_of}
use Rattle.mends.specs.rule.Mend.{ending_of, is_empty, MendEntry, mend_entry, listed_if, byte_entries, same_boundary, piece_entries}
use Rattle.mends.specs.rule.Mend.{mend_entries}
use Rattle.mends.specs.rule.Mend.{width_of_records}
use Rattle.mends.specs.rule.Mend.{list_in}
use Rattle.mends.specs.Whole.{same_is}
use Rattle.mend_laws.specs.Laid.{same_self}
use Rattle.mend_laws.specs.rule.Mended.{order_of, RisingEntries, no_more, one_later, Due, dropped, low_byte_lem, too_short, other_end}
use Rattle.mend_laws.specs.rule.Mended.{DueIn}
use Rattle.mend_laws.specs.rule.Mended.{of_this, of_later, In, first, later}

-- ---- IN ORDER
-- rising above n, up to m at most
data Span : ℕ → ℕ → List MendEntry → Type 0 where
  done : {n m : ℕ} → n ≤ m → Span n m []
  step : {n m : ℕ} {x : MendEntry} {l : List MendEntry} → n < order_of x → Span (order_of x) m l → Span n m (x ∷ l)

span_on : {n m k : ℕ} {l : List MendEntry} → n ≤ m → Span m k l → Span n k l
span_on {n} {m} {k} h (done g) = done {n = n} {m = k} (omega arith)
span_on {n} {m} {k} h (step {x = y} g s) = step {n = n} {m = k} {x = y} (omega arith) s

span_append : {n m k : ℕ} {a b : List MendEntry} → Span n m a → Span m k b → Span n k (a ++ b)
span_append (done h) s = span_on h s
span_append (step h r) s = step h (span_append r s)

rising_on : {n m : ℕ} {l : List MendEntry} → n ≤ m → RisingEntries m l → RisingEntries n l
rising_on h no_more = no_more
rising_on {n} h (one_later {x = y} g s) = one_later {n = n} {x = y} (omega arith) s

rising_append : {n m : ℕ} {a b : List MendEntry} → Span n m a → RisingEntries m b → RisingEntries n (a ++ b)
rising_append (done h) s = rising_on h s
rising_append (step h r) s = one_later h (rising_append r s)

span_one : {n m : ℕ} (x : MendEntry) → n < order_of x → order_of x ≤ m → Span n m (x ∷ [])
span_one x h g = step h (done g)

span_if : {n m : ℕ} (q : Bool) (x : MendEntry) → n < order_of x → order_of x ≤ m → Span n m (listed_if q x)
unfolding listed_if
span_if true x h g = span_one x h g
span_if {n} {m} false x h g = done {n = n} {m = m} (omega arith)

span_unless : {n m : ℕ} (q : Bool) (x : MendEntry) → n < order_of x → order_of x ≤ m → Span n m (cond q [] (x ∷ []))
span_unless {n} {m} true x h g = done {n = n} {m = m} (omega arith)
span_unless false x h g = span_one x h g

bytes_rise : (n at : ℕ) (r : List ℕ) (m : ℕ) → m ≡ 5 * (at + length r) → Span (5 * at) m (byte_entries n at r)
unfolding byte_entries
bytes_rise n at [] m h = done {n = 5 * at} {m = m} (omega arith)
bytes_rise n at (b ∷ r) m h =
    span_append (span_if {n = 5 * at} {m = 5 * (at + 1)} (ltb b 32) (mend_entry 2 n at) (omega arith) (omega arith))
    (bytes_rise n (at + 1) r m (omega arith))

piece_rises : (w : ℕ) (e : Terminator) (n at : ℕ) (p : Piece) → Span (5 * at) (5 * (at + length p.bytes) + 4) (piece_entries w e n at p)
unfolding piece_entries
piece_rises w e n at p = go (is_empty p)
  where
    go : (q : Bool) → Span (5 * at) (5 * (at + length p.bytes) + 4)
        (cond q (mend_entry 1 n at ∷ []) (byte_entries n at p.bytes
        ++ listed_if (ltb (length p.bytes) w) (mend_entry 3 n (at + length p.bytes))
        ++ cond (same_boundary e p.boundary) [] (mend_entry 4 n (at + length p.bytes) ∷ [])))
    go true = span_one (mend_entry 1 n at) (omega arith) (omega arith)
    go false =
        span_append
        (span_append (bytes_rise n at p.bytes (5 * (at + length p.bytes)) refl)
        (span_if {n = 5 * (at + length p.bytes)} {m = 5 * (at + length p.bytes) + 3} (ltb (length p.bytes) w)
        (mend_entry 3 n (at + length p.bytes)) (omega arith) (omega arith)))
        (span_unless (same_boundary e p.boundary) (mend_entry 4 n (at + length p.bytes)) (omega arith) (omega arith))

-- every piece but the last has a boundary
data Bounded : List Piece → Type 0 where
  no_piece : Bounded []
  last_piece : {p : Piece} → Bounded (p ∷ [])
  next_piece : {p : Piece} {ps : List Piece} → 1 ≤ p.boundary.size → Bounded ps → Bounded (p ∷ ps)

bounded_onto : (b : ℕ) {ps : List Piece} → Bounded ps → Bounded (onto b ps)
unfolding onto first_piece pieces_behind
bounded_onto b no_piece = last_piece
bounded_onto b last_piece = last_piece
bounded_onto b (next_piece h a) = next_piece h a

some_of_lem : (k : ℕ) → (k ≡ 0 → ⊥) → 1 ≤ k
some_of_lem k n = omega arith

cut_bounded : (s : List ℕ) (k : ℕ) → Bounded (cut_from k s)
unfolding cut_from
cut_bounded [] k = no_piece
cut_bounded (b ∷ s) (suc k) = cut_bounded s k
cut_bounded (b ∷ s) zero = go (eqb (boundary_at (b ∷ s)).size 0) refl (cut_bounded s 0) (cut_bounded s ((boundary_at (b ∷ s)).size - 1))
  where
    go : (q : Bool) → eqb (boundary_at (b ∷ s)).size 0 ≡ q → Bounded (cut_from 0 s) → Bounded (cut_from ((boundary_at (b ∷ s)).size - 1) s)
        → Bounded (cond q (onto b (cut_from 0 s)) (piece [] (boundary_at (b ∷ s)) ∷ cut_from ((boundary_at (b ∷ s)).size - 1) s))
    go true e a c = bounded_onto b a
    go false e a c = let n = eqb-false (boundary_at (b ∷ s)).size 0 e in next_piece (some_of_lem (boundary_at (b ∷ s)).size n) c

entries_rise : (w : ℕ) (e : Terminator) (n at : ℕ) {ps : List Piece} → Bounded ps → RisingEntries (5 * at) (mend_entries w e n at ps)
unfolding mend_entries
entries_rise w e n at no_piece = no_more
entries_rise w e n at (last_piece {p}) = rising_append (piece_rises w e n at p) no_more
entries_rise w e n at (next_piece {p} {ps} h a) =
    let g : 5 * (at + length p.bytes) + 4 ≤ 5 * (at + length p.bytes + p.boundary.size) = omega arith in
    rising_append (piece_rises w e n at p) (rising_on g (entries_rise w e (n + 1) (at + length p.bytes + p.boundary.size) a))

pub list_rises : (t : List ℤ) (d : List ℕ) → RisingEntries 0 (list_in t d)
unfolding list_in pieces_of
list_rises t d = entries_rise (width_of_records t d) (ending_of d) 1 0 (cut_bounded d 0)

-- ---- COMPLETE
in_left : {x : MendEntry} {a : List MendEntry} (b : List MendEntry) → In x a → In x (a ++ b)
in_left b first = first
in_left b (later i) = later (in_left b i)

in_right : {x : MendEntry} (a : List MendEntry) {b : List MendEntry} → In x b → In x (a ++ b)
in_right [] i = i
in_right (y ∷ a) i = later (in_right a i)

-- what is due is listed
byte_listed : (n at : ℕ) (r : List ℕ) (j : ℕ) → j < length r → get_or r j 0 < 32 → In (mend_entry 2 n (at + j)) (byte_entries n at r)
unfolding byte_entries listed_if
byte_listed n at [] j h l = absurd (omega arith)
byte_listed n at (b ∷ r) zero h l = let z : at + 0 ≡ at = omega arith in rw (z, lt-ltb b 32 l) first
byte_listed n at (b ∷ r) (suc j) h l =
    let z : at + suc j ≡ at + 1 + j = omega arith in
    rw z (in_right (listed_if (ltb b 32) (mend_entry 2 n at)) (byte_listed n (at + 1) r j (omega arith) l))

if_listed : (q : Bool) (x : MendEntry) → q ≡ true → In x (listed_if q x)
unfolding listed_if
if_listed true x h = first
if_listed false x h = holds_not h refl

not_same : (e b : Terminator) → (e ≡ b → ⊥) → same_boundary e b ≡ false
not_same e b n = go (same_boundary e b) refl
  where
    go : (q : Bool) → same_boundary e b ≡ q → q ≡ false
    go true h = absurd (n (same_is e b h))
    go false h = refl

piece_listed : (w : ℕ) (e : Terminator) (n at : ℕ) (p : Piece) {x : MendEntry} → Due w e n at p x → In x (piece_entries w e n at p)
unfolding piece_entries
piece_listed w e n at p (dropped h) = rw (eq-eqb (length p.bytes) 0 h) first
piece_listed w e n at p (low_byte_lem j h l) =
    rw (ne_eqb (length p.bytes) 0 (λ z. omega arith))
    (in_left (cond (same_boundary e p.boundary) [] (mend_entry 4 n (at + length p.bytes) ∷ []))
    (in_left (listed_if (ltb (length p.bytes) w) (mend_entry 3 n (at + length p.bytes))) (byte_listed n at p.bytes j h l)))
piece_listed w e n at p (too_short h l) =
    rw (ne_eqb (length p.bytes) 0 (λ z. omega arith))
    (in_left (cond (same_boundary e p.boundary) [] (mend_entry 4 n (at + length p.bytes) ∷ []))
    (in_right (byte_entries n at p.bytes) (if_listed (ltb (length p.bytes) w) (mend_entry 3 n (at + length p.bytes))
    (lt-ltb (length p.bytes) w l))))
piece_listed w e n at p (other_end h d) =
    rw (ne_eqb (length p.bytes) 0 (λ z. omega arith), not_same e p.boundary d)
    (in_right (byte_entries n at p.bytes ++ listed_if (ltb (length p.bytes) w) (mend_entry 3 n (at + length p.bytes))) first)

entries_listed : (w : ℕ) (e : Terminator) {n at : ℕ} {ps : List Piece} {x : MendEntry} → DueIn w e n at ps x
    → In x (mend_entries w e n at ps)
unfolding mend_entries
entries_listed w e (of_this {n} {at} {p} {ps} d) =
    in_left (mend_entries w e (n + 1) (at + length p.bytes + p.boundary.size) ps) (piece_listed w e n at p d)
entries_listed w e (of_later {n} {at} {p} {ps} d) = in_right (piece_entries w e n at p) (entries_listed w e d)

pub due_listed : (t : List ℤ) (d : List ℕ) {x : MendEntry} → DueIn (width_of_records t d) (ending_of d) 1 0 (pieces_of d) x
    → In x (list_in t d)
unfolding list_in
due_listed t d h = entries_listed (width_of_records t d) (ending_of d) h

-- and what is listed is due
data Each (P : MendEntry → Type 0) : List MendEntry → Type 0 where
  each_none : Each P []
  each_one : {x : MendEntry} {l : List MendEntry} → P x → Each P l → Each P (x ∷ l)

in_each : {P : MendEntry → Type 0} {x : MendEntry} {l : List MendEntry} → Each P l → In x l → P x
in_each (each_one p a) first = p
in_each (each_one p a) (later i) = in_each a i
in_each {P = P} each_none i = elim i [ ]

each_append : {P : MendEntry → Type 0} {a b : List MendEntry} → Each P a → Each P b → Each P (a ++ b)
each_append each_none c = c
each_append (each_one p a) c = each_one p (each_append a c)

each_map : {P Q : MendEntry → Type 0} {l : List MendEntry} → ((x : MendEntry) → P x → Q x) → Each P l → Each Q l
each_map f each_none = each_none
each_map f (each_one {x} p a) = each_one (f x p) (each_map f a)

each_if : (P : MendEntry → Type 0) (q : Bool) (x : MendEntry) → (q ≡ true → P x) → Each P (listed_if q x)
unfolding listed_if
each_if P true x f = each_one (f refl) each_none
each_if P false x f = each_none

each_unless : (P : MendEntry → Type 0) (q : Bool) (x : MendEntry) → (q ≡ false → P x) → Each P (cond q [] (x ∷ []))
each_unless P true x f = each_none
each_unless P false x f = each_one (f refl) each_none

data LowIn (n at : ℕ) (r : List ℕ) : MendEntry → Type 0 where
  low_in : (j : ℕ) → j < length r → get_or r j 0 < 32 → LowIn n at r (mend_entry 2 n (at + j))

low_first : (n at b : ℕ) (r : List ℕ) → b < 32 → LowIn n at (b ∷ r) (mend_entry 2 n at)
low_first n at b r h =
    let z : at + 0 ≡ at = omega arith in
    let l : LowIn n at (b ∷ r) (mend_entry 2 n (at + 0)) = low_in 0 (omega arith) h in
    rw z at l

low_next : (n at b : ℕ) (r : List ℕ) (x : MendEntry) → LowIn n (at + 1) r x → LowIn n at (b ∷ r) x
low_next n at b r x (low_in j h l) =
    let z : at + suc j ≡ at + 1 + j = omega arith in
    let k : LowIn n at (b ∷ r) (mend_entry 2 n (at + suc j)) = low_in (suc j) (omega arith) l in
    rw z at k

bytes_due : (n at : ℕ) (r : List ℕ) → Each (LowIn n at r) (byte_entries n at r)
unfolding byte_entries
bytes_due n at [] = each_none
bytes_due n at (b ∷ r) =
    each_append (each_if (LowIn n at (b ∷ r)) (ltb b 32) (mend_entry 2 n at) (λ q. low_first n at b r (ltb-true b 32 q)))
    (each_map (low_next n at b r) (bytes_due n (at + 1) r))

not_same_of : (e b : Terminator) → same_boundary e b ≡ false → e ≡ b → ⊥
not_same_of e b h q = holds_not (ap (same_boundary e) (sym q) ∙ same_self e) h

low_due : (w : ℕ) (e : Terminator) (n at : ℕ) (p : Piece) (x : MendEntry) → LowIn n at p.bytes x → Due w e n at p x
low_due w e n at p x (low_in j h l) = low_byte_lem j h l

piece_due : (w : ℕ) (e : Terminator) (n at : ℕ) (p : Piece) → Each (Due w e n at p) (piece_entries w e n at p)
unfolding piece_entries
piece_due w e n at p = go (is_empty p) refl
  where
    go : (q : Bool) → is_empty p ≡ q → Each (Due w e n at p)
        (cond q (mend_entry 1 n at ∷ []) (byte_entries n at p.bytes
        ++ listed_if (ltb (length p.bytes) w) (mend_entry 3 n (at + length p.bytes))
        ++ cond (same_boundary e p.boundary) [] (mend_entry 4 n (at + length p.bytes) ∷ [])))
    go true q = each_one (dropped (eqb-true (length p.bytes) 0 q)) each_none
    go false q =
        let s : 1 ≤ length p.bytes = some_of_lem (length p.bytes) (eqb-false (length p.bytes) 0 q) in
        each_append
        (each_append (each_map (low_due w e n at p) (bytes_due n at p.bytes))
        (each_if (Due w e n at p) (ltb (length p.bytes) w) (mend_entry 3 n (at + length p.bytes))
        (λ l. too_short s (ltb-true (length p.bytes) w l))))
        (each_unless (Due w e n at p) (same_boundary e p.boundary) (mend_entry 4 n (at + length p.bytes))
        (λ l. other_end s (not_same_of e p.boundary l)))

module _ (w : ℕ) (e : Terminator) (n at : ℕ) (p : Piece) (ps : List Piece) where
  this_due : (x : MendEntry) → Due w e n at p x → DueIn w e n at (p ∷ ps) x
  this_due x d = of_this d

  later_due : (x : MendEntry) → DueIn w e (n + 1) (at + length p.bytes + p.boundary.size) ps x → DueIn w e n at (p ∷ ps) x
  later_due x d = of_later d

entries_due : (w : ℕ) (e : Terminator) (n at : ℕ) (ps : List Piece) → Each (DueIn w e n at ps) (mend_entries w e n at ps)
unfolding mend_entries
entries_due w e n at [] = each_none
entries_due w e n at (p ∷ ps) =
    each_append (each_map (this_due w e n at p ps) (piece_due w e n at p))
    (each_map (later_due w e n at p ps) (entries_due w e (n + 1) (at + length p.bytes + p.boundary.size) ps))

pub listed_due : (t : List ℤ) (d : List ℕ) {x : MendEntry} → In x (list_in t d)
    → DueIn (width_of_records t d) (ending_of d) 1 0 (pieces_of d) x
unfolding list_in
listed_due t d i = in_each (entries_due (width_of_records t d) (ending_of d) 1 0 (pieces_of d)) i
