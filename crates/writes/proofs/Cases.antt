-- The four outcomes of a write to a row.
use mathlib.Core.Path.{◌≡◌, refl, sym, ap, ◌∙◌}
use mathlib.Core.Bool.{Bool, true, false, cond}
use mathlib.Core.List.{List, [], ◌∷◌}
use Prim.Native.Nat.{ℕ, zero, suc, ◌+◌, ◌-◌, ◌^◌, ◌≤◌, ◌<◌}
use native.Mathlib.Omega.{arith}
use borrow.Author.Tests.{leb-true}
use lib.IntN.{ℤ, pos, negsuc}
use lib.Signed.{le_z}
use Rattle.below.specs.Below.{holds_not, and_left, and_right, and_true}
use Rattle.cells.specs.rule.Cell.{signed_of}
use Rattle.widths.specs.rule.Width.{size_of, lowest, highest, need, quantity_width}
use Rattle.fields.specs.rule.Legal.{in_range, legal}
use Rattle.layout.specs.declared.Kind.TheVariants.{Single, Multiple, Quantity, Character, Logical}
use Rattle.layout.specs.declared.Spread.TheVariants.{Bits, Fields}
use Rattle.layout.specs.declared.Format.{Format}
use Rattle.digits.specs.Room.{Wide}
use lib.ListN.{length, get_or, take, replicate, length-replicate}
use lib.Seq.{length-take-le}
use Rattle.places.specs.rule.Places.{put, run}
use Rattle.places.specs.Laws.{length_run}
use Rattle.layout.specs.declared.Kind.{Kind}
use Rattle.layout.specs.declared.Row.{Row}
use Rattle.fields.specs.rule.Field.{number, spaces, rising_from, all_legal, set_fits}
use Rattle.fieldlaws.specs.BackLaws.{Limits, bits_members, quantity_few}
use Rattle.fieldlaws.specs.RisingLaws.{Rising, legal_of, legal_here, legal_next}
use Rattle.setbytes.specs.Sets.{Small, within}
use Rattle.fields.specs.rule.Row.{fits, other_type, not_legal, too_many, legal_fit, fits_by, bytes_by, places_by, defined, bit_places}
use Rattle.sets.specs.Full.{EachLegal, always, each_defined}
use Rattle.writes.specs.declared.Wrote.TheVariants.{Done, OtherType, NotLegal, TooMany}
use Rattle.writes.specs.declared.Value.{Value}
use Rattle.writes.specs.declared.Value.TheVariants.{Missing, Number}
use Rattle.writes.specs.declared.Wrote.{Wrote}
use Rattle.writes.specs.rule.Write.{lent_value}
use Rattle.writes.specs.Write.{WrittenBy, Ready, EachFits, takes_numbers, answer_by, left_by}

module _ {k : Kind} {t : List ℤ} {v : ℕ} {r : Row} {value : Value} {list : List ℤ} {text : List ℕ} {old : List ℕ} where
  pub accepted : {new : List ℕ} → fits_by k t v r (lent_value value list text) ≡ fits
      → new ≡ put old (places_by k t v r) (bytes_by k t v r (lent_value value list text)) → WrittenBy k t v r value list text old new Done
  unfolding answer_by left_by
  accepted e q = record { says = rw e; leaves = rw (e, q) }

  pub other : fits_by k t v r (lent_value value list text) ≡ other_type → WrittenBy k t v r value list text old old OtherType
  unfolding answer_by left_by
  other e = record { says = rw e; leaves = rw e }

  pub illegal : fits_by k t v r (lent_value value list text) ≡ not_legal → WrittenBy k t v r value list text old old NotLegal
  unfolding answer_by left_by
  illegal e = record { says = rw e; leaves = rw e }

  pub many : fits_by k t v r (lent_value value list text) ≡ too_many → WrittenBy k t v r value list text old old TooMany
  unfolding answer_by left_by
  many e = record { says = rw e; leaves = rw e }

-- a missing value fits every kind, and gives spaces
module _ {k : Kind} {t : List ℤ} {v : ℕ} {r : Row} {old new : List ℕ} where
  pub blanked : new ≡ put old (places_by k t v r) (spaces (length (places_by k t v r))) → WrittenBy k t v r Missing [] [] old new Done
  unfolding lent_value fits_by bytes_by
  blanked q = accepted refl q

  -- in one run of places
  pub blanked_run : {k' : Kind} → k ≡ k' → (at w : ℕ) → places_by k' t v r ≡ run at w → new ≡ put old (run at w) (spaces w)
      → WrittenBy k t v r Missing [] [] old new Done
  blanked_run kind at w e q = blanked (rw (kind, e, length_run at w) q)

-- a number from 1 to 9,999
pub code_size : (z : ℤ) → le_z (pos 1) z ≡ true → le_z z (pos 9999) ≡ true → size_of z < 10 ^ 16
unfolding signed_of
code_size (pos n) a b = omega (arith, leb-true n 9999 b)
code_size (negsuc n) a b = holds_not a refl

pub legal_fits : {b : Bool} → b ≡ true → legal_fit b ≡ fits
unfolding legal_fit
legal_fits e = rw e

pub legal_not : {b : Bool} → b ≡ false → legal_fit b ≡ not_legal
unfolding legal_fit
legal_not e = rw e

-- a legal code has few digits
pub code_few : {t : List ℤ} {v n : ℕ} {r : Row} → Ready Single t v n r → (z : ℤ) → legal t v r z ≡ true → size_of z < 10 ^ 16
unfolding lowest highest
code_few h z e = code_size z (h.least z e) (h.most z e)

-- a legal quantity has room in the row's width
pub quantity_wide : {t : List ℤ} {v n : ℕ} {r : Row} {f : Format} → Ready (Quantity f) t v n r → (z : ℤ) → legal t v r z ≡ true
    → Wide f r.width z
unfolding lowest highest need quantity_width
quantity_wide {f = f} h z e = record {
  few = quantity_few f z (h.least z e) (h.most z e);
  decimals = h.kind.decimals;
  tail = omega (arith, h.room z e);
  inside = omega (arith, h.kind.width.few);
}

-- ---- numbers, by whether the kind takes them
module _ (t : List ℤ) (v : ℕ) (r : Row) (z : ℤ) where
  not_taken : (k : Kind) → takes_numbers k ≡ false → fits_by k t v r (number z) ≡ other_type
  unfolding fits_by
  not_taken Single e = holds_not refl e
  not_taken (Multiple s) e = refl
  not_taken (Quantity f) e = holds_not refl e
  not_taken Character e = refl
  not_taken Logical e = refl

  taken : (k : Kind) → takes_numbers k ≡ true → fits_by k t v r (number z) ≡ legal_fit (legal t v r z)
  unfolding fits_by
  taken Single e = refl
  taken (Multiple s) e = holds_not e refl
  taken (Quantity f) e = refl
  taken Character e = holds_not e refl
  taken Logical e = holds_not e refl

  -- no bytes, no change
  put_none : (old : List ℕ) (ps : List ℕ) → old ≡ put old ps []
  put_none old [] = refl
  put_none old (p ∷ ps) = refl

  pub no_figures : (old : List ℕ) (k : Kind) → takes_numbers k ≡ false → old ≡ put old (places_by k t v r) (bytes_by k t v r (number z))
  unfolding bytes_by
  no_figures old Single e = holds_not refl e
  no_figures old (Multiple s) e = put_none old (places_by (Multiple s) t v r)
  no_figures old (Quantity f) e = holds_not refl e
  no_figures old Character e = put_none old (places_by Character t v r)
  no_figures old Logical e = put_none old (places_by Logical t v r)

module _ {k : Kind} {t : List ℤ} {v : ℕ} {r : Row} {z : ℤ} {old : List ℕ} where
  pub number_other : takes_numbers k ≡ false → WrittenBy k t v r (Number z) [] [] old old OtherType
  unfolding lent_value
  number_other e = other (not_taken t v r z k e)

  module _ (e : takes_numbers k ≡ true) where
    pub number_illegal : legal t v r z ≡ false → WrittenBy k t v r (Number z) [] [] old old NotLegal
    unfolding lent_value
    number_illegal l = illegal (taken t v r z k e ∙ legal_not l)

    pub number_put : {new : List ℕ} → legal t v r z ≡ true → new ≡ put old (places_by k t v r) (bytes_by k t v r (number z))
        → WrittenBy k t v r (Number z) [] [] old new Done
    unfolding lent_value
    number_put l q = accepted (taken t v r z k e ∙ legal_fits l) q

-- the same value, said otherwise
pub as_given : {k : Kind} {t : List ℤ} {v : ℕ} {r : Row} {value value' : Value} {list list' : List ℤ} {text text' : List ℕ}
    {old new : List ℕ} {a : Wrote} → lent_value value list text ≡ lent_value value' list' text'
    → WrittenBy k t v r value' list' text' old new a → WrittenBy k t v r value list text old new a
as_given e w = record { says = rw e w.says; leaves = rw e w.leaves }

-- ---- sets
limits_of : {k : Kind} {t : List ℤ} {v n : ℕ} {r : Row} → Ready k t v n r → Limits k t v r
limits_of h = record { kind = h.kind; least = h.least; most = h.most; room = h.room }

-- a set that fits a bitstring is some of its categories
pub bits_rising : {t : List ℤ} {v n : ℕ} {r : Row} → Ready (Multiple Bits) t v n r → (ms : List ℤ) → set_fits (legal t v r) ms ≡ true
    → Rising 1 r.width ms
bits_rising {t} {v} {n} {r} h ms e = bits_members t v r (limits_of h) ms e

-- the members of a set that fits have few digits
all_small : (ok : ℤ → Bool) → ((z : ℤ) → ok z ≡ true → size_of z < 10 ^ 16) → (ms : List ℤ) → all_legal ok ms ≡ true → (i : ℕ)
    → size_of (get_or ms i (pos 0)) < 10 ^ 16
unfolding signed_of
all_small ok few [] l i = omega arith
all_small ok few (m ∷ ms) l zero = few m (legal_here ok m ms l)
all_small ok few (m ∷ ms) l (suc i) = all_small ok few ms (legal_next ok m ms l) i

pub spread_small : {t : List ℤ} {v n c b : ℕ} {r : Row} → Ready (Multiple (Fields c b)) t v n r → (ms : List ℤ) → set_fits (legal t v r) ms
    ≡ true → Small ms
unfolding lowest highest
spread_small {t} {v} {r = r} h ms e =
    record { at = all_small (legal t v r) (λ z q. code_size z (h.least z q) (h.most z q)) ms (legal_of (legal t v r) ms e) }

-- the answers of a spread
pub set_not : {a : Bool} (b : Bool) → a ≡ false → cond a (cond b too_many fits) not_legal ≡ not_legal
set_not b e = rw e

pub set_many : {a b : Bool} → a ≡ true → b ≡ true → cond a (cond b too_many fits) not_legal ≡ too_many
set_many e f = rw (e, f)

pub set_fits_lem : {a b : Bool} → a ≡ true → b ≡ false → cond a (cond b too_many fits) not_legal ≡ fits
set_fits_lem e f = rw (e, f)

-- ---- the kind of a row, once it is known
pub ready_as : {k k' : Kind} {t : List ℤ} {v n : ℕ} {r : Row} → k ≡ k' → Ready k t v n r → Ready k' t v n r
ready_as e h = rw e at h

pub written_as : {k k' : Kind} {t : List ℤ} {v : ℕ} {r : Row} {value : Value} {list : List ℤ} {text : List ℕ} {old new : List ℕ} {a : Wrote}
    → k ≡ k' → WrittenBy k' t v r value list text old new a → WrittenBy k t v r value list text old new a
written_as e w = rw e w

pub other_kind_lem : {k k' : Kind} {t : List ℤ} {v : ℕ} {r : Row} {value : Value} {list : List ℤ} {text : List ℕ} {old : List ℕ}
    → k ≡ k' → fits_by k' t v r (lent_value value list text) ≡ other_type → WrittenBy k t v r value list text old old OtherType
other_kind_lem kind e = written_as kind (other e)

-- the marks that are lent are as many as asked for
pub prefix : (k n : ℕ) → k ≤ n → k ≡ length {A = ℕ} (take k (replicate n 0))
prefix k n h = sym (length-take-le k (replicate n 0) (rw length-replicate h))

-- ---- a bitstring each of whose categories is legal: their places are one run
each_places : (at c n p : ℕ) → 1 ≤ c → p ≡ at + (c - 1) → bit_places at (defined always c n) ≡ run p n
unfolding defined bit_places
each_places at c zero p l e = refl
each_places at c (suc n) p l e = rw (← e) (ap (λ (ps : List ℕ). p ∷ ps) (each_places at (suc c) n (suc p) (omega arith) (omega arith)))

pub each_blank : (t : List ℤ) (v : ℕ) (r : Row) (w : ℕ) → EachLegal t v r w → (at : ℕ) (bytes : List ℕ)
    → put bytes (run at w) (spaces w)
    ≡ put bytes (bit_places at (defined (legal t v r) 1 w)) (spaces (length (bit_places at (defined (legal t v r) 1 w))))
each_blank t v r w h at bytes = rw (each_defined t v r w h, each_places at 1 w at (omega arith) (omega arith), length_run)

-- ---- a set that rises between two numbers, where each number between them is legal
module _ (ok ok' : ℤ → Bool) (more : (z : ℤ) → ok z ≡ true → ok' z ≡ true) where
  legal_more : (ms : List ℤ) → all_legal ok ms ≡ true → all_legal ok' ms ≡ true
  unfolding all_legal
  legal_more [] e = refl
  legal_more (m ∷ ms) e =
      and_true (ok' m) (all_legal ok' ms) (more m (and_left (ok m) (all_legal ok ms) e))
      (legal_more ms (and_right (ok m) (all_legal ok ms) e))

  pub fits_more : (ms : List ℤ) → set_fits ok ms ≡ true → set_fits ok' ms ≡ true
  unfolding set_fits
  fits_more [] e = refl
  fits_more (m ∷ ms) e =
      and_true (rising_from m ms) (all_legal ok' (m ∷ ms)) (and_left (rising_from m ms) (all_legal ok (m ∷ ms)) e)
      (legal_more (m ∷ ms) (and_right (rising_from m ms) (all_legal ok (m ∷ ms)) e))

each_within : (t : List ℤ) (v : ℕ) (r : Row) (w : ℕ) → EachLegal t v r w → (z : ℤ) → within (pos 1) (pos w) z ≡ true → legal t v r z ≡ true
unfolding within
each_within t v r w h (pos c) e =
    h c (leb-true 1 c (and_left (le_z (pos 1) (pos c)) (le_z (pos c) (pos w)) e))
    (leb-true c w (and_right (le_z (pos 1) (pos c)) (le_z (pos c) (pos w)) e))
each_within t v r w h (negsuc c) e = holds_not (and_left (le_z (pos 1) (negsuc c)) (le_z (negsuc c) (pos w)) e) refl

pub each_fits : (t : List ℤ) (v : ℕ) (r : Row) (w : ℕ) (ms : List ℤ) → EachLegal t v r w → set_fits (within (pos 1) (pos w)) ms ≡ true
    → EachFits t v r w ms
each_fits t v r w ms h e = record { each = h; fits = fits_more (within (pos 1) (pos w)) (legal t v r) (each_within t v r w h) ms e }

-- what lies in the row's range is legal
within_range : (t : List ℤ) (v : ℕ) (r : Row) → r.range ≡ true → (z : ℤ) → within r.from r.to z ≡ true → legal t v r z ≡ true
unfolding within legal in_range
within_range t v r h z e = rw (h, e)

pub range_fits : (t : List ℤ) (v : ℕ) (r : Row) (ms : List ℤ) → r.range ≡ true → set_fits (within r.from r.to) ms ≡ true
    → set_fits (legal t v r) ms ≡ true
range_fits t v r ms h e = fits_more (within r.from r.to) (legal t v r) (within_range t v r h) ms e
