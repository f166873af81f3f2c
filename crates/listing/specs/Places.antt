-- What follows from rule/Places.antt, and what the code keeps.
use Rattle.std.specs.Prelude.{◌≡◌, true, ℕ, ◌+◌, ◌≤◌, ◌<◌, ℤ, length, drop}
use Rattle.std.proofs.Math.Path.{refl, sym, ap}
use Rattle.std.proofs.Common.{◌∙◌}
use mathlib.Core.List.{List, ◌++◌, append-nil}
use native.Mathlib.Omega.{arith}
use Rattle.layout.specs.rule.Layout.{most_rows}
use Rattle.sound.specs.rule.Sound.{well_formed}
use Rattle.sound.specs.rule.Rows.{rows_of}
use Rattle.cuts.specs.declared.Terminator.{Terminator}
use Rattle.cuts.specs.rule.Cut.{terminator_of}
use Rattle.cuts.specs.rule.Records.{over, unended, records_of, records_from}
use Rattle.cuts.specs.Records.{part, EndedAt}
use Rattle.records.specs.rule.Verdict.{refused}
use Rattle.files.specs.rule.File.{sound_with, fault_in}
use Rattle.lines.specs.rule.Appended.{Appended}
use Rattle.lines.specs.Appended.{keeps_room}
use Rattle.listing.specs.rule.Listing.{last_text, rest_text}
use Rattle.listing.specs.Listing.{listing_of, rest_over, rest_unended}
use Rattle.listing.specs.Turns.{took_end, took_text, Further, Taken}
use Rattle.listing.specs.declared.Place.{Place}
use Rattle.listing.specs.declared.Took.{Took}
use Rattle.listing.specs.declared.Took.TheVariants as took
use Rattle.listing.specs.declared.Turn.{Turn}
use Rattle.listing.specs.declared.Turn.TheVariants as turn
use Rattle.listing.specs.rule.Places.{PlaceGood, place_text, turn_end, turn_text, turns_left, Onward, ListedOn}

-- the place behind what was taken of the record at p: the next one starts at `next`
unfoldable pub turn_of : Place → ℕ → Took → Turn
turn_of p next (took.Part f i e) = turn.On (record { from = p.from; n = p.n; first = f; row = i }) e
turn_of p next (took.Whole f e) = turn.On (record { from = next; n = p.n + 1; first = f; row = 0 }) e
turn_of p next (took.Last e) = turn.Over e

-- ---- at the start all of the listing is left
abbrev pub start_place : Place
start_place = record { from = 0; n = 0; first = 0; row = 0 }

pub start_all : (t : List ℤ) (w : Terminator) (d : List ℕ) → well_formed t ≡ true → w ≡ terminator_of d
    → place_text t w d start_place ≡ listing_of t d
unfolding place_text rest_text listing_of records_of
start_all t w d g e = rw (g, e)

-- ---- laws
module _ (t : List ℤ) (w : Terminator) (d : List ℕ) (p : Place) (good : PlaceGood d p) (few : rows_of t ≤ most_rows) where
  -- a record with its terminator
  module _ {a e next : ℕ} (b : EndedAt d w p.from (records_from w (drop p.from d)) a e next) where
    same_text : (k : Took) → took_text t p.n (part d p.from e) (records_from w (drop next d)) k ≡ turn_text t w d (turn_of p next k)
    unfolding took_text turn_text turn_of place_text rest_text
    same_text (took.Part f i k) = rw b.records
    same_text (took.Whole f k) = refl
    same_text (took.Last k) = refl

    same_end : (k : Took) → took_end k ≡ turn_end (turn_of p next k)
    unfolding took_end turn_end turn_of
    same_end (took.Part f i k) = refl
    same_end (took.Whole f k) = refl
    same_end (took.Last k) = refl

    goes_onward : (k : Took) → Further (rows_of t) p.row k → Onward t d p (turn_of p next k)
    unfolding Further Onward turn_of turns_left
    goes_onward (took.Part f i k) h = (record { counted = good.counted; few = good.few }, omega (arith, h.0, h.1))
    goes_onward (took.Whole f k) h =
        let x = b.after in let y = b.inside in let z = b.next in let s = b.sized in let c = good.counted in
        (record { counted = omega arith; few = omega arith }, omega arith)
    goes_onward (took.Last k) h = tt

    pub listed_record : {out : List ℕ} {at : ℕ} {out' : List ℕ} {k : Took} {r : Turn} → r ≡ turn_of p next k
        → Taken t p.n p.first p.row (part d a e) out at out' k → ListedOn t w d p out at out' r
    unfolding place_text
    listed_record {out} {at} {out'} {k} q g =
        let h : Taken t p.n p.first p.row (part d p.from e) out at out' k = rw b.starts at g in
        rw q (record {
          text = h.text;
          stands = rw (same_end k) at h.stands;
          goes_on = rw b.records (h.goes_on (records_from w (drop next d)) ∙ ap (λ (l : List ℕ). h.text ++ l) (same_text k));
          onward = goes_onward k h.further;
        })

  -- a record with none, and no record
  pub listed_unended : {out : List ℕ} {at : ℕ} {out' : List ℕ} {e : ℕ} {r : List ℕ} → records_from w (drop p.from d) ≡ unended r
      → Appended out at (last_text t (fault_in (p.n + 1) (refused 30))) out' e → ListedOn t w d p out at out' (turn.Over e)
  unfolding place_text turn_end turn_text Onward
  listed_unended {r = r} q h = record {
    text = _;
    stands = h;
    goes_on = rw q (rest_unended t p.n p.first p.row r ∙ sym (append-nil (last_text t (fault_in (p.n + 1) (refused 30)))));
    onward = tt;
  }

  pub listed_over : {out : List ℕ} {at : ℕ} {out' : List ℕ} {e : ℕ} → records_from w (drop p.from d) ≡ over
      → Appended out at (last_text t (sound_with p.n)) out' e → ListedOn t w d p out at out' (turn.Over e)
  unfolding place_text turn_end turn_text Onward
  listed_over q h = record {
    text = _;
    stands = h;
    goes_on = rw q (rest_over t p.n p.first p.row ∙ sym (append-nil (last_text t (sound_with p.n))));
    onward = tt;
  }

-- ---- what a turn gives whoever goes on
module _ {t : List ℤ} {w : Terminator} {d : List ℕ} {p : Place} {out : List ℕ} {at : ℕ} {out' : List ℕ} {a : Turn}
    (l : ListedOn t w d p out at out' a) where
  pub turn_room : length out' ≡ length out
  turn_room = keeps_room l.stands

  module _ {q : Place} {e : ℕ} (on : a ≡ turn.On q e) where
    pub on_inside : e ≤ length out'
    unfolding turn_end
    on_inside = rw on at l.stands.inside

    onward_on : Onward t d p (turn.On q e)
    onward_on = rw on at l.onward

    pub on_good : PlaceGood d q
    unfolding Onward
    on_good = onward_on.0

    pub on_less : turns_left t d q < turns_left t d p
    unfolding Onward
    on_less = onward_on.1

  pub over_inside : {e : ℕ} → a ≡ turn.Over e → e ≤ length out'
  unfolding turn_end
  over_inside ended = rw ended at l.stands.inside

pub start_good : (d : List ℕ) → PlaceGood d start_place
start_good d = record { counted = omega arith; few = omega arith }
