-- Listing a file from place to place: what is left to list from a place on is what is appended and what is left from the next.
use Rattle.std.specs.Prelude.{◌≡◌, List, [], ◌++◌, ℕ, ◌+◌, ◌-◌, ◌*◌, ◌≤◌, ◌<◌, ℤ, length, drop}
use Rattle.sound.specs.rule.Rows.{rows_of}
use Rattle.cuts.specs.declared.Terminator.{Terminator}
use Rattle.cuts.specs.rule.Records.{records_from}
use Rattle.lines.specs.rule.Appended.{Appended}
use Rattle.listing.specs.rule.Listing.{rest_text}
use Rattle.listing.specs.declared.Place.{Place}
use Rattle.listing.specs.declared.Turn.{Turn}
use Rattle.listing.specs.declared.Turn.TheVariants as turn

-- no more records came before a place than bytes
pub record PlaceGood (d : List ℕ) (p : Place) : Type 0 where
  pub counted : p.n ≤ p.from
  pub few : p.n ≤ length d

-- what is left to list from a place on
unfoldable pub place_text : List ℤ → Terminator → List ℕ → Place → List ℕ
place_text t w d p = rest_text t p.n p.first p.row (records_from w (drop p.from d))

unfoldable pub turn_end : Turn → ℕ
turn_end (turn.On p e) = e
turn_end (turn.Over e) = e

unfoldable pub turn_text : List ℤ → Terminator → List ℕ → Turn → List ℕ
turn_text t w d (turn.On p e) = place_text t w d p
turn_text t w d (turn.Over e) = []

-- how many turns are left, at most: a table has at most 512 rows
unfoldable pub turns_left : List ℤ → List ℕ → Place → ℕ
turns_left t d p = (length d - p.from) * 1000 + (rows_of t - p.row)

-- a turn leads to a place further on
unfoldable pub Onward : List ℤ → List ℕ → Place → Turn → Type 0
Onward t d p (turn.On q e) = PlaceGood d q × (turns_left t d q < turns_left t d p)
Onward t d p (turn.Over e) = Unit

-- THE PROMISE of a turn: the text that is appended, and what is left from there on, is what was left
pub record ListedOn (t : List ℤ) (w : Terminator) (d : List ℕ) (p : Place) (out : List ℕ) (at : ℕ) (out' : List ℕ) (a : Turn) : Type 0 where
  pub text : List ℕ
  pub stands : Appended out at text out' (turn_end a)
  pub goes_on : place_text t w d p ≡ text ++ turn_text t w d a
  pub onward : Onward t d p a
