-- Whoever turns the pages until it is over has listed all: what the turns append to their buffers, one after the other, is the listing.
-- And it is over after so many turns at most.
use Rattle.std.specs.Prelude.{◌≡◌, refl, true, ℕ, suc, ◌+◌, ◌-◌, ◌≤◌, ℤ, length}
use Rattle.std.proofs.Math.Path.{sym, ap}
use Rattle.std.proofs.Common.{◌∙◌}
use mathlib.Core.List.{List, ◌++◌, append-nil}
use native.Mathlib.Omega.{arith}
use Rattle.places.specs.rule.Places.{run}
use Rattle.places.specs.Laws.{back, once_run, below_run, length_run, pick_run}
use Rattle.sound.specs.rule.Sound.{well_formed}
use Rattle.cuts.specs.declared.Terminator.{Terminator}
use Rattle.cuts.specs.rule.Cut.{terminator_of}
use Rattle.cuts.specs.Records.{part}
use Rattle.lines.specs.rule.Appended.{laid_at, Appended}
use Rattle.lines.specs.Appended.{keeps_room}
use Rattle.listing.specs.Listing.{listing_of}
use Rattle.listing.specs.Places.{start_place, start_all, on_less}
use Rattle.listing.specs.declared.Place.{Place}
use Rattle.listing.specs.declared.Turn.TheVariants as turn
use Rattle.listing.specs.rule.Places.{place_text, turn_end, turn_text, turns_left, ListedOn}

-- turns from a place on, until it is over, and the bytes that they leave: each leaves those from `at` to e of its buffer, which may be
-- another one each time
pub data Turns (t : List ℤ) (w : Terminator) (d : List ℕ) : Place → List ℕ → Type 0 where
  over : {p : Place} {out out' : List ℕ} {at e : ℕ} → ListedOn t w d p out at out' (turn.Over e) → Turns t w d p (part out' at e)
  on : {p q : Place} {out out' rest : List ℕ} {at e : ℕ} → ListedOn t w d p out at out' (turn.On q e) → Turns t w d q rest
      → Turns t w d p (part out' at e ++ rest)

-- a text that was appended stands there
there : {out out' s : List ℕ} {at r : ℕ} → Appended out at s out' r → part out' at r ≡ s
unfolding laid_at
there {out} {out'} {s} {at} {r} a =
    let n : r - at ≡ length s = omega (arith, a.ends) in
    let h : at + length s ≤ length out' = omega (arith, a.ends, a.inside) in
    let k : at + length s ≤ length out = rw (keeps_room a) at h in
    rw n (sym (pick_run out' at (length s) h) ∙ rw a.leaves
    (back out (run at (length s)) s (once_run at (length s)) (below_run (length out) at (length s) k) (sym (length_run at (length s)))))

module _ {t : List ℤ} {w : Terminator} {d : List ℕ} where
  turns_rest : {p : Place} {s : List ℕ} → Turns t w d p s → s ≡ place_text t w d p
  unfolding turn_end turn_text
  turns_rest (over l) = there l.stands ∙ sym (append-nil l.text) ∙ sym l.goes_on
  turns_rest (on {rest = rest} l r) =
      ap (λ (x : List ℕ). x ++ rest) (there l.stands) ∙ ap (λ (x : List ℕ). l.text ++ x) (turns_rest r) ∙ sym l.goes_on

  -- how many they are
  pub turns_in : {p : Place} {s : List ℕ} → Turns t w d p s → ℕ
  turns_in (over l) = 1
  turns_in (on l r) = suc (turns_in r)

  pub turns_few : {p : Place} {s : List ℕ} (c : Turns t w d p s) → turns_in c ≤ suc (turns_left t d p)
  unfolding turns_in
  turns_few (over l) = omega arith
  turns_few (on l r) = omega (arith, turns_few r, on_less l refl)

-- ALL: from the start until it is over the listing is left, whole
pub turns_list_all : {t : List ℤ} {d s : List ℕ} → well_formed t ≡ true → Turns t (terminator_of d) d start_place s → s ≡ listing_of t d
turns_list_all {t} {d} g c = turns_rest c ∙ start_all t (terminator_of d) d g refl
