-- Codes of a bitstring stored where there is room for all of them, and the semicolon before the first.
use Rattle.std.specs.Prelude.{◌≡◌, refl, ℕ, suc, ◌+◌, ◌≤◌, ◌<◌, ℤ, length, get_or}
use Rattle.std.proofs.Common.{sym, ◌∙◌, ⊎_elim, add-one, arith, set-set}
use Rattle.std.proofs.Math.Path.{ap}
use mathlib.Core.List.{List, [], ◌∷◌, ◌++◌}
use Rattle.std.proofs.Math.ListN.{set, length-set}
use Rattle.std.proofs.Math.Seq.{sets}
use Rattle.std.proofs.lemmas.List.{set-get_or, set_comm}
use Rattle.below.specs.Below.{lt_or_le}
use Rattle.places.specs.rule.Places.{put, run}
use Rattle.fields.specs.rule.Number.{padded}
use Rattle.fieldlaws.specs.NumberLaws.{length_padded}
use Rattle.sink.specs.rule.Sent.{Sent}
use Rattle.sink.specs.Sent.{Owed, all_owed}
use Rattle.value_fields.specs.rule.Values.{export_number, codes_behind, set_text}
use Rattle.value_fields.specs.Values.{put_sets}
use Rattle.value_fields.specs.Legal.{bits_from}

-- of a bitstring of w bytes from the place p of r on, what is set from byte i to byte j is stored, in so many bytes at most
pub record Stretch (most w : ℕ) (r : List ℕ) (p i j : ℕ) (out : List ℕ) (at : ℕ) (out' : List ℕ) (end : ℕ) : Type 0 where
  pub room : length out' ≡ length out
  pub few : end ≤ at + most
  pub owed : {bound : ℕ} → at + most < bound
      → Owed bound out at (codes_behind (bits_from w r p i)) out' end (codes_behind (bits_from w r p j))

pub stretch_none : (w : ℕ) (r : List ℕ) (p i : ℕ) (out : List ℕ) (at : ℕ) → Stretch 0 w r p i i out at out at
stretch_none w r p i out at = record { room = refl; few = omega arith; owed = λ {bound} h. all_owed bound out at refl }

-- a code with its semicolon
pub behind_stored : (out : List ℕ) (at d n : ℕ) → put (set out at 59) (run (at + 1) d) (padded d n) ≡ sets out at (59 ∷ padded d n)
behind_stored out at d n = rw (add-one at) (put_sets (padded d n) (set out at 59) (suc at) d (length_padded d n))

-- ---- a semicolon before the first code, at the place before it: that place gets its own byte back
sets_below : (s l : List ℕ) (k at b : ℕ) → k < at → set (sets l at s) k b ≡ sets (set l k b) at s
sets_below [] l k at b h = refl
sets_below (x ∷ s) l k at b h =
    sets_below s (set l at x) k (suc at) b (omega arith)
    ∙ ap (λ (y : List ℕ). sets y (suc at) s) (set_comm l at k x b (λ e. omega arith))

byte_back : (s l : List ℕ) (k b : ℕ) → set (sets l k (b ∷ s)) k (get_or l k 0) ≡ sets l (suc k) s
byte_back s l k b =
    sets_below s (set l k b) k (suc k) (get_or l k 0) (omega arith)
    ∙ ap (λ (y : List ℕ). sets y (suc k) s) (set-set l k b (get_or l k 0) ∙ set-get_or l k 0)

module _ {bound : ℕ} {out out' : List ℕ} {k at end : ℕ} (e : at ≡ suc k) (low : at < bound) where
  pub none_set : (ms : List ℤ) → Sent bound out k (codes_behind ms) out' end → end ≡ k → {out'' : List ℕ} {r : ℕ}
      → Sent bound out' at (110 ∷ 111 ∷ 110 ∷ 101 ∷ []) out'' r → Sent bound out at (set_text ms) out'' r
  unfolding codes_behind set_text
  none_set [] a q b = record {
    room = b.room ∙ a.room;
    within = b.within;
    beyond = b.beyond;
    stored = λ h g.
        b.stored h (rw a.room g)
        ∙ ap (λ (y : List ℕ). sets y at (110 ∷ 111 ∷ 110 ∷ 101 ∷ [])) (a.stored (omega arith) g);
  }
  none_set (m ∷ ms) a q b = absurd (⊎_elim (λ h. omega (arith, a.within h)) (λ h. omega (arith, a.beyond h)) (lt_or_le _ bound))

  pub some_set : (ms : List ℤ) → Sent bound out k (codes_behind ms) out' end → (end ≡ k → ⊥)
      → Sent bound out at (set_text ms) (set out' k (get_or out k 0)) end
  unfolding codes_behind set_text
  some_set [] a ne = absurd (ne (omega (arith, a.within (omega arith))))
  some_set (m ∷ ms) a ne = record {
    room = length-set out' k (get_or out k 0) ∙ a.room;
    within = λ h. omega (arith, a.within (omega arith));
    beyond = λ h. a.beyond (omega arith);
    stored = λ h g.
        ap (λ (y : List ℕ). set y k (get_or out k 0)) (a.stored (omega arith) g)
        ∙ byte_back (export_number 0 m ++ codes_behind ms) out k 59
        ∙ ap (λ (i : ℕ). sets out i (export_number 0 m ++ codes_behind ms)) (sym e);
  }
