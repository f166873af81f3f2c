-- Theorems of specs/Stretch.antt, kept here: a wrong definition is refused by them.
use Rattle.std.specs.Prelude.{◌≡◌, ℕ, ◌+◌, ◌≤◌, ◌<◌, length, get_or}
use Rattle.std.proofs.Common.{sym, ◌∙◌, add-one, arith}
use Rattle.std.proofs.Math.Path.{ap}
use mathlib.Core.List.{List, ◌∷◌}
use Rattle.std.proofs.Math.Seq.{sets, length-sets}
use Rattle.ascii.specs.rule.Tens.{digits_of}
use Rattle.fields.specs.rule.Number.{padded}
use Rattle.fieldlaws.specs.NumberLaws.{length_padded}
use Rattle.lines.specs.rule.Text.{numeral}
use Rattle.sink.specs.rule.Sent.{Sent}
use Rattle.sink.specs.Sent.{less_owed, owed_as, sent_as, bytes_stored}
use Rattle.value_fields.specs.rule.Values.{codes_behind}
use Rattle.value_fields.specs.Legal.{bit_clear, codes_set, bits_over}
use Rattle.value_fields.proofs.Legal.{count_code}
use Rattle.value_fields.specs.Stretch.{Stretch}

code_sent : (n : ℕ) {bound : ℕ} {out out' : List ℕ} {at d : ℕ} → digits_of n ≡ d → out' ≡ sets out at (59 ∷ padded d n)
    → at + (d + 1) < bound → Sent bound out at (59 ∷ numeral n) out' (at + (d + 1))
unfolding numeral
code_sent n {bound} {out} {out'} {at} {d} e o h =
    let l : length (59 ∷ padded d n) ≡ d + 1 = rw (length_padded d n, add-one d) in
    rw (e, o) (rw l at (bytes_stored bound out at (59 ∷ padded d n) (rw l h)))

module _ {most w : ℕ} {r : List ℕ} {p i j : ℕ} {out : List ℕ} {at : ℕ} {out' : List ℕ} {end : ℕ}
    (s : Stretch most w r p i j out at out' end) where
  -- one byte more
  pub stretch_set : {d m n k : ℕ} {out'' : List ℕ} → j < w → get_or r (p + j) 0 ≡ 49 → n ≡ j + 1 → digits_of n ≡ d
      → out'' ≡ sets out' end (59 ∷ padded d n) → k ≡ j + 1 → most + (d + 1) ≤ m → Stretch m w r p i k out at out'' (end + (d + 1))
  stretch_set {d} {m} {n} {k} {out''} l b q e o g h = record {
    room = rw (o, length-sets out' end (59 ∷ padded d n)) s.room;
    few = let f = s.few in omega arith;
    owed = λ z.
        let f = s.few in
        rw g (less_owed (s.owed (omega arith)) (codes_set w j l r p b)
        (sent_as (code_sent n e o (omega arith)) (ap (λ (x : ℕ). 59 ∷ numeral x) q ∙ ap (λ (x : List ℕ). 59 ∷ x) (count_code (j + 1)))));
  }

  pub stretch_clear : {m k : ℕ} → j < w → (get_or r (p + j) 0 ≡ 49 → ⊥) → k ≡ j + 1 → most ≤ m → Stretch m w r p i k out at out' end
  stretch_clear l b g h = record {
    room = s.room;
    few = let f = s.few in omega arith;
    owed = λ z. rw g (owed_as (s.owed (omega arith)) (ap codes_behind (bit_clear w j l r p b)));
  }

  -- behind the last byte there is nothing
  pub stretch_over : {m k : ℕ} → w ≤ j → w ≤ k → most ≤ m → Stretch m w r p i k out at out' end
  stretch_over {m} {k} l n g = record {
    room = s.room;
    few = let f = s.few in omega arith;
    owed = λ h. owed_as (s.owed (omega arith)) (ap codes_behind (bits_over w r p j l ∙ sym (bits_over w r p k n)));
  }

  pub stretch_then : {more m k k' : ℕ} {out'' : List ℕ} {end' : ℕ} → Stretch more w r p j k out' end out'' end' → k' ≡ k
      → most + more ≤ m → Stretch m w r p i k' out at out'' end'
  stretch_then z e g = record {
    room = z.room ∙ s.room;
    few = let f = s.few in let q = z.few in omega arith;
    owed = λ {bound} h.
        let f = s.few in
        rw e record {
          pays = λ x. (s.owed {bound = bound} (omega arith)).pays ((z.owed {bound = bound} (omega arith)).pays x);
          same_room = z.room ∙ s.room;
        };
  }
