-- Digits put into a room of their own.
use Rattle.std.specs.Prelude.{◌≡◌, List, ℕ, ◌+◌, ◌≤◌, length, take}
use Rattle.std.proofs.Common.{sym, ap, ◌∙◌, arith, length-take-le}
use Rattle.places.specs.rule.Places.{put, run}
use Rattle.places.specs.Laws.{pick_run, length_put, back, once_run, below_run, length_run}
use Rattle.fields.specs.rule.Number.{padded}
use Rattle.fieldlaws.specs.NumberLaws.{length_padded}

pub digits_stand : (l : List ℕ) (w n : ℕ) {l' : List ℕ} → w ≤ length l → l' ≡ put l (run 0 w) (padded w n) → take w l' ≡ padded w n
digits_stand l w n h e =
    let m : length (put l (run 0 w) (padded w n)) ≡ length l = length_put l (run 0 w) (padded w n) in
    let k : 0 + w ≤ length (put l (run 0 w) (padded w n)) = rw m (omega arith) in
    ap (take w) e ∙ sym (pick_run (put l (run 0 w) (padded w n)) 0 w k)
    ∙ back l (run 0 w) (padded w n) (once_run 0 w) (below_run (length l) 0 w (omega arith)) (length_padded w n ∙ sym (length_run 0 w))

pub room_kept : (l : List ℕ) (w n : ℕ) {l' : List ℕ} → w ≤ length l → l' ≡ put l (run 0 w) (padded w n) → w ≡ length (take w l')
room_kept l w n {l'} h e = sym (length-take-le w l' (rw (e, length_put l (run 0 w) (padded w n)) h))
