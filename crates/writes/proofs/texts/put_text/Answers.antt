-- `writes::texts::put_text` meets its contract: the text and the spaces behind it are one run of places.
use mathlib.Core.Path.{◌≡◌, ◌∙◌}
use mathlib.Core.List.{List}
use Prim.Native.Nat.{ℕ, ◌+◌, ◌-◌, ◌≤◌}
use native.Mathlib.Omega.{arith}
use lib.ListN.{length, take}
use lib.Seq.{take-length}
use Rattle.places.specs.rule.Places.{put, run}
use Rattle.places.specs.Laws.{put_run_append}
use Rattle.fields.specs.rule.Field.{spaces, text_bytes}
use Rattle.writes.proofs.texts.put_text.Goals as goal

joined : (bytes : List ℕ) (at w : ℕ) (s : List ℕ) → length s ≤ w
    → put (put bytes (run at (length s)) (take (length s) s)) (run (at + length s) (w - length s)) (spaces (w - length s))
    ≡ put bytes (run at w) (text_bytes w s)
unfolding text_bytes
joined bytes at w s h =
    let e : length s + (w - length s) ≡ w = omega arith in
    rw take-length (put_run_append s bytes at (w - length s) (spaces (w - length s)) ∙ rw e)

pub returns : goal.returns
returns c =
    c.blank.ensures ∙ rw c.copy_in.ensures (joined c.args.bytes.now c.args.at c.args.w c.args.text.now c.requires.0)
