-- `readings::text` meets its contract: by what the bytes say.
use mathlib.Core.Path.{◌≡◌, sym, ap, ◌∙◌}
use mathlib.Core.List.{List}
use Prim.Native.Nat.{ℕ}
use native.Mathlib.Omega.{arith}
use Rattle.places.specs.rule.Places.{pick, run}
use Rattle.fields.specs.rule.Field.{text_field}
use Rattle.letters.specs.Letters.{text_said}
use Rattle.readings.proofs.Laws.{text_missing, text_length, text_wrong, first_bytes}
use Rattle.readings.proofs.text.Goals as goal
use Rattle.readings.proofs.text.Goals.{After-read_text}

said : (c : After-read_text) → text_said (text_field
    (pick c.args.bytes.now (run c.args.at c.args.w)))
    ≡ c.read_text.result
said c =
    let a = c.args in
    let h = c.requires.w_in_bounds in let g = c.requires.at_in_bounds in
    ap (λ (s : List ℕ). text_said (text_field s)) (sym (first_bytes a.bytes.now a.at a.w (omega arith)))
    ∙ sym c.read_text.ensures

pub returns-in-Blank : goal.returns-in-Blank
returns-in-Blank c n = text_missing _ n _ (said (goal.at.returns-in-Blank c).After-read_text ∙ c.in-Blank.is)

pub returns-in-Length : goal.returns-in-Length
returns-in-Length c n = text_length _ n _ _ (said (goal.at.returns-in-Length c).After-read_text ∙ c.in-Length.is)

pub returns-in-Wrong : goal.returns-in-Wrong
returns-in-Wrong c n = text_wrong _ n _ (said (goal.at.returns-in-Wrong c).After-read_text ∙ c.in-Wrong.is)

pub slice_bounds-read_text-end : goal.slice_bounds-read_text-end
slice_bounds-read_text-end c = let h = c.requires.w_in_bounds in let g = c.requires.at_in_bounds in omega arith
