-- `letters::read_text` meets its contract: all spaces, plain, or not.
use mathlib.Core.Path.{◌≡◌, sym, ◌∙◌}
use mathlib.Core.Bool.{true, false}
use mathlib.Core.List.{List}
use Prim.Native.Nat.{ℕ, ◌≤◌}
use borrow.Author.Tests.{eq-eqb, ne_eqb}
use lib.ListN.{length, take}
use lib.Dec.{eqb}
use Rattle.fields.specs.rule.Number.{all_spaces}
use Rattle.fields.specs.rule.Field.{all_plain, unended, text_field}
use Rattle.letters.specs.Letters.{text_said}
use lib.Seq.{length-take-le}
use Rattle.letters.specs.declared.Text.TheVariants as t
use Rattle.letters.proofs.read_text.Goals as goal

missing_text : (s : List ℕ) (n : ℕ) (few : n ≤ length s) (ends : unended s ≡ take n s) (blank : all_spaces s ≡ eqb n 0) → n ≡ 0 → t.Blank
    ≡ text_said (text_field s)
unfolding text_said text_field
missing_text s n few ends blank e = rw (blank, eq-eqb _ _ e)

plain_text : (s : List ℕ) (n : ℕ) (few : n ≤ length s) (ends : unended s ≡ take n s) (blank : all_spaces s ≡ eqb n 0) → (n ≡ 0 → ⊥)
    → all_plain s ≡ true → t.Length n ≡ text_said (text_field s)
unfolding text_said text_field
plain_text s n few ends blank h e = rw (blank, ne_eqb _ _ h, e, ends, length-take-le n s few)

wrong_text : (s : List ℕ) (n : ℕ) (few : n ≤ length s) (ends : unended s ≡ take n s) (blank : all_spaces s ≡ eqb n 0) → (n ≡ 0 → ⊥)
    → all_plain s ≡ false → t.Wrong ≡ text_said (text_field s)
unfolding text_said text_field
wrong_text s n few ends blank h e = rw (blank, ne_eqb _ _ h, e)

pub returns-then-n-eq0 : goal.returns-then-n-eq0
returns-then-n-eq0 c = let k = c.kept_bytes-n.ensures in
    missing_text c.args.s.now _ k.0 k.1 k.2 c.if-n-eq0.true

pub returns-then-plain : goal.returns-then-plain
returns-then-plain c = let k = c.kept_bytes-n.ensures in
    plain_text c.args.s.now _ k.0 k.1 k.2 c.if-n-eq0.false
    (sym c.plain.ensures ∙ c.if-plain.true)

pub returns : goal.returns
returns c = let k = c.kept_bytes-n.ensures in
    wrong_text c.args.s.now _ k.0 k.1 k.2 c.if-n-eq0.false
    (sym c.plain.ensures ∙ c.if-plain.false)
