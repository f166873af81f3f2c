-- "An element from its `<` to the end of its end tag is a statement. It is judged once read: the first 2 or 50 met, then 4, 5, 6, 7, 8, 51,
-- 52
-- by lowest number, equal numbers by place." Texts, POSITION, SPREAD and SIZE, by the charges that 1.1 has for them. "A text tabled: place
-- just after its tag's `>`, length to its end tag's `<`." "An unknown attribute is 51 at its name."
-- Each reader begins behind the name of its start tag, whose < stands at p.
use Rattle.std.specs.Prelude.{Bool, cond, List, [], ◌∷◌, ◌++◌, ℕ, ◌+◌, ◌-◌, eqb, length, take, drop}
use Rattle.std.proofs.Math.Option.{Option, none, some, get_or}
use Rattle.scan.specs.rule.Number.{decimal_of}
use Rattle.spans.specs.rule.Heard.{Heard, All, Ill, heard}
use Rattle.forms.specs.rule.Form.{fits_of}
use Rattle.tags.specs.rule.Tag.{tag_of}
use Rattle.pairs.specs.rule.Stand.{bare_of}
use Rattle.contents.specs.rule.Content.{content_of}
use Rattle.contents.specs.declared.Content.{Content}
use Rattle.contents.specs.declared.Content.TheVariants as content
use Rattle.tokens.specs.rule.Gap.{fault}
use Rattle.survey.specs.rule.Survey.{Figure, Amount, KeptText, Spread}
use Rattle.reading.specs.rule.Result.{Result, Is, Not, Reader, ◌>>=◌}
use Rattle.reading.specs.rule.Least.{Charge, judged}
use Rattle.reading.specs.rule.Token.{amount_read}
use Rattle.reading.specs.rule.Statement.{Position, position_charges, spread_charges, size_charges}
use Rattle.xml_reading.specs.rule.Word.{POSITION, START, FINISH, SPREAD, SUBFIELDS, WIDTH, SIZE}
use Rattle.xml_reading.specs.rule.Open.{unknown_at, on_tag, nothing}

-- ---- what a stretch says
abbrev pub said_in : Heard → List ℕ
said_in (All cs) = cs
said_in Ill = []

-- the characters of d from v to e
unfoldable pub chars_of : List ℕ → ℕ → ℕ → List ℕ
chars_of d v e = said_in (heard (take (e - v) (drop v d)) 0)

unfoldable pub figure_of : List ℕ → ℕ → ℕ → Figure
figure_of d v e = let cs = chars_of d v e in record { place = v; end = e; digits = length cs; value = decimal_of 0 cs }

unfoldable pub amount_in : List ℕ → ℕ → ℕ → Amount
amount_in d v e = amount_read v e (chars_of d v e)

-- an attribute that may be left out: place 0 is none
abbrev pub given_at : {A : Type 0} → ℕ → A → Option A
given_at v a = cond (eqb v 0) none (some a)

-- ---- a text, and what is wrong with it: attributes that aren't known; a cut ends it, and it is not judged then
pub record Body : Type 0 where
  pub text : KeptText
  pub whole : Bool
  pub charges : List Charge

abbrev pub body_of : ℕ → ℕ → Bool → List Charge → Body
body_of at end whole l = record { text = record { place = at; length = end - at }; whole = whole; charges = l }

abbrev pub on_content : ℕ → Content → Result Body
on_content at (content.Read end n u) = Is (body_of at end Bool.true (unknown_at u ∷ [])) n
on_content at (content.Cut p u) = Is (body_of at at Bool.false (unknown_at u ∷ unknown_at p ∷ [])) p
on_content at (content.Fault number p) = Not (fault number p)

module _ (bad : Bool) (d : List ℕ) where
  -- the text of an element w behind its start tag, by mode: 0 characters alone, 1 breaks too, 2 texts in other languages too
  unfoldable pub body : List ℕ → ℕ → Bool → Reader Body
  body w m empty n = cond empty (Is (body_of n n Bool.true []) n) (on_content n (content_of bad d m w n))

  -- an element that is only a text
  unfoldable pub text : List ℕ → ℕ → ℕ → Reader KeptText
  text w m p e =
      on_tag bad d (bare_of bad d p e) λ h empty q.
      do
        b ← body w m empty
        judged (unknown_at h.unknown ∷ b.charges) b.text

  -- `<position start [finish]/>`
  unfoldable pub position : ℕ → Reader Position
  position p e =
      on_tag bad d (tag_of bad d p e START FINISH [] 1 1 0 1) λ h empty q.
      let a = figure_of d h.a h.ae in
      let b = given_at h.b (figure_of d h.b h.be) in
      do
        l ← nothing bad d POSITION empty
        judged (position_charges a (get_or b a) ++ unknown_at h.unknown ∷ l) (record { start = a; finish = b })

  -- `<spread subfields [width]/>`, in a position of `room` bytes
  unfoldable pub spread : ℕ → ℕ → Reader Spread
  spread room p e =
      on_tag bad d (tag_of bad d p e SUBFIELDS WIDTH [] 1 1 0 1) λ h empty q.
      let a = figure_of d h.a h.ae in
      let b = given_at h.b (figure_of d h.b h.be) in
      do
        l ← nothing bad d SPREAD empty
        judged (spread_charges room a b ++ unknown_at h.unknown ∷ l) (record { count = a; width = b })

  -- "Size: the decoded text is digits, else 2 at the text's place"
  unfoldable pub size_in : ℕ → Body → Reader Figure
  size_in u b n =
      let v = b.text.place in
      let e = v + b.text.length in
      let x = figure_of d v e in
      cond b.whole
      (cond (fits_of 1 (heard (take (e - v) (drop v d)) 0)) (judged (size_charges x ++ unknown_at u ∷ b.charges) x n) (Not (fault 2 v)))
      (judged (unknown_at u ∷ b.charges) x n)

  -- `<size>n</size>`
  unfoldable pub size : ℕ → Reader Figure
  size p e =
      on_tag bad d (bare_of bad d p e) λ h empty q.
      do
        b ← body SIZE 0 empty
        size_in h.unknown b
