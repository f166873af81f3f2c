-- "References: lt gt amp apos quot, `&#d;`, `&#xh;`, in texts and in attribute values, numbers and words included (`start="&#49;"` is 1)."
-- "Comments stand wherever XML lets them, in texts too (`<size>1<!--x-->0</size>` is 10)": they say nothing.
-- What a stretch says: each byte itself, a reference its character, a comment nothing. 38 is &, 60 33 45 45 is <!--.
use Rattle.std.specs.Prelude.{Option, Some, None}
use Rattle.std.specs.Prelude.{◌≡◌, false, cond, List, [], ◌∷◌, ◌++◌, ℕ, zero, suc, ◌+◌, ◌-◌, leb, eqb, length, drop, get_or}
use Rattle.scan.specs.rule.Loop.{Next, Again, Done, loop_of}
use Rattle.markup.specs.rule.Bytes.{stands}
use Rattle.markup.specs.rule.Reference.{reference_of}
use Rattle.markup.specs.rule.Gap.{xml_comment}
use Rattle.markup.specs.rule.Grammar.{Ref, Note}
use Rattle.markup.specs.declared.Skip.{Skip}
use Rattle.markup.specs.declared.Skip.TheVariants.{Past, Broken}
use Rattle.spans.specs.declared.First.{First}
use Rattle.spans.specs.declared.First.TheVariants.{One, End, Not}
use Rattle.spans.specs.declared.Part.{Part}
use Rattle.spans.specs.declared.Part.TheVariants.{Passed, Stop}

-- ---- in XML's words: bytes s say the characters cs
pub data Says : List ℕ → List ℕ → Type 0 where
  nothing : Says [] []
  plain : {b : ℕ} {s cs : List ℕ} → (b ≡ 38 → ⊥) → (b ≡ 60 → ⊥) → Says s cs → Says (b ∷ s) (b ∷ cs)
  refer : {c : ℕ} {u s cs : List ℕ} → Ref u c → Says s cs → Says (38 ∷ u ++ s) (c ∷ cs)
  note : {u s cs : List ℕ} → Note u → Says s cs → Says (60 ∷ 33 ∷ 45 ∷ 45 ∷ u ++ s) cs

-- ---- the same, read from left to right
abbrev pub of_char : Option (ℕ × ℕ) → First
of_char (Some (c, n)) = One c n
of_char None = Not

abbrev pub of_note : Skip → Part
of_note (Past n) = Passed n
of_note (Broken p) = Stop Not

-- at p a < stands: a comment, or nothing that a stretch may hold
unfoldable pub noted_of : List ℕ → ℕ → Part
noted_of s p = cond (stands (60 ∷ 33 ∷ 45 ∷ 45 ∷ []) (drop p s)) (of_note (xml_comment false p (p + 4) (drop (p + 4) s))) (Stop Not)

unfoldable pub part_of : List ℕ → ℕ → Part
part_of s p =
    let b = get_or s p 0 in
    cond (leb (length s) p) (Stop End)
    (cond (eqb b 38) (Stop (of_char (reference_of p (drop (p + 1) s)))) (cond (eqb b 60) (noted_of s p) (Stop (One b (p + 1)))))

abbrev pub of_part : Part → Next ℕ First
of_part (Passed n) = Again n
of_part (Stop r) = Done r

-- the first character from p on, behind comments
unfoldable pub first_heard : List ℕ → ℕ → First
first_heard s p = loop_of (λ p. of_part (part_of s p)) Not (suc (length s - p)) p

-- all characters; or that something else stands among them
pub data Heard : Type 0 where
  All : List ℕ → Heard
  Ill : Heard

abbrev pub after : ℕ → Heard → Heard
after c (All cs) = All (c ∷ cs)
after c Ill = Ill

abbrev pub on_first : First → (ℕ → Heard) → Heard
on_first (One c n) k = after c (k n)
on_first End k = All []
on_first Not k = Ill

-- in at most so many steps
unfoldable pub heard_by : ℕ → List ℕ → ℕ → Heard
heard_by zero s p = Ill
heard_by (suc f) s p = on_first (first_heard s p) (heard_by f s)

unfoldable pub heard : List ℕ → ℕ → Heard
heard s p = heard_by (suc (length s - p)) s p
