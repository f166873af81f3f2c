-- Pages one behind the other, and what the loops keep.
use Rattle.std.specs.Prelude.{◌≡◌, refl, Bool, true, false, cond, List, [], ◌∷◌, ◌++◌, eqb, ltb, get_or}
use Rattle.std.proofs.Common.{ap, ◌∙◌, div-add-mod', mul-le-mul_left, mul-one, ltb-false, ne_eqb, le-leb}
use Prim.Native.Nat.{ℕ, suc, ◌+◌, ◌-◌, ◌*◌, ◌/◌, ◌^◌, ◌≤◌, ◌<◌}
use native.Mathlib.Omega.{arith}
use Rattle.std.proofs.lemmas.Bool.{eqb-false, lt-leb}
use Rattle.ascii.specs.rule.Class.{upper_of}
use Rattle.scan.specs.rule.Text.{Text, stop, sign}
use Rattle.scan.specs.rule.Word.{word_of, word_at}
use Rattle.scan.proofs.Texts.{text_kept, kept_byte}
use Rattle.scan.proofs.Words.{upper_miss}
use Rattle.clean_text.specs.rule.Span.{up_to}
use Rattle.sink.specs.rule.Sent.{Sent}
use Rattle.sink.specs.Sent as sent
use Rattle.sink.specs.Sent.{sent_as}
use Rattle.statements.specs.rule.Words.{VALUES, END}
use Rattle.steps.specs.declared.Found.{Found}
use Rattle.steps.specs.Step.{found_in, keyword_past, statement_found}
use Rattle.steps.specs.Law.{found}
use Rattle.steps.specs.Quiet.{Quiet, notes_to}
use Rattle.pages.specs.declared.Walked.{Walked}
use Rattle.pages.specs.declared.LineParts.{LineParts}
use Rattle.pages.specs.Page.{Page, page, before, then, Paged, room_of, even_of, line_at, line_text, lines_page, variable_page}
use Rattle.pages.specs.Page.{variables_page}

pub paged_before : {bound : ℕ} {out : List ℕ} {at : ℕ} {s out₁ : List ℕ} {q : ℕ} {out₂ : List ℕ} {r : Walked} {p : Page}
    → Sent bound out at s out₁ q → Paged bound out₁ q out₂ r p → Paged bound out at out₂ r (before s p)
paged_before a b = record { sent = sent.then a b.sent; stands = b.stands }

pub paged_then : {bound : ℕ} {out : List ℕ} {at : ℕ} {out₁ : List ℕ} {w : Walked} {out₂ : List ℕ} {r : Walked} {p : Page} (f : ℕ → Page)
    → Paged bound out at out₁ w p → Paged bound out₁ w.at out₂ r (f w.next) → Paged bound out at out₂ r (then p f)
paged_then f a b = record {
  sent = sent.then a.sent (sent_as b.sent (ap (λ (n : ℕ). (f n).text) a.stands));
  stands = b.stands ∙ ap (λ (n : ℕ). (f n).next) a.stands;
}

pub paged_as : {bound : ℕ} {out : List ℕ} {at : ℕ} {out₂ : List ℕ} {r : Walked} {p q : Page} → Paged bound out at out₂ r p → p ≡ q
    → Paged bound out at out₂ r q
paged_as a e = rw e at a

-- ---- numbers
pub room_small : (a b : ℕ) → room_of a b ≤ 16384 + 1
unfolding room_of
room_small a b = by (ltb 16384 b) refl (ltb b a) where
  by : (p : Bool) → ltb 16384 b ≡ p → (q : Bool) → cond p 0 (cond q 0 (b - a + 1)) ≤ 16384 + 1
  by true e q = omega arith
  by false e true = omega arith
  by false e false = omega (arith, ltb-false 16384 b e)

pub div_le : (a n : ℕ) → 1 ≤ n → a / n ≤ a
div_le a n o =
    let e = div-add-mod' a n in
    let h : a / n ≤ a / n * n = rw (mul-one (a / n)) at (mul-le-mul_left (a / n) o) in
    omega (arith, e, h)

pub even_small : (room n : ℕ) → room ≤ 16384 + 1 → even_of room n < 10 ^ 16
unfolding even_of
even_small room n h = by (eqb n 0) refl where
  by : (q : Bool) → eqb n 0 ≡ q → cond q 0 (room / n) < 10 ^ 16
  by true e = omega arith
  by false e =
      let z = eqb-false n 0 e in
      let o : 1 ≤ n = omega (arith, z) in
      omega (arith, div_le room n o)

-- ---- a stretch, byte by byte
pub span_more : (end p b : ℕ) (t u : Text) → t ≡ sign p b u → p < end → up_to end t ≡ (b ∷ []) ++ up_to end u
unfolding up_to
span_more end p b t u e h = rw (e, lt-leb end p h)

pub span_over : (end p b : ℕ) (t u : Text) → t ≡ sign p b u → end ≤ p → up_to end t ≡ []
unfolding up_to
span_over end p b t u e h = rw (e, le-leb end p h)

pub span_end : (end p : ℕ) (t : Text) → t ≡ stop p → up_to end t ≡ []
unfolding up_to
span_end end p t e = rw e

-- ---- where a byte begins neither a gap nor a note, nor END
pub no_end : (d : List ℕ) (n : ℕ) → Quiet d n → (get_or d n 0 ≡ 69 → ⊥) → (get_or d n 0 ≡ 101 → ⊥) → statement_found d n END ≡ found false n
unfolding statement_found found_in word_at word_of
no_end d n q f g = rw (
  notes_to d n n refl q,
  text_kept d n q.within (kept_byte (get_or d n 0) (omega (arith, q.above))),
  ne_eqb (upper_of (get_or d n 0)) 69 (upper_miss (get_or d n 0) 69 f g),
)

-- ---- the lines of a block
module _ (d : List ℕ) (k n : ℕ) where
  pub lines_out : 4096 ≤ k → lines_page (4096 - k) d n ≡ page [] n
  unfolding lines_page
  lines_out h = let q : 4096 - k ≡ 0 = omega arith in rw q

  pub variables_out : 512 ≤ k → variables_page (512 - k) d n ≡ page [] n
  unfolding variables_page
  variables_out h = let q : 512 - k ≡ 0 = omega arith in rw q

  module _ (h : k < 4096) (l : LineParts) (a : l ≡ line_at d n) (e : Found) (b : e ≡ statement_found d l.next END) where
    pub lines_done : e.there ≡ true → lines_page (4096 - k) d n ≡ page (line_text d l ++ []) (keyword_past d e.next VALUES)
    unfolding lines_page
    lines_done t = let q : 4096 - k ≡ suc (4096 - (k + 1)) = omega arith in rw (q, ← a, ← b, t)

    pub lines_more : e.there ≡ false → lines_page (4096 - k) d n ≡ before (line_text d l) (lines_page (4096 - (k + 1)) d l.next)
    unfolding lines_page
    lines_more t = let q : 4096 - k ≡ suc (4096 - (k + 1)) = omega arith in rw (q, ← a, ← b, t)

  module _ (h : k < 512) (m : ℕ) (a : m ≡ (variable_page d n).next) (e : Found) (b : e ≡ statement_found d m END) where
    pub variables_done : e.there ≡ true → variables_page (512 - k) d n ≡ page ((variable_page d n).text ++ []) m
    unfolding variables_page
    variables_done t = let q : 512 - k ≡ suc (512 - (k + 1)) = omega arith in rw (q, ← a, ← b, t)

    pub variables_more : e.there ≡ false → variables_page (512 - k) d n
        ≡ before (variable_page d n).text (variables_page (512 - (k + 1)) d m)
    unfolding variables_page
    variables_more t = let q : 512 - k ≡ suc (512 - (k + 1)) = omega arith in rw (q, ← a, ← b, t)
