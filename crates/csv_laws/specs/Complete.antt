-- What the grammar derives is what is read; and every line that export writes is derived.
use Rattle.std.specs.Prelude.{◌≡◌, refl, Bool, true, false, cond, ◌||◌, List, [], ◌∷◌, ◌++◌, ℕ, eqb}
use Rattle.std.proofs.Common.{sym, ap, ◌∙◌, append-nil, append_assoc, arith, eqb-true}
use Rattle.std.proofs.lemmas.Bool.{eqb-false}
use Rattle.below.specs.Below.{holds_not}
use Rattle.commas.specs.rule.Csv.{is_special, holds_special, doubled_byte, doubled, field_bytes, behind_first, line_bytes, csv_bytes}
use Rattle.commas.specs.Csv.{field_quoted, field_plain}
use Rattle.csv_fields.specs.rule.Page.{Page, more, last, start, fresh, bare, inside, bare_step, page_step}
use Rattle.csv_fields.specs.rule.Page.{with_byte, taken, page_at_end, page}
use Rattle.csv_fields.specs.rule.Page.{Lines, line, with_field, page_lines}
use Rattle.csv_fields.specs.Page.{with_bytes, with_more, with_last, special_quote, inside_keeps}
use Rattle.csv_fields.proofs.Page.{bare_keeps}
use Rattle.csv_laws.specs.rule.Grammar.{FieldSpelt, plainly, quoted, IsLine, alone, and_more, IsText, no_line, and_lines, all_of}

plain_head : (b : ℕ) (f : List ℕ) → holds_special (b ∷ f) ≡ false → (is_special b ≡ false) × (holds_special f ≡ false)
unfolding holds_special
plain_head b f e = go (is_special b) e
  where
    go : (q : Bool) → (q || holds_special f) ≡ false → (q ≡ false) × (holds_special f ≡ false)
    go true e = holds_not refl e
    go false e = (refl, e)

-- bytes of a field
bare_run : (f u : List ℕ) → holds_special f ≡ false → page bare (f ++ u) ≡ with_bytes f (page bare u)
unfolding with_bytes
bare_run [] u e = refl
bare_run (b ∷ f) u e = let h = plain_head b f e in bare_keeps b (f ++ u) h.0 ∙ ap (with_byte b) (bare_run f u h.1)

inside_two : (s : List ℕ) → page inside (34 ∷ 34 ∷ s) ≡ with_byte 34 (page inside s)
unfolding page page_step taken
inside_two s = refl

inside_run : (f u : List ℕ) → page inside (doubled f ++ u) ≡ with_bytes f (page inside u)
unfolding with_bytes doubled doubled_byte
inside_run [] u = refl
inside_run (b ∷ f) u = go (eqb b 34) refl (inside_run f u)
  where
    go : (q : Bool) → eqb b 34 ≡ q → page inside (doubled f ++ u) ≡ with_bytes f (page inside u)
        → page inside ((cond q (34 ∷ 34 ∷ []) (b ∷ []) ++ doubled f) ++ u) ≡ with_byte b (with_bytes f (page inside u))
    go true w k = rw (eqb-true b 34 w) (inside_two (doubled f ++ u) ∙ ap (with_byte 34) k)
    go false w k = inside_keeps b (doubled f ++ u) (eqb-false b 34 w) ∙ ap (with_byte b) k

fresh_bare : (b : ℕ) (s : List ℕ) → is_special b ≡ false → page fresh (b ∷ s) ≡ page bare (b ∷ s)
unfolding page page_step
fresh_bare b s e = rw (special_quote b e).3

-- a field and its comma
comma_bare : (w : List ℕ) → page bare (44 ∷ w) ≡ more [] (page fresh w)
unfolding page page_step bare_step taken
comma_bare w = refl

comma_fresh : (w : List ℕ) → page fresh (44 ∷ w) ≡ more [] (page fresh w)
unfolding page page_step bare_step taken
comma_fresh w = refl

comma_inside : (w : List ℕ) → page inside (34 ∷ 44 ∷ w) ≡ more [] (page fresh w)
unfolding page page_step bare_step taken
comma_inside w = refl

end_bare : (w : List ℕ) → page bare (13 ∷ 10 ∷ w) ≡ last [] (page start w)
unfolding page page_step bare_step taken
end_bare w = refl

end_fresh : (w : List ℕ) → page fresh (13 ∷ 10 ∷ w) ≡ last [] (page start w)
unfolding page page_step bare_step taken
end_fresh w = refl

end_inside : (w : List ℕ) → page inside (34 ∷ 13 ∷ 10 ∷ w) ≡ last [] (page start w)
unfolding page page_step bare_step taken
end_inside w = refl

quote_fresh : (s : List ℕ) → page fresh (34 ∷ s) ≡ page inside s
unfolding page page_step taken
quote_fresh s = refl

quoted_as : (f u : List ℕ) → ((34 ∷ []) ++ (doubled f ++ (34 ∷ []))) ++ u ≡ 34 ∷ (doubled f ++ (34 ∷ u))
quoted_as f u = ap (λ (x : List ℕ). 34 ∷ x) (append_assoc (doubled f) (34 ∷ []) u)

more_nil : (f : List ℕ) (p : Page) → with_bytes f (more [] p) ≡ more f p
more_nil f p = with_more f [] p ∙ rw (append-nil f)

last_nil : (f : List ℕ) (p : Page) → with_bytes f (last [] p) ≡ last f p
last_nil f p = with_last f [] p ∙ rw (append-nil f)

plain_comma : (f w : List ℕ) → holds_special f ≡ false → page fresh (f ++ (44 ∷ w)) ≡ more f (page fresh w)
plain_comma [] w e = comma_fresh w
plain_comma (b ∷ f) w e =
    fresh_bare b (f ++ (44 ∷ w)) (plain_head b f e).0 ∙ bare_run (b ∷ f) (44 ∷ w) e ∙ ap (with_bytes (b ∷ f)) (comma_bare w)
    ∙ more_nil (b ∷ f) (page fresh w)

plain_end : (f w : List ℕ) → holds_special f ≡ false → page fresh (f ++ (13 ∷ 10 ∷ w)) ≡ last f (page start w)
plain_end [] w e = end_fresh w
plain_end (b ∷ f) w e =
    fresh_bare b (f ++ (13 ∷ 10 ∷ w)) (plain_head b f e).0 ∙ bare_run (b ∷ f) (13 ∷ 10 ∷ w) e ∙ ap (with_bytes (b ∷ f)) (end_bare w)
    ∙ last_nil (b ∷ f) (page start w)

pub spelt_comma : {f u : List ℕ} (w : List ℕ) → FieldSpelt f u → page fresh (u ++ (44 ∷ w)) ≡ more f (page fresh w)
spelt_comma {f} w (plainly e q) = rw q (plain_comma f w e)
spelt_comma {f} w (quoted q) =
    rw (q, quoted_as f (44 ∷ w)) (quote_fresh (doubled f ++ (34 ∷ 44 ∷ w)) ∙ inside_run f (34 ∷ 44 ∷ w) ∙ ap (with_bytes f) (comma_inside w)
    ∙ more_nil f (page fresh w))

pub spelt_end : {f u : List ℕ} (w : List ℕ) → FieldSpelt f u → page fresh (u ++ (13 ∷ 10 ∷ w)) ≡ last f (page start w)
spelt_end {f} w (plainly e q) = rw q (plain_end f w e)
spelt_end {f} w (quoted q) =
    rw (q, quoted_as f (13 ∷ 10 ∷ w)) (quote_fresh (doubled f ++ (34 ∷ 13 ∷ 10 ∷ w)) ∙ inside_run f (34 ∷ 13 ∷ 10 ∷ w)
    ∙ ap (with_bytes f) (end_inside w) ∙ last_nil f (page start w))

-- A LINE that the grammar derives is read
pub line_read : {fs : List (List ℕ)} {s : List ℕ} → IsLine fs s → (w : List ℕ) → page_lines (page fresh (s ++ w))
    ≡ line fs (page_lines (page start w))
unfolding page_lines with_field
line_read (alone {f = f} {u = u} p q) w = rw (q, append_assoc u (13 ∷ 10 ∷ []) w) (ap page_lines (spelt_end w p))
line_read (and_more {f = f} {u = u} {w = v} p l q) w = rw (q, append_assoc u (44 ∷ v) w)
    (ap page_lines (spelt_comma (v ++ w) p) ∙ ap (with_field f) (line_read l w))

-- a line is not empty: where one may start, it is due
nothing_read : {fs : List (List ℕ)} {ls : Lines} {A : Type 0} → page_lines (page fresh []) ≡ line fs ls → A
unfolding page page_at_end page_lines
nothing_read e = let z : ◌≡◌ {A = ℕ} 0 1 = cc in absurd (omega arith)

start_fresh : (b : ℕ) (s : List ℕ) → page start (b ∷ s) ≡ page fresh (b ∷ s)
unfolding page page_step
start_fresh b s = refl

line_due : (s : List ℕ) {fs : List (List ℕ)} {ls : Lines} → page_lines (page fresh s) ≡ line fs ls → page start s ≡ page fresh s
line_due [] e = nothing_read e
line_due (b ∷ s) e = start_fresh b s

-- A TEXT that the grammar derives is read
pub text_read : {ls : List (List (List ℕ))} {s : List ℕ} → IsText ls s → page_lines (page start s) ≡ all_of ls
unfolding all_of page page_at_end page_lines
text_read (no_line e) = rw e
text_read (and_lines {fs = fs} {ls = ls} {u = u} {w = w} l t e) =
    rw e (ap page_lines (line_due (u ++ w) (line_read l w)) ∙ line_read l w ∙ ap (line fs) (text_read t))

-- the first line is due in every text
pub text_read_fresh : {fs : List (List ℕ)} {ls : List (List (List ℕ))} {s : List ℕ} → IsText (fs ∷ ls) s → page_lines (page fresh s)
    ≡ line fs (all_of ls)
text_read_fresh (and_lines {fs = fs} {ls = ls} {u = u} {w = w} l t e) = rw e (line_read l w ∙ ap (line fs) (text_read t))

-- ---- what export writes
pub field_spelt : (f : List ℕ) → FieldSpelt f (field_bytes f)
field_spelt f = go (holds_special f) refl
  where
    go : (q : Bool) → holds_special f ≡ q → FieldSpelt f (field_bytes f)
    go true e = quoted (sym (field_quoted f e))
    go false e = plainly e (sym (field_plain f e))

behind_line : (f : List ℕ) (fs : List (List ℕ)) → IsLine (f ∷ fs) (field_bytes f ++ behind_first fs)
unfolding behind_first
behind_line f [] = alone (field_spelt f) refl
behind_line f (g ∷ fs) = and_more (field_spelt f) (behind_line g fs) refl

pub written_line : (f : List ℕ) (fs : List (List ℕ)) → IsLine (f ∷ fs) (line_bytes (f ∷ fs))
unfolding line_bytes
written_line f fs = behind_line f fs

-- lines of one field or more
pub data Filled : List (List (List ℕ)) → Type 0 where
  no_more : Filled []
  and_filled : {f : List ℕ} {fs : List (List ℕ)} {ls : List (List (List ℕ))} → Filled ls → Filled ((f ∷ fs) ∷ ls)

pub written_text : {ls : List (List (List ℕ))} → Filled ls → IsText ls (csv_bytes ls)
unfolding csv_bytes
written_text no_more = no_line refl
written_text (and_filled {f = f} {fs = fs} r) = and_lines (written_line f fs) (written_text r) refl
