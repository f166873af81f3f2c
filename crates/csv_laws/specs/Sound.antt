-- What is read is what the grammar derives; and so, both ways, a text is read as these lines exactly when the grammar derives them from it.
use Rattle.std.specs.Prelude.{◌≡◌, refl, ◌↔◌, Bool, true, false, cond, ◌||◌, List, [], ◌∷◌, ◌++◌, ℕ, zero, suc, ◌+◌, ◌≤◌, ◌<◌, eqb, length}
use Rattle.std.proofs.Common.{sym, ap, ◌∙◌, append_assoc, arith, eqb-true, length-append}
use Rattle.commas.specs.rule.Csv.{is_special, holds_special, doubled_byte, doubled}
use Rattle.csv_fields.specs.rule.Page.{Page, torn, more, last, PageMode, start, fresh, bare, ending, inside, closing, skip, keep}
use Rattle.csv_fields.specs.rule.Page.{comma}
use Rattle.csv_fields.specs.rule.Page.{ended, wrong}
use Rattle.csv_fields.specs.rule.Page.{bare_step, page_step, with_byte, taken, page_at_end, page, Lines, done, broken, line, with_field}
use Rattle.csv_fields.specs.rule.Page.{page_lines}
use Rattle.csv_laws.specs.rule.Grammar.{FieldSpelt, plainly, quoted, IsLine, alone, and_more, IsText, no_line, and_lines, all_of}
use Rattle.csv_laws.specs.Complete.{text_read}

-- a field that stands at the start of s, spelt as `body` says, and what stops it
data Parts (body : List ℕ → List ℕ → Type 0) (s : List ℕ) (p : Page) : Type 0 where
  at_comma : (f u w : List ℕ) → body f u → s ≡ u ++ (44 ∷ w) → p ≡ more f (page fresh w) → Parts body s p
  at_end_lem : (f u w : List ℕ) → body f u → s ≡ u ++ (13 ∷ 10 ∷ w) → p ≡ last f (page start w) → Parts body s p
  at_torn : p ≡ torn → Parts body s p

-- a byte more in front, kept or not
shift : (body body' : List ℕ → List ℕ → Type 0) (b c : ℕ) → ((f u : List ℕ) → body f u → body' (b ∷ f) (c ∷ u)) → {s : List ℕ} {p : Page}
    → Parts body s p → Parts body' (c ∷ s) (with_byte b p)
unfolding with_byte
shift body body' b c g (at_comma f u w k e q) = at_comma (b ∷ f) (c ∷ u) w (g f u k) (ap (λ (x : List ℕ). c ∷ x) e) (ap (with_byte b) q)
shift body body' b c g (at_end_lem f u w k e q) = at_end_lem (b ∷ f) (c ∷ u) w (g f u k) (ap (λ (x : List ℕ). c ∷ x) e) (ap (with_byte b) q)
shift body body' b c g (at_torn q) = at_torn (ap (with_byte b) q)

front : (body body' : List ℕ → List ℕ → Type 0) (c : ℕ) → ((f u : List ℕ) → body f u → body' f (c ∷ u)) → {s : List ℕ} {p : Page}
    → Parts body s p → Parts body' (c ∷ s) p
front body body' c g (at_comma f u w k e q) = at_comma f (c ∷ u) w (g f u k) (ap (λ (x : List ℕ). c ∷ x) e) q
front body body' c g (at_end_lem f u w k e q) = at_end_lem f (c ∷ u) w (g f u k) (ap (λ (x : List ℕ). c ∷ x) e) q
front body body' c g (at_torn q) = at_torn q

-- behind a CR
ending_parts : (body : List ℕ → List ℕ → Type 0) → body [] [] → (s : List ℕ) → Parts body (13 ∷ s) (page ending s)
unfolding page page_at_end page_step taken
ending_parts body k [] = at_torn refl
ending_parts body k (b ∷ s) = go (eqb b 10) refl
  where
    go : (q : Bool) → eqb b 10 ≡ q → Parts body (13 ∷ b ∷ s) (taken (cond q ended wrong) (λ m'. page m' s))
    go true e = at_end_lem [] [] s k (rw (eqb-true b 10 e)) refl
    go false e = at_torn refl

-- ---- without quotes
abbrev Bare : List ℕ → List ℕ → Type 0
Bare f u = (u ≡ f) × (holds_special f ≡ false)

bare_parts : (s : List ℕ) → Parts Bare s (page bare s)
unfolding page page_at_end page_step bare_step taken holds_special is_special
bare_parts [] = at_torn refl
bare_parts (b ∷ s) = go (eqb b 44) (eqb b 13) (eqb b 34) (eqb b 10) refl refl refl refl (bare_parts s)
  where
    go : (p q r u : Bool) → eqb b 44 ≡ p → eqb b 13 ≡ q → eqb b 34 ≡ r → eqb b 10 ≡ u → Parts Bare s (page bare s)
        → Parts Bare (b ∷ s) (taken (cond p comma (cond q (skip ending) (cond (r || u) wrong (keep b bare)))) (λ m'. page m' s))
    go true q r u a c d e k = at_comma [] [] s (refl, refl) (rw (eqb-true b 44 a)) refl
    go false true r u a c d e k = rw (eqb-true b 13 c) (ending_parts Bare (refl, refl) s)
    go false false true u a c d e k = at_torn refl
    go false false false true a c d e k = at_torn refl
    go false false false false a c d e k = shift Bare Bare b b (λ f v x. (ap (λ (y : List ℕ). b ∷ y) x.0, rw (a, d, c, e) x.1)) k

-- ---- within quotes
abbrev Inside : List ℕ → List ℕ → Type 0
Inside f u = u ≡ doubled f ++ (34 ∷ [])

data Closing (f u : List ℕ) : Type 0 where
  closed : f ≡ [] → u ≡ [] → Closing f u
  doubling : (g v : List ℕ) → f ≡ 34 ∷ g → u ≡ 34 ∷ v → Inside g v → Closing f u

close_inside : (f u : List ℕ) → Closing f u → Inside f (34 ∷ u)
unfolding doubled doubled_byte
close_inside f u (closed e q) = rw (e, q)
close_inside f u (doubling g v e q k) = rw (e, q, k)

keep_inside : (b : ℕ) → eqb b 34 ≡ false → (f u : List ℕ) → Inside f u → Inside (b ∷ f) (b ∷ u)
unfolding doubled doubled_byte
keep_inside b e f u k = rw (e, k)

abbrev Body : Bool → List ℕ → List ℕ → Type 0
Body true f u = Closing f u
Body false f u = Inside f u

abbrev mode : Bool → PageMode
mode true = closing
mode false = inside

quoted_parts : (s : List ℕ) (c : Bool) → Parts (Body c) s (page (mode c) s)
unfolding page page_at_end page_step taken
quoted_parts [] true = at_torn refl
quoted_parts [] false = at_torn refl
quoted_parts (b ∷ s) false = go (eqb b 34) refl (quoted_parts s true) (quoted_parts s false)
  where
    go : (q : Bool) → eqb b 34 ≡ q → Parts Closing s (page closing s) → Parts Inside s (page inside s)
        → Parts Inside (b ∷ s) (taken (cond q (skip closing) (keep b inside)) (λ m'. page m' s))
    go true e k l = rw (eqb-true b 34 e) (front Closing Inside 34 close_inside k)
    go false e k l = shift Inside Inside b b (keep_inside b e) l
quoted_parts (b ∷ s) true = go (eqb b 34) (eqb b 44) (eqb b 13) refl refl refl (quoted_parts s false)
  where
    go : (q p r : Bool) → eqb b 34 ≡ q → eqb b 44 ≡ p → eqb b 13 ≡ r → Parts Inside s (page inside s)
        → Parts Closing (b ∷ s) (taken (cond q (keep 34 inside) (cond p comma (cond r (skip ending) wrong))) (λ m'. page m' s))
    go true p r a c d l = rw (eqb-true b 34 a) (shift Inside Closing 34 34 (λ f u k. doubling f u refl refl k) l)
    go false true r a c d l = at_comma [] [] s (closed refl refl) (rw (eqb-true b 44 c)) refl
    go false false true a c d l = rw (eqb-true b 13 d) (ending_parts Closing (closed refl refl) s)
    go false false false a c d l = at_torn refl

-- ---- where a field is due
same_parts : (body body' : List ℕ → List ℕ → Type 0) → ((f u : List ℕ) → body f u → body' f u) → {s : List ℕ} {p p' : Page} → p' ≡ p
    → Parts body s p → Parts body' s p'
same_parts body body' g z (at_comma f u w k e q) = at_comma f u w (g f u k) e (z ∙ q)
same_parts body body' g z (at_end_lem f u w k e q) = at_end_lem f u w (g f u k) e (z ∙ q)
same_parts body body' g z (at_torn q) = at_torn (z ∙ q)

fresh_quote : (s : List ℕ) → page fresh (34 ∷ s) ≡ page inside s
unfolding page page_step taken
fresh_quote s = refl

fresh_other : (b : ℕ) (s : List ℕ) → eqb b 34 ≡ false → page fresh (b ∷ s) ≡ page bare (b ∷ s)
unfolding page page_step
fresh_other b s e = rw e

fresh_none : page fresh [] ≡ torn
unfolding page page_at_end
fresh_none = refl

fresh_parts : (s : List ℕ) → Parts FieldSpelt s (page fresh s)
fresh_parts [] = at_torn fresh_none
fresh_parts (b ∷ s) = go (eqb b 34) refl
  where
    go : (q : Bool) → eqb b 34 ≡ q → Parts FieldSpelt (b ∷ s) (page fresh (b ∷ s))
    go true e = rw (eqb-true b 34 e) (same_parts FieldSpelt FieldSpelt (λ f u k. k) (fresh_quote s)
        (front Inside FieldSpelt 34 (λ f u k. quoted (ap (λ (x : List ℕ). 34 ∷ x) k)) (quoted_parts s false)))
    go false e = same_parts Bare FieldSpelt (λ f u k. plainly k.1 k.0) (fresh_other b s e) (bare_parts (b ∷ s))

-- ---- a line
record Derived (fs : List (List ℕ)) (ls : Lines) (s : List ℕ) : Type 0 where
  pub u : List ℕ
  pub w : List ℕ
  pub is : s ≡ u ++ w
  pub derives : IsLine fs u
  pub rest : page_lines (page start w) ≡ ls

no_line_in : {A : Type 0} {fs : List (List ℕ)} {ls : Lines} (c : ℕ) → broken c ≡ line fs ls → A
no_line_in c e = let z : ◌≡◌ {A = ℕ} 0 1 = cc in absurd (omega arith)

done_line : {A : Type 0} {fs : List (List ℕ)} {ls : Lines} → done ≡ line fs ls → A
done_line e = let z : ◌≡◌ {A = ℕ} 0 1 = cc in absurd (omega arith)

broken_done : {A : Type 0} (c : ℕ) → broken c ≡ done → A
broken_done c e = let z : ◌≡◌ {A = ℕ} 0 1 = cc in absurd (omega arith)

line_sound : (n : ℕ) (s : List ℕ) → length s < n → (fs : List (List ℕ)) (ls : Lines) → page_lines (page fresh s) ≡ line fs ls
    → Derived fs ls s
unfolding page_lines with_field
line_sound zero s h fs ls e = absurd (omega arith)
line_sound (suc n) s h fs ls e = by (λ w l gs ms y. line_sound n w l gs ms y) (fresh_parts s)
  where
    by : ((w : List ℕ) → length w < n → (gs : List (List ℕ)) (ms : Lines) → page_lines (page fresh w) ≡ line gs ms → Derived gs ms w)
        → Parts FieldSpelt s (page fresh s) → Derived fs ls s
    by rec (at_torn q) = no_line_in 1 (sym (ap page_lines q) ∙ e)
    by rec (at_end_lem f u w k i q) =
        let x : line (f ∷ []) (page_lines (page start w)) ≡ line fs ls = sym (ap page_lines q) ∙ e in
        let a : f ∷ [] ≡ fs = cc in
        let b : page_lines (page start w) ≡ ls = cc in
        record {
          u = u ++ (13 ∷ 10 ∷ []);
          w = w;
          is = i
              ∙ sym (append_assoc u (13 ∷ 10 ∷ []) w);
          derives = rw (← a) (alone k refl);
          rest = b;
        }
    by rec (at_comma f u w k i q) =
        let l : length w < n = omega (arith, length-append u (44 ∷ w), ap length i) in
        go (page_lines (page fresh w)) refl (sym (ap page_lines q) ∙ e) l
      where
        go : (x : Lines) → page_lines (page fresh w) ≡ x → with_field f x ≡ line fs ls → length w < n → Derived fs ls s
        go done y z l = done_line z
        go (broken c) y z l = no_line_in (c + 1) z
        go (line gs ms) y z l =
            let a : f ∷ gs ≡ fs = cc in
            let b : ms ≡ ls = cc in
            let d = rec w l gs ms y in
            record {
              u = u ++ (44 ∷ d.u);
              w = d.w;
              is = i ∙ ap (λ (v : List ℕ). u ++ (44 ∷ v)) d.is ∙ sym (append_assoc u (44 ∷ d.u) d.w);
              derives = rw (← a) (and_more k d.derives refl);
              rest = d.rest ∙ b;
            }

line_some : {fs : List (List ℕ)} {s : List ℕ} → IsLine fs s → 1 ≤ length s
line_some (alone {u = u} k e) = rw e (omega (arith, length-append u (13 ∷ 10 ∷ [])))
line_some (and_more {u = u} {w = w} k l e) = rw e (omega (arith, length-append u (44 ∷ w)))

-- a line that is due is there, or malformed
never_done : (n : ℕ) (s : List ℕ) → length s < n → page_lines (page fresh s) ≡ done → ⊥
unfolding page_lines with_field
never_done zero s h e = absurd (omega arith)
never_done (suc n) s h e = by (λ w l y. never_done n w l y) (fresh_parts s)
  where
    by : ((w : List ℕ) → length w < n → page_lines (page fresh w) ≡ done → ⊥) → Parts FieldSpelt s (page fresh s) → ⊥
    by rec (at_torn q) = broken_done 1 (sym (ap page_lines q) ∙ e)
    by rec (at_end_lem f u w k i q) = done_line (sym (sym (ap page_lines q) ∙ e))
    by rec (at_comma f u w k i q) = go (page_lines (page fresh w)) refl (sym (ap page_lines q) ∙ e)
      where
        go : (x : Lines) → page_lines (page fresh w) ≡ x → with_field f x ≡ done → ⊥
        go done y z = rec w (omega (arith, length-append u (44 ∷ w), ap length i)) y
        go (broken c) y z = broken_done (c + 1) z
        go (line gs ms) y z = done_line (sym z)

start_due : (b : ℕ) (s : List ℕ) → page start (b ∷ s) ≡ page fresh (b ∷ s)
unfolding page page_step
start_due b s = refl

start_over : page_lines (page start []) ≡ done
unfolding page page_at_end page_lines
start_over = refl

text_sound : (n : ℕ) (s : List ℕ) → length s < n → (ls : List (List (List ℕ))) → page_lines (page start s) ≡ all_of ls → IsText ls s
unfolding all_of
text_sound zero s h ls e = absurd (omega arith)
text_sound (suc n) [] h [] e = no_line refl
text_sound (suc n) [] h (l ∷ ls) e = done_line (sym start_over ∙ e)
text_sound (suc n) (b ∷ s) h [] e = absurd (never_done (suc (suc (length s))) (b ∷ s) (omega arith)
    (sym (ap page_lines (start_due b s)) ∙ e))
text_sound (suc n) (b ∷ s) h (l ∷ ls) e =
    let d = line_sound (suc (suc (length s))) (b ∷ s) (omega arith) l (all_of ls) (sym (ap page_lines (start_due b s)) ∙ e) in
    and_lines d.derives (text_sound n d.w (omega (arith, line_some d.derives, length-append d.u d.w, ap length d.is)) ls
    d.rest) d.is

-- A TEXT IS READ AS THESE LINES EXACTLY WHEN the grammar derives them from it
pub text_exactly : (s : List ℕ) (ls : List (List (List ℕ))) → (page_lines (page start s) ≡ all_of ls) ↔ IsText ls s
text_exactly s ls = (text_sound (suc (length s)) s (omega arith) ls, text_read)
