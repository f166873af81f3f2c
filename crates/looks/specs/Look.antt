-- What a look tells: a word, a number, a string that stand just as they are to be written, and the lines that they make.
use Rattle.std.specs.Prelude.{◌≡◌, refl, Bool, true, false, not, ◌&&◌, ◌||◌, List, [], ◌∷◌, ◌++◌, ℕ, ◌+◌, ◌-◌, ◌≤◌, ◌<◌}
use Rattle.std.specs.Prelude.{eqb, leb, ltb}
use Rattle.std.proofs.Common.{sym, ◌∙◌, ⊎_elim, eqb-true}
use native.Mathlib.Omega.{arith}
use Rattle.std.proofs.Math.ListN.{length, get_or}
use Rattle.below.specs.Below.{either_true}
use Rattle.scan.specs.rule.Text.{Text, sign, text}
use Rattle.scan.specs.rule.Number.{is_digit, is_value, run_of}
use Rattle.scan.specs.rule.Word.{word_at}
use Rattle.scan.proofs.Texts.{text_kept, kept_byte}
use Rattle.scan.proofs.Runs.{run_next, run_over}
use Rattle.scan.proofs.Orders.{digit_bounds}
use Rattle.scan.proofs.Words.{upper_miss, word_missed}
use Rattle.marks.specs.declared.Inside.TheVariants as inside
use Rattle.marks.specs.declared.Skip.TheVariants.{Past}
use Rattle.marks.specs.rule.Marks.{string_of}
use Rattle.marks.specs.Spelling.{Piece, Spelt}
use Rattle.marks.specs.Spelling as spelling
use Rattle.marks.proofs.Complete.{skip_piece, string_complete}
use Rattle.tokens.specs.rule.Gap.{gap_at}
use Rattle.tokens.proofs.Gaps.{gap_blank}
use Rattle.tokens.proofs.Leads.{space_parts}
use Rattle.steps.specs.declared.Span.{Span}
use Rattle.steps.specs.Step.{span, found_in, word_found, statement_past, number_span}
use Rattle.steps.specs.Step.{phrase_in}
use Rattle.steps.specs.Step.{string_span, value_span}
use Rattle.steps.specs.Law.{found}
use Rattle.steps.specs.Quiet.{Quiet, quiet_byte, gap_to, string_to}
use Rattle.looks.specs.Plain.{Plain}
use Rattle.statements.specs.rule.Words.{SPECIAL}
use Rattle.looks.specs.Stand.{Stands, Framed, stands_end, stands_at, stands_first}
use Rattle.looks.specs.Each.{Each, Kept, On, ValueAt, each_none, each_then, each_one, each_as, each_same, kept_plain, on_kept}

-- ---- texts and strings
-- what a string's reader passes from a place in plain text on: up to another place it finds nothing but kept bytes, and reads on there
pub record Shown (d : List ℕ) (a e : ℕ) : Type 0 where
  pub same : string_of inside.Plain (text d a) ≡ string_of inside.Plain (text d e)
  pub kept : Each (Kept d) a e

on_next : {d : List ℕ} (j : ℕ) → On d j → string_of inside.Plain (text d j) ≡ string_of inside.Plain (text d (j + 1))
on_next {d} j o = rw (text_kept d j o.within (kept_byte (get_or d j 0) o.byte.above))
    (skip_piece (spelling.plain o.byte.no_quote o.byte.no_brace))

pub shown_text : {d : List ℕ} {a e : ℕ} → Each (On d) a e → Shown d a e
shown_text {d} x = record { same = each_same (λ j. string_of inside.Plain (text d j)) on_next x; kept = on_kept x }

pub shown_none : (d : List ℕ) (a : ℕ) → Shown d a a
shown_none d a = record { same = refl; kept = each_none (Kept d) a }

pub shown_then : {d : List ℕ} {a b e : ℕ} → Shown d a b → Shown d b e → Shown d a e
shown_then x y = record { same = x.same ∙ y.same; kept = each_then x.kept y.kept }

-- a quote or an opening brace in braces
module _ {d : List ℕ} {n b e : ℕ} (x : Stands d n (123 ∷ b ∷ 125 ∷ []) e) where
  form_kept : 32 ≤ b → Each (Kept d) n (n + 3)
  form_kept h =
      let i : n + 1 + 1 ≡ n + 2 = omega arith in
      let j : n + 2 + 1 ≡ n + 3 = omega arith in
      let q = stands_end x in
      let o = stands_first x (omega arith) in
      let p = stands_at x 1 (omega arith) in
      let z = stands_at x 2 (omega arith) in
      let one : Each (Kept d) n (n + 1) = each_one (record { within = omega (arith, x.within); above = omega (arith, o) }) in
      let two : Each (Kept d) (n + 1) (n + 2) = rw i at
      (each_one {f = Kept d} {a = n + 1} (record { within = omega (arith, x.within); above = omega (arith, p) })) in
      let three : Each (Kept d) (n + 2) (n + 3) = rw j at
      (each_one {f = Kept d} {a = n + 2} (record { within = omega (arith, x.within); above = omega (arith, z) })) in
      each_then one (each_then two three)

  -- a text's piece, where the three bytes are one
  form_shown : 32 ≤ b → ((u : Text) → string_of inside.Plain (sign n 123 (sign (n + 1) b (sign (n + 2) 125 u))) ≡ string_of inside.Plain u)
      → (n < e) × (e ≤ length d) × Shown d n e
  form_shown h f =
      let q : e ≡ n + 3 = stands_end x in
      let o = stands_first x (omega arith) in
      let p = stands_at x 1 (omega arith) in
      let z = stands_at x 2 (omega arith) in
      let i : n + 1 + 1 ≡ n + 2 = omega arith in
      let j : n + 2 + 1 ≡ n + 3 = omega arith in
      let s : string_of inside.Plain (text d n) ≡ string_of inside.Plain (text d (n + 3)) =
      rw (
        text_kept d n (omega (arith, x.within)) (kept_byte (get_or d n 0) (omega (arith, o))),
        o,
        text_kept d (n + 1) (omega (arith, x.within)) (kept_byte (get_or d (n + 1) 0) (omega (arith, p))),
        p,
        i,
        text_kept d (n + 2) (omega (arith, x.within)) (kept_byte (get_or d (n + 2) 0) (omega (arith, z))),
        z,
        j,
      ) (f (text d (n + 3))) in
      (omega arith, x.within, rw q (record { same = s; kept = form_kept h }))

pub quote_shown : {d : List ℕ} {n e : ℕ} → Stands d n (123 ∷ 34 ∷ 125 ∷ []) e → (n < e) × (e ≤ length d) × Shown d n e
quote_shown x = form_shown x (omega arith) (λ u. skip_piece spelling.quote)

pub brace_shown : {d : List ℕ} {n e : ℕ} → Stands d n (123 ∷ 123 ∷ 125 ∷ []) e → (n < e) × (e ≤ length d) × Shown d n e
brace_shown x = form_shown x (omega arith) (λ u. skip_piece spelling.brace)

-- a string behind one space, whose closing quote ends its line
pub record Quoted (d : List ℕ) (a e : ℕ) : Type 0 where
  pub shut : ℕ
  pub opened : Stands d a (32 ∷ 34 ∷ []) (a + 2)
  pub text : Plain d (a + 2) shut
  pub closed : Stands d shut (34 ∷ 13 ∷ 10 ∷ []) e
  pub ends : shut + 3 ≡ e
  pub is : string_span d a ≡ span (a + 2) shut (shut + 1) 0

module _ {d : List ℕ} {a q : ℕ} (o : Stands d a (32 ∷ 34 ∷ []) (a + 2)) (w : Shown d (a + 2) q) (h : q < length d)
    (z : get_or d q 0 ≡ 34) where
  shown_string : string_span d a ≡ span (a + 2) q (q + 1) 0
  unfolding string_span phrase_in
  shown_string =
      let n : a + 1 < length d = omega (arith, o.within) in
      let s : get_or d a 0 ≡ 32 = stands_first o (omega arith) in
      let two : a + 1 + 1 ≡ a + 2 = omega arith in
      let one : q + 1 - 1 ≡ q = omega arith in
      let k = text_kept d q h (kept_byte (get_or d q 0) (omega arith)) in
      let c : string_of inside.Plain (text d q) ≡ Past (q + 1) = rw (k, z) (string_complete spelling.closed) in
      rw (string_to d a (a + 1) (gap_blank d a (omega arith) (omega arith)) n (stands_at o 1 (omega arith)), two, w.same, c, two, one)

pub quoted_is : {d : List ℕ} {a b q e : ℕ} → Stands d a (32 ∷ 34 ∷ []) b → Shown d b q → Stands d q (34 ∷ 13 ∷ 10 ∷ []) e → Quoted d a e
quoted_is {d} {a} {b} {q} {e} x w y =
    let m : b ≡ a + 2 = stands_end x in
    let n : e ≡ q + 3 = stands_end y in
    let x' : Stands d a (32 ∷ 34 ∷ []) (a + 2) = rw m at x in
    let w' : Shown d (a + 2) q = rw m at w in
    record {
      shut = q;
      opened = x';
      text = kept_plain w'.kept (omega (arith, y.within));
      closed = y;
      ends = omega arith;
      is = shown_string x' w' (omega (arith, y.within)) (stands_first y (omega arith));
    }

-- the same with SPECIAL between the quote and the line's end
pub record Special (d : List ℕ) (a e : ℕ) : Type 0 where
  pub shut : ℕ
  pub opened : Stands d a (32 ∷ 34 ∷ []) (a + 2)
  pub text : Plain d (a + 2) shut
  pub closed : Stands d shut (34 ∷ 32 ∷ SPECIAL ++ 13 ∷ 10 ∷ []) e
  pub is : string_span d a ≡ span (a + 2) shut (shut + 1) 0

pub special_is : {d : List ℕ} {a b q e : ℕ} → Stands d a (32 ∷ 34 ∷ []) b → Shown d b q → Stands d q (34 ∷ 32 ∷ SPECIAL ++ 13 ∷ 10 ∷ []) e
    → Special d a e
special_is {d} {a} {b} {q} {e} x w y =
    let m : b ≡ a + 2 = stands_end x in
    let n : e ≡ q + 11 = stands_end y in
    let x' : Stands d a (32 ∷ 34 ∷ []) (a + 2) = rw m at x in
    let w' : Shown d (a + 2) q = rw m at w in
    record {
      shut = q;
      opened = x';
      text = kept_plain w'.kept (omega (arith, y.within));
      closed = y;
      is = shown_string x' w' (omega (arith, y.within)) (stands_first y (omega arith));
    }

-- ---- words
-- letters, none of them small
unfoldable pub letters : List ℕ → Bool
letters [] = true
letters (x ∷ w) = (leb 65 x && ltb x 97) && letters w

-- a word of such letters that does not begin as NOTE does: where it stands just so no note begins
unfoldable pub opens : List ℕ → Bool
opens [] = false
opens (x ∷ w) = letters (x ∷ w) && (not (eqb x 78) || eqb (get_or w 0 0) 65)

-- another byte than its first letter is there
pub found_not : (d : List ℕ) (n m : ℕ) (w : List ℕ) → Quiet d m → gap_at d n ≡ gap_at d m → 0 < length w
    → (get_or d m 0 ≡ get_or w 0 0 → ⊥) → (get_or d m 0 ≡ get_or w 0 0 + 32 → ⊥) → word_found d n w ≡ found false m
unfolding word_found found_in word_at
found_not d n m w q e l f h = rw (
  gap_to d n m e q.token,
  word_missed d m w q.within (λ z. omega arith) (omega (arith, q.above)) (upper_miss (get_or d m 0) (get_or w 0 0) f h),
)

-- one space
pub blank_stands : {d : List ℕ} {a b : ℕ} → Stands d a (32 ∷ []) b → gap_at d a ≡ gap_at d b
blank_stands {d} {a} {b} y =
    let i : a + 1 ≡ b = sym (stands_end y) in
    rw i at (gap_blank d a (omega (arith, y.within, i)) (omega (arith, stands_first y (omega arith))))

-- ---- lines
-- a line that stands from g to before e: a stretch between literals, which is what a reader finds from any place that a gap leads from to g
pub record Lined (d : List ℕ) (g : ℕ) (pre post : List ℕ) (told : ℕ → Span) (e : ℕ) : Type 0 where
  pub stretch : Span
  pub frame : Framed d g pre stretch post e
  pub plain : Plain d stretch.from stretch.end
  pub next : stretch.next ≡ e - 2
  pub is : (n : ℕ) → gap_at d n ≡ gap_at d g → told n ≡ stretch

abbrev pub NumberLine : List ℕ → ℕ → List ℕ → ℕ → Type 0
NumberLine d g w e = Lined d g (w ++ 32 ∷ []) (13 ∷ 10 ∷ []) (λ n. number_span d (statement_past d n w)) e

abbrev pub PhraseLine : List ℕ → ℕ → List ℕ → ℕ → Type 0
PhraseLine d g w e = Lined d g (w ++ 32 ∷ 34 ∷ []) (34 ∷ 13 ∷ 10 ∷ []) (λ n. string_span d (statement_past d n w)) e

-- ---- values
value_bounds : (b : ℕ) → is_value b ≡ true → (43 ≤ b) × (b ≤ 57)
unfolding is_value
value_bounds b e = ⊎_elim (λ f. let r = digit_bounds b f in (omega (arith, r.0), r.1))
    (λ f. ⊎_elim (λ g. let r = eqb-true b 43 g in (omega (arith, r), omega (arith, r)))
    (λ g. ⊎_elim (λ h. let r = eqb-true b 45 h in (omega (arith, r), omega (arith, r)))
    (λ h. let r = eqb-true b 46 h in (omega (arith, r), omega (arith, r))) (either_true (eqb b 45) (eqb b 46) g))
    (either_true (eqb b 43) (eqb b 45 || eqb b 46) f))
    (either_true (is_digit b) (eqb b 43 || (eqb b 45 || eqb b 46)) e)

module _ {d : List ℕ} {j : ℕ} (v : ValueAt d j) where
  pub value_range : (43 ≤ get_or d j 0) × (get_or d j 0 ≤ 57)
  value_range = value_bounds (get_or d j 0) v.is

  value_kept : Kept d j
  value_kept = record { within = v.within; above = omega (arith, value_range.0) }

  pub value_quiet : Quiet d j
  value_quiet =
      let r = value_range in
      quiet_byte d j v.within (omega (arith, r.0)) (λ z. omega (arith, r.1)) (λ z. omega (arith, r.1)) (λ z. omega (arith, r.1))

value_next : {d : List ℕ} (j : ℕ) → ValueAt d j → run_of is_value j (text d j) ≡ run_of is_value (j + 1) (text d (j + 1))
value_next {d} j v =
    run_next is_value j (text_kept d j v.within (kept_byte (get_or d j 0) (omega (arith, (value_range v).0)))) v.is

-- a value, behind which a string opens
pub record Valued (d : List ℕ) (n v : ℕ) : Type 0 where
  pub first : ValueAt d n
  pub plain : Plain d n v
  pub value : value_span d n ≡ span n v v 0

pub valued : {d : List ℕ} {n v : ℕ} → (v ≡ n → ⊥) → Each (ValueAt d) n v → Stands d v (32 ∷ 34 ∷ []) (v + 2) → Valued d n v
unfolding value_span
valued {d} {n} {v} o s x =
    let h : n < v = omega (arith, o, s.on) in
    let z : get_or d v 0 ≡ 32 = stands_first x (omega arith) in
    let l : v < length d = omega (arith, x.within) in
    let r = each_same (λ j. run_of is_value j (text d j)) value_next s in
    let f : run_of is_value v (text d v) ≡ v =
    run_over is_value v (text_kept d v l (kept_byte (get_or d v 0) (omega arith))) (space_parts (get_or d v 0) z) in
    record {
      first = s.each n (omega arith) h;
      plain = kept_plain (each_as (λ j g. value_kept g) s) (omega arith);
      value = rw (r, f);
    }

-- no range begins there: behind the value stands a quote, and no TO
pub record Opened (d : List ℕ) (n v : ℕ) : Type 0 where
  pub is : Valued d n v
  pub opens : Stands d v (32 ∷ 34 ∷ []) (v + 2)

pub opened_is : {d : List ℕ} {n v e : ℕ} → (v ≡ n → ⊥) → Each (ValueAt d) n v → Stands d v (32 ∷ 34 ∷ []) e → Opened d n v
opened_is {d} {n} {v} o s x =
    let q = stands_end x in
    let y : Stands d v (32 ∷ 34 ∷ []) (v + 2) = rw q at x in
    record { is = valued o s y; opens = y }

-- a value, one space and a string that ends its line
pub record ValueLine (d : List ℕ) (n e : ℕ) : Type 0 where
  pub last : ℕ
  pub is : Valued d n last
  pub quoted : Quoted d last e

pub value_lined : {d : List ℕ} {n v e : ℕ} → (v ≡ n → ⊥) → Each (ValueAt d) n v → Quoted d v e → ValueLine d n e
value_lined o s q = record { last = _; is = valued o s q.opened; quoted = q }

-- the same with SPECIAL behind the string
pub record SpecialLine (d : List ℕ) (n e : ℕ) : Type 0 where
  pub last : ℕ
  pub is : Valued d n last
  pub quoted : Special d last e

pub special_lined : {d : List ℕ} {n v e : ℕ} → (v ≡ n → ⊥) → Each (ValueAt d) n v → Special d v e → SpecialLine d n e
special_lined o s q = record { last = _; is = valued o s q.opened; quoted = q }
