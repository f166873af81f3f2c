-- VALUES and its lines.
use Rattle.std.specs.Prelude.{◌≡◌, Bool, cond, not, ◌&&◌, length}
use Rattle.std.proofs.Math.Path.{refl, ap}
use Rattle.std.proofs.Common.{sym, ◌∙◌, le_of_suc-le-suc, not-suc-le-zero, arith}
use Rattle.std.proofs.Math.Bool.{true, false}
use mathlib.Core.List.{List, [], ◌∷◌, ◌++◌, append_assoc, append-nil, map}
use Rattle.std.proofs.Math.Option.{Option, none, some}
use Prim.Native.Nat.{ℕ, zero, suc, ◌+◌, ◌-◌, ◌≤◌, ◌<◌}
use Rattle.scan.specs.rule.Text.{text, sign}
use Rattle.scan.specs.Word.{capitals}
use Rattle.statements.specs.rule.Words.{NOTE, TO, WITH, VALUES, SPECIAL, END}
use Rattle.survey.specs.rule.Survey.{Amount, KeptText, Range, Line, Block}
use Rattle.grammar.specs.Token.{Gap, NoWord, Here, Keyword, keyword, Value, String, Notes, Statement, End, Whether, yes, no}
use Rattle.grammar.specs.Token as token
use Rattle.grammar.specs.Grammar as says
use Rattle.grammar_laws.specs.Places.{differ, other_word}
use Rattle.grammar_laws.specs.Lines.{value_no_word, quote_no_word}
use Rattle.clean_text.specs.rule.Span.{span_of}
use Rattle.clean_text.specs.rule.Clean.{Token, line_of, clean_text, amount_token, quoted_token, value_line, range_line, values_lines}
use Rattle.clean_text.specs.rule.Clean.{marked}
use Rattle.clean_text.specs.rule.Clean.{some_line}
use Rattle.steps.specs.declared.Span.{Span}
use Rattle.steps.specs.Step.{span, value_span, string_span, word_found, statement_found, statement_past, keyword_past, notes_past}
use Rattle.steps.specs.Law.{notes_past_lem, notes_before, gap_past_lem, statement_past_lem, keyword_past_lem, statement_found_lem}
use Rattle.steps.specs.Law.{statement_missed}
use Rattle.steps.specs.Law.{whether_past, given_past, absent_past, value_past, string_past}
use Rattle.pages.specs.declared.RangeParts.{RangeParts}
use Rattle.pages.specs.Page.{Page, page, before, framed, line_at, line_text, lines_page, range_parts, range_at, range_text, block_page}
use Rattle.pages.specs.Page.{values_page}
use Rattle.page_laws.specs.Tokens.{string_end, end_page_lem}

-- lines one list behind the other
pub text_append : (a b : List (List Token)) → clean_text (a ++ b) ≡ clean_text a ++ clean_text b
unfolding clean_text
text_append [] b = refl
text_append (l ∷ a) b = ap (λ (s : List ℕ). line_of l ++ s) (text_append a b) ∙ sym (append_assoc (line_of l) (clean_text a) (clean_text b))

module _ (d : List ℕ) where
  value_not_note : {n m : ℕ} {a : Amount} → Value d n a m → NoWord d NOTE n
  value_not_note v = value_no_word d 78 (79 ∷ 84 ∷ 69 ∷ []) (omega arith) v

  value_not_end : {n m : ℕ} {a : Amount} → Value d n a m → NoWord d END n
  value_not_end v = value_no_word d 69 (78 ∷ 68 ∷ []) (omega arith) v

  -- ---- a line
  pub record Lined (n : ℕ) (l : Line) (m : ℕ) : Type 0 where
    pub line : line_text d (line_at d n) ≡ line_of (value_line d l)
    pub stands : (line_at d n).next ≡ m

  line_words : (v t : List ℕ) (s : Bool)
      → ([] ++ (v ++ (32 ∷ 34 ∷ []))) ++ cond s ([] ++ (t ++ (34 ∷ 32 ∷ SPECIAL ++ 13 ∷ 10 ∷ []))) ([] ++ (t ++ (34 ∷ 13 ∷ 10 ∷ [])))
      ≡ line_of (v ∷ (34 ∷ t ++ 34 ∷ []) ∷ marked d s SPECIAL)
  unfolding line_of
  line_words v t true =
      append_assoc v (32 ∷ 34 ∷ []) (t ++ (34 ∷ 32 ∷ SPECIAL ++ 13 ∷ 10 ∷ []))
      ∙ ap (λ (l : List ℕ). v ++ (32 ∷ 34 ∷ l)) (sym (append_assoc t (34 ∷ []) (32 ∷ SPECIAL ++ 13 ∷ 10 ∷ [])))
  line_words v t false =
      append_assoc v (32 ∷ 34 ∷ []) (t ++ (34 ∷ 13 ∷ 10 ∷ []))
      ∙ ap (λ (l : List ℕ). v ++ (32 ∷ 34 ∷ l)) (sym (append_assoc t (34 ∷ []) (13 ∷ 10 ∷ [])))

  pub line_page : {n m : ℕ} {l : Line} → says.Line d n l m → Lined n l m
  unfolding line_at line_text framed capitals
  line_page (says.line {a = a} {t = t} {s = s} r v x w) =
      record {
        line = rw (
          notes_past_lem d r (value_not_note v),
          value_past d v,
          string_past d x,
          whether_past d {w = SPECIAL} refl w,
          string_end d x,
        )
            (line_words (amount_token d a) (span_of d t.place (t.place + t.length)) s);
        stands = rw (notes_past_lem d r (value_not_note v), value_past d v, string_past d x, whether_past d {w = SPECIAL} refl w);
      }

  -- ---- the lines of a block: another value is no END
  more_found : {n m : ℕ} {l : List Line} → says.Lines d n l m → (statement_found d n END).there ≡ false
  unfolding capitals
  more_found (says.last (says.line r v x w) e) = rw (statement_missed d {w = END} refl r (value_not_note v) (value_not_end v))
  more_found (says.more (says.line r v x w) y) = rw (statement_missed d {w = END} refl r (value_not_note v) (value_not_end v))

  pub lines_page_lem : (k : ℕ) {n m : ℕ} {l : List Line} → says.Lines d n l m → length l ≤ k → lines_page k d n
      ≡ page (clean_text (map (value_line d) l)) m
  unfolding lines_page clean_text capitals differ
  lines_page_lem zero (says.last x e) h = absurd (not-suc-le-zero h)
  lines_page_lem zero (says.more x y) h = absurd (not-suc-le-zero h)
  lines_page_lem (suc k) (says.last x (token.end s y)) h =
      let p = line_page x in
      rw (p.line, p.stands, statement_found_lem d {w = END} refl refl s, keyword_past_lem d {w = VALUES} refl y)
  lines_page_lem (suc k) (says.more x y) h =
      let p = line_page x in
      rw (p.line, p.stands, more_found y, lines_page_lem k y (le_of_suc-le-suc h))

  -- ---- the range
  range_words : (a b : List ℕ) (w : Bool)
      → ([] ++ (a ++ (32 ∷ TO ++ 32 ∷ []))) ++ cond w ([] ++ (b ++ (32 ∷ WITH ++ 13 ∷ 10 ∷ []))) ([] ++ (b ++ (13 ∷ 10 ∷ [])))
      ≡ line_of (a ∷ TO ∷ b ∷ marked d w WITH)
  unfolding line_of
  range_words a b true = append_assoc a (32 ∷ TO ++ 32 ∷ []) (b ++ (32 ∷ WITH ++ 13 ∷ 10 ∷ []))
  range_words a b false = append_assoc a (32 ∷ TO ++ 32 ∷ []) (b ++ (13 ∷ 10 ∷ []))

  said : Amount → ℕ → Span
  said a m = span a.place a.end m 0

  pub record Bounded (n : ℕ) (r : Range) (w : Bool) (m : ℕ) : Type 0 where
    pub there : (range_at d n).there ≡ true
    pub with : (range_at d n).with ≡ w
    pub stands : (range_at d n).next ≡ m
    pub line : range_text d (range_at d n) ≡ line_of (amount_token d r.from ∷ TO ∷ amount_token d r.to ∷ marked d w WITH)

  range_there : {n k j i h g m : ℕ} {a b : Amount} {w : Bool} → Notes d n k → Value d k a j → Keyword d TO j i → Gap d i h → Value d h b g
      → Whether d WITH g w m → range_at d n ≡ range_parts true (span a.place a.end j 0) (span b.place b.end g 0) w m
  unfolding range_at capitals
  range_there r v t g u w =
      rw (
        notes_past_lem d r (value_not_note v),
        value_past d v,
        given_past d {w = TO} refl t,
        gap_past_lem d g,
        value_past d u,
        whether_past d {w = WITH} refl w,
      )

  pub range_page : {n k m : ℕ} {r : Range} {w : Bool} → says.Bounds d n r k → Whether d WITH k w m → Bounded n r w m
  unfolding range_text framed
  range_page {w = q} (says.bounds {a = a} {b = b} r v t g u) w =
      let e = range_there r v t g u w in
      record { there = rw e; with = rw e; stands = rw e; line = rw e (range_words (amount_token d a) (amount_token d b) q) }

  -- no range: the value of a line is followed by a quote
  abbrev Unbounded : ℕ → Type 0
  Unbounded n = ((range_at d n).there ≡ false) × ((range_at d n).next ≡ n) × (range_text d (range_at d n) ≡ [])

  range_by : {n k j i : ℕ} {a : Amount} {t : KeptText} → Notes d n k → Value d k a j → String d j t i → Unbounded n
  unfolding range_at range_text capitals
  range_by r v (token.string g e s) =
      let z = notes_past_lem d r (value_not_note v) in
      let y = value_past d v in
      let q = absent_past d {w = TO} refl g (quote_no_word d 84 (79 ∷ []) (omega arith) e) in
      (rw (z, y, q), rw (z, y, q), rw (z, y, q))

  pub range_none : {n m : ℕ} {l : List Line} → says.Lines d n l m → Unbounded n
  range_none (says.last (says.line r v x w) e) = range_by r v x
  range_none (says.more (says.line r v x w) y) = range_by r v x

  -- ---- VALUES to END VALUES
  block_text : (r : List (List Token)) (l : List (List Token))
      → clean_text ((VALUES ∷ []) ∷ r ++ l ++ (END ∷ VALUES ∷ []) ∷ [])
      ≡ (VALUES ++ 13 ∷ 10 ∷ []) ++ (clean_text r ++ (clean_text l ++ (END ++ 32 ∷ VALUES ++ 13 ∷ 10 ∷ [])))
  unfolding clean_text line_of
  block_text r l =
      text_append (((VALUES ∷ []) ∷ r) ++ l) ((END ∷ VALUES ∷ []) ∷ [])
      ∙ ap (λ (s : List ℕ). s ++ last) (text_append ((VALUES ∷ []) ∷ r) l)
      ∙ append_assoc (first ++ clean_text r) (clean_text l) last
      ∙ append_assoc first (clean_text r) (clean_text l ++ last)
    where
      first : List ℕ
      first = VALUES ++ 13 ∷ 10 ∷ []

      last : List ℕ
      last = END ++ 32 ∷ VALUES ++ 13 ∷ 10 ∷ []

  some_lines : {n m : ℕ} {l : List Line} → says.Lines d n l m → some_line d l ≡ true
  some_lines (says.last x e) = refl
  some_lines (says.more x y) = refl

  one_line : (l : List Token) → clean_text (l ∷ []) ≡ line_of l
  unfolding clean_text
  one_line l = append-nil (line_of l)

  end_past : {n m : ℕ} → End d VALUES n m → keyword_past d (statement_past d n END) VALUES ≡ m
  unfolding capitals differ
  end_past (token.end s y) = rw (statement_past_lem d {w = END} refl refl s, keyword_past_lem d {w = VALUES} refl y)

  pub values_page_lem : {n m : ℕ} {b : Block} → says.Values d n b m → length b.lines ≤ 4096 → values_page d n
      ≡ page (clean_text (values_lines d b)) m
  unfolding values_page values_lines block_page clean_text capitals differ
  values_page_lem {m = m} (says.listed {l = l} s x) h =
      let r = range_none x in
      rw (statement_past_lem d {w = VALUES} refl refl s, r.2, r.0, r.1, lines_page_lem 4096 x h)
      (ap (λ (t : List ℕ). page t m) (sym (block_text [] (map (value_line d) l))))
  values_page_lem {m = m} (says.ranged {r = r} s b w e) h =
      let q = range_page b w in
      rw (statement_past_lem d {w = VALUES} refl refl s, q.line, q.there, q.with, q.stands, end_past e)
      (ap (λ (t : List ℕ). page t m) (sym (block_text ((amount_token d r.from ∷ TO ∷ amount_token d r.to ∷ []) ∷ []) []
      ∙ rw (one_line (amount_token d r.from ∷ TO ∷ amount_token d r.to ∷ [])))))
  values_page_lem {m = m} (says.both {r = r} {l = l} s b w x) h =
      let q = range_page b w in
      rw (statement_past_lem d {w = VALUES} refl refl s, q.line, q.there, q.with, q.stands, lines_page_lem 4096 x h)
      (ap (λ (t : List ℕ). page t m) (sym (rw (some_lines x)
      (block_text ((amount_token d r.from ∷ TO ∷ amount_token d r.to ∷ WITH ∷ []) ∷ []) (map (value_line d) l)
      ∙ rw (one_line (amount_token d r.from ∷ TO ∷ amount_token d r.to ∷ WITH ∷ []))))))
