-- PRINTED VALUES: the range with its WITH, the lines with their SPECIAL, END VALUES.
use Rattle.std.specs.Prelude.{◌≡◌, Bool, List, [], ◌∷◌, ◌++◌, map, ℕ, eqb}
use Rattle.std.proofs.Math.Path.{refl}
use Rattle.std.proofs.Math.Bool.{true, false, cond}
use Rattle.std.proofs.Common.{eqb-true}
use Rattle.ascii.specs.rule.Class.{class_of}
use Rattle.scan.specs.rule.Number.{is_digit, is_value}
use Rattle.statements.specs.rule.Words.{TO, VALUES, SPECIAL, END}
use Rattle.survey.specs.rule.Survey.{Amount, Range, Line, Block}
use Rattle.clean_text.specs.rule.Clean.{amount_token, quoted_token, marked, value_line, values_lines}
use Rattle.grammar.specs.Token.{Gap, Whether, yes}
use Rattle.grammar.specs.Token as token
use Rattle.grammar.specs.Grammar.{Bounds, bounds, Lines, last, Values}
use Rattle.grammar.specs.Grammar as grammar
use Rattle.printed.specs.Left.{no, Left, Ends, Yields, yields, after, taking, both}
use Rattle.printed.specs.Words.{solid, unlike, gap_none, gap_space, keyword_there, statement_there, end_there, no_word_there}
use Rattle.printed.specs.Runs.{stops, AmountSaid, amount_said, value_solid}
use Rattle.printed.specs.Strings.{string_there}
use Rattle.printed.specs.Lines.{All, ink_then, inks_then, inks_append}
use Rattle.printed.specs.Lines as printed
use Rattle.clean_laws.specs.Said.{LineSaid, RangeSaid, BlockSaid}
use Rattle.clean_laws.specs.Said as said
use Rattle.clean_laws.specs.Same.{Alike, nil, more, neither, either, SameLine, SameRange, SameBlock}
use Rattle.clean_laws.specs.Statements.{amount_there}

-- ---- what may follow a line: no space, no comment, and not the S of SPECIAL
pub data Follows : List ℕ → Type 0 where
  follows : {b : ℕ} {u : List ℕ} → solid b ≡ true → unlike 83 b ≡ true → Follows (b ∷ u)

value_unlike : (b : ℕ) → is_value b ≡ true → unlike 83 b ≡ true
unfolding is_value unlike is_digit class_of
value_unlike b e = by (eqb b 83) (eqb b 115) refl refl where
  by : (x y : Bool) → eqb b 83 ≡ x → eqb b 115 ≡ y → cond x false (cond y false true) ≡ true
  by true y h i = let z : is_value 83 ≡ true = rw (eqb-true b 83 h) at e in no z
  by false true h i = let z : is_value 115 ≡ true = rw (eqb-true b 115 i) at e in no z
  by false false h i = refl

module _ (d p : List ℕ) where
  amount_follows : {a : Amount} (u : List ℕ) → AmountSaid d a → Follows (amount_token d a ++ u)
  amount_follows u (amount_said {b = b} {s = s} i h) =
      let c = (both is_value b s h).0 in rw i.span (follows (value_solid b c) (value_unlike b c))

  -- a gap before a value: none, or a space
  gap_amount : {a : Amount} {n : ℕ} (u : List ℕ) → AmountSaid d a → Left p n (amount_token d a ++ u)
      → Ends p (Gap p n) (amount_token d a ++ u)
  gap_amount u (amount_said {b = b} {s = s} i h) l =
      rw i.span (gap_none p (value_solid b (both is_value b s h).0) (rw i.span at l))

  space_amount : {a : Amount} {n : ℕ} (u : List ℕ) → AmountSaid d a → Left p n (32 ∷ amount_token d a ++ u)
      → Ends p (Gap p n) (amount_token d a ++ u)
  space_amount u (amount_said {b = b} {s = s} i h) l =
      rw i.span (gap_space p (value_solid b (both is_value b s h).0) (rw i.span at l))

  -- ---- a line: a value, a string, SPECIAL or not
  special_there : {n : ℕ} {u : List ℕ} (q : Bool) → Follows u → Left p n (cond q (32 ∷ SPECIAL ++ u) u)
      → Yields p (Whether p SPECIAL n) (λ (r : Bool). r ≡ q) u
  unfolding solid
  special_there true f l = after p (keyword_there p refl l) λ m k l. yields (yes k) refl l
  special_there false (follows a b) l = after p (gap_none p a l) λ m g l. yields (token.no g (no_word_there p b l)) refl l

  -- the printed line, its SPECIAL behind it
  line_ink : (l : Line) (u : List ℕ)
      → ink_then (value_line d l) u ≡ amount_token d l.value ++ (32 ∷ quoted_token d l.text ++ cond l.special (32 ∷ SPECIAL ++ u) u)
  unfolding ink_then
  line_ink l u = by l.special where
    by : (q : Bool) → ink_then (amount_token d l.value ∷ quoted_token d l.text ∷ marked d q SPECIAL) u
        ≡ amount_token d l.value ++ (32 ∷ quoted_token d l.text ++ cond q (32 ∷ SPECIAL ++ u) u)
    by true = refl
    by false = refl

  line_there : {l : Line} {n : ℕ} {u : List ℕ} → LineSaid d l → Follows u → Left p n (ink_then (value_line d l) u)
      → Yields p (grammar.Line p n) (SameLine d p l) u
  unfolding stops is_value is_digit class_of
  line_there {l} {n} {u} s f x =
      after p (gap_amount _ s.value (rw (line_ink l u) at x)) λ k g x.
      taking p (amount_there d p s.value refl x) λ a j v r x.
      taking p (string_there d p s.text x) λ t i z q x.
      taking p (special_there l.special f x) λ o m w e x.
      yields (grammar.line (token.Notes.no_more g) v z w) (record { value = r; text = q; special = e }) x

  -- ---- lines, and END VALUES
  abbrev ending : List ℕ → List ℕ
  ending u = END ++ (32 ∷ VALUES ++ u)

  lines_follow : {ls : List Line} (u : List ℕ) → All (LineSaid d) ls → Follows (inks_then (map (value_line d) ls) (ending u))
  unfolding inks_then solid unlike
  lines_follow u printed.nil = follows refl refl
  lines_follow u (printed.more {a = l} {l = ls} s r) =
      rw (line_ink l (inks_then (map (value_line d) ls) (ending u))) (amount_follows _ s.value)

  lines_there : {l : Line} {ls : List Line} {n : ℕ} {u : List ℕ} → All (LineSaid d) (l ∷ ls)
      → Left p n (inks_then (map (value_line d) (l ∷ ls)) (ending u)) → Yields p (Lines p n) (Alike (SameLine d p) (l ∷ ls)) u
  unfolding inks_then solid
  lines_there {u = u} (printed.more s printed.nil) x =
      taking p (line_there s (lines_follow u printed.nil) x) λ a k z r x.
      after p (end_there p refl x) λ m e x.
      yields (last z e) (more r nil) x
  lines_there {u = u} (printed.more s (printed.more t q)) x =
      taking p (line_there s (lines_follow u (printed.more t q)) x) λ a k z r x.
      taking p (lines_there (printed.more t q) x) λ b m y w x.
      yields (grammar.Lines.more z y) (more r w) x

  -- ---- the range, and what stands behind it
  bounds_there : {r : Range} {n : ℕ} {u : List ℕ} → RangeSaid d r → stops is_value u ≡ true
      → Left p n (amount_token d r.from ++ (32 ∷ TO ++ (32 ∷ amount_token d r.to ++ u))) → Yields p (Bounds p n) (SameRange d p r) u
  unfolding stops is_value is_digit class_of solid
  bounds_there s h x =
      after p (gap_amount _ s.from x) λ k g x.
      taking p (amount_there d p s.from refl x) λ a j v r x.
      after p (keyword_there p refl x) λ i w x.
      after p (space_amount _ s.to x) λ f o x.
      taking p (amount_there d p s.to h x) λ b m z q x.
      yields (bounds (token.Notes.no_more g) v w o z) (record { from = r; to = q }) x

  -- ---- the block
  pub values_printed : {b : Block} {n : ℕ} {u : List ℕ} → BlockSaid d b → Left p n (inks_then (values_lines d b) u)
      → Yields p (Values p n) (SameBlock d p b) u
  unfolding values_lines inks_then ink_then stops is_value is_digit class_of solid unlike
  values_printed {u = u} (said.listed {l = l} {ls = ls} s) x =
      let e = inks_append (map (value_line d) (l ∷ ls)) ((END ∷ VALUES ∷ []) ∷ []) u in
      after p (statement_there p refl (rw e at x)) λ k v x.
      taking p (lines_there s x) λ a m z r x.
      yields (grammar.listed v z) (record { range = neither; lines = r }) x
  values_printed (said.ranged s printed.nil) x =
      after p (statement_there p refl x) λ k v x.
      taking p (bounds_there s refl x) λ a j z r x.
      after p (gap_none p refl x) λ i g x.
      after p (end_there p refl x) λ m e y.
      yields (grammar.ranged v z (token.no g (no_word_there p refl x)) e) (record { range = either r; lines = nil }) y
  values_printed {u = u} (said.ranged s (printed.more {a = l} {l = ls} t q)) x =
      let e = inks_append (map (value_line d) (l ∷ ls)) ((END ∷ VALUES ∷ []) ∷ []) u in
      after p (statement_there p refl (rw e at x)) λ k v x.
      taking p (bounds_there s refl x) λ a j z r x.
      after p (keyword_there p refl x) λ i w x.
      taking p (lines_there (printed.more t q) x) λ b m y o x.
      yields (grammar.both v z (yes w) y) (record { range = either r; lines = o }) x
